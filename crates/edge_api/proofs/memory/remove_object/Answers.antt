use Rattle.std.proofs.Common.{◌∙◌, sym, ap}
use Rattle.std.specs.Map.{lookup}
use Rattle.std.specs.BTreeMap.{is_at}
use Rattle.std.specs.Ordering.{nat_cmp}
use Rattle.std.specs.Cmp.Lexicographic.{slice_cmp}
use Rattle.edge_api.proofs.Objects.{removed}
use Rattle.edge_api.proofs.memory.remove_object.Goals as goal

pub returns : goal.returns
returns c =
    let gone = c.remove.ensures.updates.1 in
    c.remove.ensures.entries ∙ removed c.args.objects.now.entries c.args.name.now (ap (lookup (is_at (slice_cmp nat_cmp c.args.name.now))) (sym c.remove.ensures.entries) ∙ gone)
