use Rattle.std.proofs.Common.{◌∙◌, ap, subst, ℕ, List, []}
use Rattle.std.specs.Prelude.{if◌then◌else◌}
use Rattle.row_base.specs.declared.row.Datum.{Datum}
use Rattle.merge_op.specs.Found.{IsKeyed}
use Rattle.merge_op.specs.Merges.{rows_in}
use Rattle.merge_op.proofs.Keyings.{left_is}
use Rattle.merge_op.proofs.merge.merge_source.Goals as goal

pub returns-clause-added : goal.returns-clause-added
returns-clause-added c =
    let op = c.args.op.now in
    let keyed = subst (λ (keys : List ℕ). IsKeyed keys op.source c.in_ok-keyed.keyed) c.as_slice.ensures c.in_ok-keyed.ensures.keyed in
    c.in_ok-added.ensures
    ∙ ap (λ (l : List (List Datum)). if op.insert then l else [])
    (left_is op.keys op.source (rows_in c.args.files.now) c.in_ok-keyed.keyed c.merge_each.new.keyed keyed c.in_ok-keyed.ensures.unmet c.in_ok-progress.ensures.met)
