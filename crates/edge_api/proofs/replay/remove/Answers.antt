use Rattle.std.proofs.Common.{◌∙◌, rules, not}
use Rattle.std.specs.Str.{bytes_eq}
use Rattle.std.proofs.lemmas.Fn.{filter_same}
use Rattle.edge_api.proofs.ObjectLists.{filter-without}
use Rattle.edge_api.proofs.replay.remove.Goals as goal

pub returns : goal.returns
returns c =
    filter_same _ (λ o. not (bytes_eq o.0 c.args.name.now)) _ (λ x b f k. search rules) c.args.objects.now.items c.retain.new.self.items c.retain.ensures.filtered
    ∙ filter-without c.args.objects.now.items c.args.name.now
