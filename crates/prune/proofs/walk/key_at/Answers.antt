use Rattle.std.proofs.Common.{length, option_map, sym, ap, ◌∙◌}
use Rattle.prune.proofs.KeyRows.{same_length}
use Rattle.prune.proofs.walk.key_at.Goals as goal

pub key-requires-clause-same : goal.key-requires-clause-same
key-requires-clause-same c =
    same_length (length c.args.columns.now) c.args.keys.now c.args.place c.in-Some.data.now c.requires.same (sym c.get.ensures ∙ ap (option_map (λ r. r.now)) c.in-Some.is)
