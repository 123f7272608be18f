use Rattle.std.proofs.Common.{◌≡◌, drop}
use Rattle.edge_api.specs.Journal.{object_at}
use Rattle.edge_api.proofs.replay.find.Given as goal

abbrev pub invariant-loop-key : goal.invariant-loop-key
invariant-loop-key l = object_at (drop l.key-index l.objects) l.name ≡ object_at l.objects l.name
