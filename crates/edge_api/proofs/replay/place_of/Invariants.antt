use Rattle.std.proofs.Common.{◌≡◌, ◌++◌, take, drop}
use Rattle.edge_api.specs.declared.call.Object.{Object}
use Rattle.edge_api.specs.Journal.{with_object}
use Rattle.edge_api.proofs.replay.place_of.Given as goal

abbrev pub invariant-loop-i : goal.invariant-loop-i
invariant-loop-i l = (o : Object) → with_object l.objects l.name o ≡ take l.i l.objects ++ with_object (drop l.i l.objects) l.name o
