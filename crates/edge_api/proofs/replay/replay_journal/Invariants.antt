use Rattle.std.proofs.Common.{◌≡◌, ◌≤◌, drop}
use Rattle.row_base.specs.declared.limits.TheConstants.{LAST_TIME}
use Rattle.edge_api.specs.Journal.{objects_after}
use Rattle.edge_api.specs.Replay.{moments_from, replay_objects}
use Rattle.edge_api.proofs.replay.replay_journal.Given as goal

abbrev pub invariant-loop-entry : goal.invariant-loop-entry
invariant-loop-entry l = record {
  rest : objects_after l.objects.items (moments_from l.clock (drop l.entry-index l.journal)) ≡ replay_objects l.start l.journal;
  bound : l.clock ≤ LAST_TIME;
}
