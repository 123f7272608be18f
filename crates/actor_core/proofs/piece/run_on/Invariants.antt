use Rattle.std.proofs.Common.{◌≡◌, ◌<◌}
use Rattle.std.specs.Bool.{OnTrue, OnFalse}
use Rattle.actor_core.specs.declared.piece.Till.TheVariants.{End}
use Rattle.edge_api.specs.Actor.{Moves}
use Rattle.actor_core.specs.Piece.{stops}
use Rattle.actor_core.specs.Faults.{FaultsAreCounted}
use Rattle.actor_core.proofs.Pieces.{Led}
use Rattle.actor_core.proofs.piece.run_on.Given as goal

abbrev pub invariant-loop-stopped : goal.invariant-loop-stopped
invariant-loop-stopped g l = record {
  ready : g.A.Actor.ready l.actor;
  is : l.stopped ≡ stops l.till (g.A.Actor.stands l.actor);
  some : OnFalse l.stopped (0 < g.A.Actor.left l.actor);
  ends : OnTrue l.stopped (l.till ≡ End → g.A.Actor.left l.actor ≡ 0);
  led : Led (Moves g.A.Actor.goes g.A.Actor.number) g.A.Actor.stands l.till (g.W.World.journal l.initial.world) (g.W.World.journal l.world) l.initial.actor l.actor;
  counted : FaultsAreCounted (g.W.World.journal l.initial.world) (g.W.World.journal l.world) (g.W.World.faults l.initial.world) (g.W.World.faults l.world);
}

abbrev pub decreases-loop-stopped : goal.decreases-loop-stopped
decreases-loop-stopped g l = g.A.Actor.left l.actor
