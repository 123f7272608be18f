use Rattle.std.proofs.Common.{All, take}
use Rattle.edge_api.specs.Actor.{Moves}
use Rattle.actor_core.specs.Schedule.{slots_of, FollowsSlots}
use Rattle.actor_core.specs.Faults.{FaultsAreCounted}
use Rattle.actor_core.proofs.schedule.run_items.Given as goal

abbrev pub invariant-loop-item : goal.invariant-loop-item
invariant-loop-item g l = record {
  ready : All g.A.Actor.ready l.actors;
  follows : FollowsSlots (Moves g.A.Actor.goes g.A.Actor.number) g.A.Actor.stands (slots_of (take l.item-index l.items)) (g.W.World.journal l.initial.world) (g.W.World.journal l.world) l.initial.actors l.actors;
  counted : FaultsAreCounted (g.W.World.journal l.initial.world) (g.W.World.journal l.world) (g.W.World.faults l.initial.world) (g.W.World.faults l.world);
}
