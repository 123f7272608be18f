use Rattle.std.proofs.Common.{◌≡◌, All}
use Rattle.std.specs.List.{AllWithin}
use Rattle.edge_api.specs.Actor.{Moves}
use Rattle.actor_core.specs.Schedule.{to_the_end, FollowsSlots}
use Rattle.actor_core.specs.Faults.{FaultsAreCounted}
use Rattle.actor_core.proofs.schedule.run_rest.Given as goal

abbrev pub invariant-loop-actor : goal.invariant-loop-actor
invariant-loop-actor g l = record {
  ready : All g.A.Actor.ready l.actors;
  done : AllWithin (λ a. g.A.Actor.left a ≡ 0) l.actors 0 l.actor-index;
  follows : FollowsSlots (Moves g.A.Actor.goes g.A.Actor.number) g.A.Actor.stands (to_the_end l.actor-index) (g.W.World.journal l.initial.world) (g.W.World.journal l.world) l.initial.actors l.actors;
  counted : FaultsAreCounted (g.W.World.journal l.initial.world) (g.W.World.journal l.world) (g.W.World.faults l.initial.world) (g.W.World.faults l.world);
}
