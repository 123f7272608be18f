use Rattle.std.proofs.Common.{◌≡◌, ◌<◌, [], ◌∷◌, List, length, get_or, set, subst, sym, ap, arith, refl}
use Rattle.std.proofs.lemmas.List.Elements.{All-set, AllWithin-more_set}
use Rattle.edge_api.specs.Actor.{Moves}
use Rattle.actor_core.specs.declared.piece.Till.TheVariants.{End}
use Rattle.actor_core.specs.Schedule.{Slot, to_the_end, FollowsSlots}
use Rattle.actor_core.proofs.Lists.{at_item}
use Rattle.actor_core.proofs.Orders.{follows_one, follows_more, end_more}
use Rattle.actor_core.proofs.Faults.{counted_more}
use Rattle.actor_core.proofs.schedule.run_rest.Goals as goal

pub loop-actor-preserved : goal.loop-actor-preserved
loop-actor-preserved g c =
    let j = g.W.World.journal in
    let goes = Moves g.A.Actor.goes g.A.Actor.number in
    let stands = g.A.Actor.stands in
    let mids = c.loop-actor.actors in
    let k = c.loop-actor.actor-index in
    let a = get_or mids k c.actor-item.result in
    let new = c.run_piece.new.actor in
    let within : k < length mids = omega (arith, c.loop-actor.auto.actors) in
    let at = at_item mids k a within (ap (λ (d : _). get_or mids k d) c.actor-item.is) in
    let one = follows_one goes stands k End (j c.loop-actor.world) (j c.run_piece.new.world) mids a new at c.run_piece.ensures.runs in
    let more = follows_more goes stands (to_the_end k) (record { place = k; till = End } ∷ []) (j c.args.world.now) (j c.loop-actor.world) (j c.run_piece.new.world) c.args.actors.now mids (set mids k new) c.loop-actor.invariant.follows one in
    record {
      ready = All-set g.A.Actor.ready mids k new c.run_piece.ensures.ready c.loop-actor.invariant.ready;
      done = AllWithin-more_set mids k new within (λ a. g.A.Actor.left a ≡ 0) c.loop-actor.invariant.done (c.run_piece.ensures.ends refl);
      follows = subst (λ (ps : List Slot). FollowsSlots goes stands ps (j c.args.world.now) (j c.run_piece.new.world) c.args.actors.now (set mids k new)) (sym (end_more k)) more;
      counted = counted_more (j c.args.world.now) (j c.loop-actor.world) (j c.run_piece.new.world) (g.W.World.faults c.args.world.now) (g.W.World.faults c.loop-actor.world) (g.W.World.faults c.run_piece.new.world) c.loop-actor.invariant.counted c.run_piece.ensures.counted;
    }
