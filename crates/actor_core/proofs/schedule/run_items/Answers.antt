use Rattle.std.proofs.Common.{rules, ◌<◌, ◌-◌, [], ◌∷◌, List, length, get_or, take, set, subst, sym, ap, arith}
use Rattle.std.proofs.lemmas.List.Elements.{All-set}
use Rattle.edge_api.specs.Actor.{Moves}
use Rattle.actor_core.specs.declared.schedule.ItemForm.TheVariants.{One}
use Rattle.actor_core.specs.Schedule.{Slot, till_of, slots_of, FollowsSlots}
use Rattle.actor_core.proofs.Lists.{at_item}
use Rattle.actor_core.proofs.Orders.{follows_one, follows_more, slots_take}
use Rattle.actor_core.proofs.Faults.{counted_more}
use Rattle.actor_core.proofs.schedule.run_items.Goals as goal

pub loop-item-preserved : goal.loop-item-preserved
loop-item-preserved g c =
    let j = g.W.World.journal in
    let goes = Moves g.A.Actor.goes g.A.Actor.number in
    let stands = g.A.Actor.stands in
    let items = c.args.items.now in
    let n = c.loop-item.item-index in
    let item = get_or items n (record { actor = 0; form = One }) in
    let mids = c.loop-item.actors in
    let k = item.actor - 1 in
    let a = get_or mids k c.index-actors-item.result in
    let here : n < length items = c.loop-item-test.true in
    let fits = c.requires.items n (record { actor = 0; form = One }) here in
    let within : k < length mids = omega (arith, c.loop-item.auto.actors) in
    let at = at_item mids k a within (ap (λ (d : _). get_or mids k d) c.index-actors-item.is) in
    let one = follows_one goes stands k (till_of item.form) (j c.loop-item.world) (j c.run_piece.new.world) mids a c.run_piece.new.actor at (search rules) in
    let more = follows_more goes stands (slots_of (take n items)) (record { place = k; till = till_of item.form } ∷ []) (j c.args.world.now) (j c.loop-item.world) (j c.run_piece.new.world) c.args.actors.now mids (set mids k c.run_piece.new.actor) c.loop-item.invariant.follows one in
    record {
      ready = All-set g.A.Actor.ready mids k c.run_piece.new.actor c.run_piece.ensures.ready c.loop-item.invariant.ready;
      follows = subst (λ (ps : List Slot). FollowsSlots goes stands ps (j c.args.world.now) (j c.run_piece.new.world) c.args.actors.now (set mids k c.run_piece.new.actor)) (sym (slots_take items n item here (search rules))) more;
      counted = counted_more (j c.args.world.now) (j c.loop-item.world) (j c.run_piece.new.world) (g.W.World.faults c.args.world.now) (g.W.World.faults c.loop-item.world) (g.W.World.faults c.run_piece.new.world) c.loop-item.invariant.counted c.run_piece.ensures.counted;
    }
