use Rattle.std.proofs.Common.{◌≡◌, ◌++◌, length, subst, ◌∙◌, ℕ}
use Rattle.edge_api.specs.Actor.{Moves}
use Rattle.actor_core.specs.Schedule.{slots_of, to_the_end, FollowsSlots}
use Rattle.actor_core.proofs.Orders.{follows_more, takes_turns}
use Rattle.actor_core.proofs.Numbers.{own_parts}
use Rattle.actor_core.proofs.Faults.{counted_more}
use Rattle.actor_core.proofs.schedule.run_schedule.Goals as goal

pub returns-clause-follows : goal.returns-clause-follows
returns-clause-follows g c =
    let j = g.W.World.journal in
    let goes = Moves g.A.Actor.goes g.A.Actor.number in
    let stands = g.A.Actor.stands in
    let olds = c.args.actors.now in
    let mids = c.run_items.new.actors in
    let news = c.run_rest.new.actors in
    let same : length mids ≡ length olds = c.run_items.auto.actors in
    let rest = subst (λ (n : ℕ). FollowsSlots goes stands (to_the_end n) (j c.run_items.new.world) (j c.run_rest.new.world) mids news) same c.run_rest.ensures.follows in
    follows_more goes stands (slots_of c.args.items.now) (to_the_end (length olds)) (j c.args.world.now) (j c.run_items.new.world) (j c.run_rest.new.world) olds mids news c.run_items.ensures.follows rest

pub returns-clause-turns : goal.returns-clause-turns
returns-clause-turns g c =
    let j = g.W.World.journal in
    takes_turns (Moves g.A.Actor.goes g.A.Actor.number) g.A.Actor.stands (slots_of c.args.items.now ++ to_the_end (length c.args.actors.now)) (j c.args.world.now) (j c.run_rest.new.world) c.args.actors.now c.run_rest.new.actors (returns-clause-follows g c)

pub returns-clause-own : goal.returns-clause-own
returns-clause-own g c =
    let j = g.W.World.journal in
    let long : length c.run_rest.new.actors ≡ length c.args.actors.now = c.run_rest.auto.actors ∙ c.run_items.auto.actors in
    λ apart. own_parts g.A.Actor.goes g.A.Actor.number (j c.args.world.now) (j c.run_rest.new.world) c.args.actors.now c.run_rest.new.actors long apart (returns-clause-turns g c)

pub returns-clause-counted : goal.returns-clause-counted
returns-clause-counted g c =
    let j = g.W.World.journal in
    let f = g.W.World.faults in
    counted_more (j c.args.world.now) (j c.run_items.new.world) (j c.run_rest.new.world) (f c.args.world.now) (f c.run_items.new.world) (f c.run_rest.new.world) c.run_items.ensures.counted c.run_rest.ensures.counted
