use Rattle.std.proofs.Common.{rules, ◌≡◌, ◌<◌, false}
use Rattle.edge_api.specs.Actor.{Moves}
use Rattle.actor_core.specs.Piece.{stays}
use Rattle.actor_core.proofs.Pieces.{piece_of, piece_alone}
use Rattle.actor_core.proofs.Faults.{counted_more}
use Rattle.actor_core.proofs.piece.run_piece.Goals as goal

pub returns-then-not-stays-clause-runs : goal.returns-then-not-stays-clause-runs
returns-then-not-stays-clause-runs g c =
    let j = g.W.World.journal in
    let e = c.step_actor.ensures in
    let on : stays c.args.till (g.A.Actor.stands c.args.actor.now) ≡ false = search rules in
    let some : 0 < g.A.Actor.left c.args.actor.now = search rules in
    piece_of (Moves g.A.Actor.goes g.A.Actor.number) g.A.Actor.stands c.args.till _ (j c.args.world.now) (j c.step_actor.new.world) (j c.run_on.new.world) c.args.actor.now c.step_actor.new.actor c.run_on.new.actor
    (g.A.Actor.left c.args.actor.now) c.step_actor.result e.steps e.done some on c.run_on.ensures.runs

pub returns-then-not-stays-clause-alone : goal.returns-then-not-stays-clause-alone
returns-then-not-stays-clause-alone g c =
    let j = g.W.World.journal in
    piece_alone g.A.Actor.goes g.A.Actor.number g.A.Actor.stands c.args.till (j c.args.world.now) (j c.run_on.new.world) c.args.actor.now c.run_on.new.actor (returns-then-not-stays-clause-runs g c)

pub returns-then-not-stays-clause-counted : goal.returns-then-not-stays-clause-counted
returns-then-not-stays-clause-counted g c =
    let j = g.W.World.journal in
    let f = g.W.World.faults in
    counted_more (j c.args.world.now) (j c.step_actor.new.world) (j c.run_on.new.world) (f c.args.world.now) (f c.step_actor.new.world) (f c.run_on.new.world) c.step_actor.ensures.counted c.run_on.ensures.counted
