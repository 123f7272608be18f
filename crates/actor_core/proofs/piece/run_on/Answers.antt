use Rattle.std.proofs.Common.{rules, ◌≡◌, ◌<◌, true, false, sym, ◌∙◌}
use Rattle.edge_api.specs.Actor.{Moves}
use Rattle.actor_core.proofs.Pieces.{led_more, led_end, on_false}
use Rattle.actor_core.proofs.Faults.{counted_more}
use Rattle.actor_core.proofs.piece.run_on.Goals as goal

pub loop-stopped-preserved : goal.loop-stopped-preserved
loop-stopped-preserved g c =
    let j = g.W.World.journal in
    let a = g.A.Actor in
    let i = c.loop-stopped.invariant in
    let e = c.step_actor.ensures in
    let on : c.loop-stopped.stopped ≡ false = c.loop-stopped-test.true in
    record {
      ready = e.ready;
      is = search rules;
      some = search rules;
      ends = search rules;
      led = led_more (Moves g.A.Actor.goes g.A.Actor.number) g.A.Actor.stands c.args.till _ (j c.args.world.now) (j c.loop-stopped.world) (j c.step_actor.new.world) c.args.actor.now c.loop-stopped.actor c.step_actor.new.actor
          (g.A.Actor.left c.loop-stopped.actor) c.step_actor.result e.steps e.done (on_false c.loop-stopped.stopped (0 < g.A.Actor.left c.loop-stopped.actor) on i.some) (sym i.is ∙ on) i.led;
      counted = counted_more (j c.args.world.now) (j c.loop-stopped.world) (j c.step_actor.new.world) (g.W.World.faults c.args.world.now) (g.W.World.faults c.loop-stopped.world) (g.W.World.faults c.step_actor.new.world) i.counted e.counted;
    }

pub returns-clause-runs : goal.returns-clause-runs
returns-clause-runs g c =
    let j = g.W.World.journal in
    let i = c.loop-stopped.invariant in
    let off : c.loop-stopped.stopped ≡ true = c.loop-stopped-test.false in
    led_end (Moves g.A.Actor.goes g.A.Actor.number) g.A.Actor.stands c.args.till (j c.args.world.now) (j c.loop-stopped.world) c.args.actor.now c.loop-stopped.actor (sym i.is ∙ off) i.led
