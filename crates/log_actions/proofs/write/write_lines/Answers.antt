use Rattle.std.proofs.Common.{arith}
use Rattle.std.proofs.lemmas.Grind.{common_steps}
use Rattle.log_actions.proofs.Returning.{one_back}
use Rattle.log_actions.proofs.write.write_lines.Goals as goal

pub loop-action-preserved : goal.loop-action-preserved
loop-action-preserved c = record {
  text = grind (arith, common_steps);
  back = λ rest. c.loop-action.invariant.back (one_back c.args.actions.now c.loop-action.action-index c.action-item.result c.loop-action-test.true c.action-item.is c.in_ok-push_action.ensures.back rest);
}
