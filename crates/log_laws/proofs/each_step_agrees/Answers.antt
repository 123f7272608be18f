use Rattle.log_laws.proofs.Replay.{each_step_agrees}
use Rattle.log_laws.proofs.each_step_agrees.Goals as goal

pub returns : goal.returns
returns c = each_step_agrees
