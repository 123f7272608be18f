use Rattle.log_laws.proofs.Replay.{replay_agrees}
use Rattle.log_laws.proofs.replay_agrees.Goals as goal

pub returns : goal.returns
returns c = replay_agrees
