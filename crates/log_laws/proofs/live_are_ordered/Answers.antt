use Rattle.log_laws.proofs.Ordered.{live_are_ordered}
use Rattle.log_laws.proofs.live_are_ordered.Goals as goal

pub returns : goal.returns
returns c = live_are_ordered
