use Rattle.log_laws.proofs.Stamps.{stamps_rise}
use Rattle.log_laws.proofs.stamps_rise.Goals as goal

pub returns : goal.returns
returns c = stamps_rise
