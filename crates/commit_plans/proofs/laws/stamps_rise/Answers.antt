use Rattle.commit_plans.proofs.Stamps.{stamps_rise}
use Rattle.commit_plans.proofs.laws.stamps_rise.Goals as goal

pub returns : goal.returns
returns c = stamps_rise
