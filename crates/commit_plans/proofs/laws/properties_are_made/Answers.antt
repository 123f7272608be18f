use Rattle.commit_plans.proofs.Maps.{are_made}
use Rattle.commit_plans.proofs.laws.properties_are_made.Goals as goal

pub returns : goal.returns
returns c = are_made
