use Rattle.log_laws.proofs.Versions.{versions_agree}
use Rattle.log_laws.proofs.versions_agree.Goals as goal

pub returns : goal.returns
returns c = versions_agree
