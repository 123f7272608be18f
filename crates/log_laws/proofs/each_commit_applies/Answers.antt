use Rattle.log_laws.proofs.Applied.{each_commit_applies}
use Rattle.log_laws.proofs.each_commit_applies.Goals as goal

pub returns : goal.returns
returns c = each_commit_applies
