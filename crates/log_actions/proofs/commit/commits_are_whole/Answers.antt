use Rattle.log_actions.proofs.Sound.{whole_commit}
use Rattle.log_actions.proofs.commit.commits_are_whole.Goals as goal

pub returns : goal.returns
returns c = whole_commit
