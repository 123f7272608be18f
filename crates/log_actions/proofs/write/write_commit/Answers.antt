use Rattle.log_actions.proofs.Returning.{commit_back}
use Rattle.log_actions.proofs.write.write_commit.Goals as goal

pub returns-clause-back : goal.returns-clause-back
returns-clause-back c = commit_back c.write_lines.result c.args.actions.now c.write_lines.ensures.text c.write_lines.ensures.back
