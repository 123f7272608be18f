use Rattle.log_actions.proofs.Saying.{says_what, only_what, wrong_what}
use Rattle.log_actions.proofs.commit.read_commit.Goals as goal

pub returns-clause-says : goal.returns-clause-says
returns-clause-says c = says_what c.args.bytes.now c.read_exactly.result c.read_exactly.ensures

pub returns-clause-only : goal.returns-clause-only
returns-clause-only c = only_what c.args.bytes.now c.read_exactly.result c.read_exactly.ensures

pub returns-clause-wrong : goal.returns-clause-wrong
returns-clause-wrong c = wrong_what c.args.bytes.now c.read_exactly.result c.read_exactly.ensures
