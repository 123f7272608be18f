use Rattle.txn_machine.specs.declared.stage.Stage.TheVariants as stage
use Rattle.txn_machine.proofs.Chain.{unfed_at}
use Rattle.txn_machine.proofs.stage.StageResumes.out_of_memory.Goals as goal

pub returns-in-Commit-clause-stops : goal.returns-in-Commit-clause-stops
returns-in-Commit-clause-stops c = unfed_at c.args.self (stage.Commit c.in-Commit.step c.in-Commit.attempts) c.feed-in-Commit.result.stage c.in-Commit.is c.requires c.feed-in-Commit.ensures.goes
