use Rattle.statement_machine.specs.declared.stage.Stage.TheVariants as stage
use Rattle.statement_machine.proofs.Chain.{unfed_at}
use Rattle.statement_machine.proofs.stage.StageResumes.out_of_memory.Goals as goal

pub returns-in-Commit-clause-stops : goal.returns-in-Commit-clause-stops
returns-in-Commit-clause-stops c = unfed_at c.args.self (stage.Commit c.in-Commit.step c.in-Commit.attempts) c.feed-in-Commit.result.stage c.in-Commit.is c.requires c.feed-in-Commit.ensures.goes

pub returns-in-List-clause-stops : goal.returns-in-List-clause-stops
returns-in-List-clause-stops c = unfed_at c.args.self (stage.List c.in-List.step c.in-List.list) c.feed-in-List.result.stage c.in-List.is c.requires c.feed-in-List.ensures.goes
