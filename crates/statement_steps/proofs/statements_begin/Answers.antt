use Rattle.statement_steps.proofs.Beginnings.{opens_without_calls, begins_first}
use Rattle.statement_steps.proofs.statements_begin.Goals as goal

pub returns-clause-open : goal.returns-clause-open
returns-clause-open c = opens_without_calls

pub returns-clause-first : goal.returns-clause-first
returns-clause-first c = begins_first
