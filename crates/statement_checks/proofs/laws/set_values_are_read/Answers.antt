use Rattle.statement_checks.proofs.Read.{values_read}
use Rattle.statement_checks.proofs.laws.set_values_are_read.Goals as goal

pub returns : goal.returns
returns c = values_read
