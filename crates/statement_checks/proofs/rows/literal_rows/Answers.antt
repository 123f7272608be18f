use Rattle.statement_checks.proofs.Fitting.{rows_fit}
use Rattle.statement_checks.proofs.rows.literal_rows.Goals as goal

pub returns-clause-fits : goal.returns-clause-fits
returns-clause-fits c = rows_fit c.args.schema.now c.args.rows.now c.in_ok-taken.taken c.in_ok-taken.ensures
