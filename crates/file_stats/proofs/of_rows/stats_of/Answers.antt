use Rattle.file_stats.proofs.Truths.{are_true}
use Rattle.file_stats.proofs.Fitting.{columns_fit}
use Rattle.file_stats.proofs.of_rows.stats_of.Goals as goal

pub returns-clause-truth : goal.returns-clause-truth
returns-clause-truth c = are_true c.args.schema.now c.args.rows.now _ _ c.len.ensures c.in_ok-columns.ensures.stats

pub returns-clause-fit : goal.returns-clause-fit
returns-clause-fit c = λ fits. columns_fit c.args.schema.now c.args.rows.now _ fits c.in_ok-columns.ensures.stats c.in_ok-columns.ensures.width
