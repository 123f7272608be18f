use Rattle.dml_ops.proofs.Together.{untouched_stay}
use Rattle.dml_ops.proofs.laws.untouched_rows_stay.Goals as goal

pub returns : goal.returns
returns c = untouched_stay
