use Rattle.dml_ops.proofs.Together.{files_add}
use Rattle.dml_ops.proofs.laws.files_add_up.Goals as goal

pub returns : goal.returns
returns c = files_add
