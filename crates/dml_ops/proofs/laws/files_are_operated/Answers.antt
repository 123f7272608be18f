use Rattle.dml_ops.proofs.Split.{file_is_operated}
use Rattle.dml_ops.proofs.laws.files_are_operated.Goals as goal

pub returns : goal.returns
returns c = file_is_operated
