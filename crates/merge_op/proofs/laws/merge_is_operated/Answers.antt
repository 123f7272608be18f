use Rattle.merge_op.proofs.Assembled.{merge_is}
use Rattle.merge_op.proofs.laws.merge_is_operated.Goals as goal

pub returns : goal.returns
returns c = merge_is
