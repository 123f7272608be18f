use Rattle.merge_op.proofs.SameBags.{scope_same}
use Rattle.merge_op.proofs.laws.scope_is_merged.Goals as goal

pub returns : goal.returns
returns c = scope_same
