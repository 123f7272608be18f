use Rattle.merge_op.proofs.SameBags.{merged_same}
use Rattle.merge_op.proofs.laws.bags_are_merged.Goals as goal

pub returns : goal.returns
returns c = merged_same
