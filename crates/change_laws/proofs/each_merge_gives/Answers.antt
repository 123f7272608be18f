use Rattle.change_laws.proofs.Merges.{merge_gives}
use Rattle.change_laws.proofs.each_merge_gives.Goals as goal

pub returns : goal.returns
returns c = merge_gives
