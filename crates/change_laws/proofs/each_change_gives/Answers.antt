use Rattle.change_laws.proofs.RowChanges.{change_gives}
use Rattle.change_laws.proofs.each_change_gives.Goals as goal

pub returns : goal.returns
returns c = change_gives
