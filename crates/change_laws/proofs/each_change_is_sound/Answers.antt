use Rattle.change_laws.proofs.RowChanges.{change_is_sound}
use Rattle.change_laws.proofs.each_change_is_sound.Goals as goal

pub returns : goal.returns
returns c = change_is_sound
