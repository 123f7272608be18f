use Rattle.change_laws.proofs.Merges.{merge_is_sound}
use Rattle.change_laws.proofs.each_merge_is_sound.Goals as goal

pub returns : goal.returns
returns c = merge_is_sound
