use Rattle.table_laws.proofs.Sound.{each_operation_is_sound}
use Rattle.table_laws.proofs.each_operation_is_sound.Goals as goal

pub returns : goal.returns
returns c = each_operation_is_sound
