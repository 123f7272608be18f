use Rattle.change_laws.proofs.RowChanges.{touched_is_taken}
use Rattle.change_laws.proofs.each_touched_file_is_taken.Goals as goal

pub returns : goal.returns
returns c = touched_is_taken
