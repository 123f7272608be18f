use Rattle.change_laws.proofs.Merges.{merged_is_taken}
use Rattle.change_laws.proofs.each_merged_file_is_taken.Goals as goal

pub returns : goal.returns
returns c = merged_is_taken
