use Rattle.table_files.proofs.Sorted.{each_part_is_sorted}
use Rattle.table_files.proofs.each_part_is_sorted.Goals as goal

pub returns : goal.returns
returns c = each_part_is_sorted
