use Rattle.write_files.proofs.Grouped.{groups_ordered}
use Rattle.write_files.proofs.Parts.{rows_kept}
use Rattle.write_files.proofs.Values.{files_read, files_within, names_differ, values_one}
use Rattle.write_files.proofs.laws.files_hold_the_rows.Goals as goal

pub returns : goal.returns
returns c = record {
  groups = groups_ordered;
  kept = rows_kept;
  within = files_within;
  values = values_one;
  names = names_differ c.names_are_told_apart.ensures.data_differ;
  read = files_read c.files_read_back.ensures;
}
