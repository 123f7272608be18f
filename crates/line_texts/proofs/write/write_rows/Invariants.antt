-- What is written, before the text of the rows that are left, is the text of the rows.
use Rattle.std.proofs.Common.{◌≡◌, ◌++◌}
use Rattle.std.specs.List.{flat_map}
use Rattle.line_texts.specs.Texts.{line_of_row}
use Rattle.line_texts.proofs.write.write_rows.Given as goal

abbrev pub invariant-loop-row : goal.invariant-loop-row
invariant-loop-row l = l.text.items ++ flat_map line_of_row l.row-iterator ≡ flat_map line_of_row l.rows
