use Rattle.std.proofs.Common.{◌≡◌, ◌++◌}
use Rattle.statement_steps.specs.Answered.{rows_of_files}
use Rattle.statement_machine.proofs.select.all_rows.Given as goal

abbrev pub invariant-loop-file : goal.invariant-loop-file
invariant-loop-file l = l.rows ++ rows_of_files l.file-iterator.rest.items ≡ rows_of_files l.fn.files.items
