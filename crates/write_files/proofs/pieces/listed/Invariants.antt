use Rattle.std.proofs.Common.{◌≡◌, ◌++◌}
use Rattle.write_files.specs.Pieces.{rows_now}
use Rattle.write_files.proofs.pieces.listed.Given as goal

-- the rows so far, before those that are left, are all
abbrev pub invariant-loop-row : goal.invariant-loop-row
invariant-loop-row l = rows_now l.list.items ++ l.row-iterator ≡ l.rows
