use Rattle.std.proofs.Common.{◌≡◌, take}
use Rattle.write_files.specs.Pieces.{rows_now}
use Rattle.write_files.proofs.pieces.file_rows.Given as goal

-- the rows so far are the first of the list
abbrev pub invariant-loop-row : goal.invariant-loop-row
invariant-loop-row l = l.rows ≡ rows_now (take l.row-index l.list)
