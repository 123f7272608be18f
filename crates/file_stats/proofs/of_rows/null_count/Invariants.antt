use Rattle.std.proofs.Common.{◌≡◌, ◌+◌}
use Rattle.file_stats.specs.Columns.{null_count, column_in}
use Rattle.file_stats.proofs.of_rows.null_count.Given as goal

-- the nulls so far, and those of the rows that are left, are those of all
abbrev pub invariant-loop-row : goal.invariant-loop-row
invariant-loop-row l =
    l.count + null_count (column_in l.row-iterator l.place) ≡ null_count (column_in l.rows l.place)
