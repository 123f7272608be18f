-- The statistics so far, before those of the columns that are left, are those of all; the bounds so far have their width.
use Rattle.std.proofs.Common.{◌≡◌, ◌++◌, drop}
use Rattle.std.specs.List.{All}
use Rattle.file_stats.specs.Columns.{each_from, of_data_column, column_stats, column_in, columns_of}
use Rattle.file_stats.specs.Laws.{HaveWidth}
use Rattle.file_stats.proofs.of_rows.columns_of.Given as goal

pub record Invariant (l : goal.Live-loop-i) : Type 0 where
  pub stats :
      l.columns.items ++ each_from (λ k c. of_data_column l.schema k (column_stats (column_in l.rows k))) l.i (drop l.i l.schema.columns)
      ≡ columns_of l.schema l.rows
  pub width : All HaveWidth l.columns.items

abbrev pub invariant-loop-i : goal.invariant-loop-i
invariant-loop-i l = Invariant l
