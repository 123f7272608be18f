-- What is said of the columns so far, before what is said of those that are left, is what is said of all.
use Rattle.std.proofs.Common.{◌≡◌, ◌++◌, drop}
use Rattle.serde_json.specs.View.{view}
use Rattle.file_stats.specs.Columns.{each_from, of_data_column}
use Rattle.file_stats.specs.Reading.{column_as, columns_as}
use Rattle.file_stats.proofs.read.columns_as.Given as goal

abbrev pub invariant-loop-i : goal.invariant-loop-i
invariant-loop-i l =
    l.columns.items ++ each_from (λ k c. of_data_column l.schema k (column_as (view l.stats) c)) l.i (drop l.i l.schema.columns)
    ≡ columns_as l.schema (view l.stats)
