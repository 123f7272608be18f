-- The values so far, before those of the rows that are left, are those of the whole.
use Rattle.std.proofs.Common.{◌≡◌, ◌++◌}
use Rattle.parquet_plain.specs.Written.{column_values}
use Rattle.parquet_plain.proofs.chunk_writer.column_values.Given as goal

abbrev pub invariant-loop-row : goal.invariant-loop-row
invariant-loop-row l = l.values.items ++ column_values l.place l.row-iterator ≡ column_values l.place l.fn.rows
