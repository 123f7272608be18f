-- The values so far, before those of the columns that are left, are those of the whole.
use Rattle.std.proofs.Common.{◌≡◌, ◌++◌, drop, Ok}
use Rattle.row_base.specs.Faults.{◌>>=◌}
use Rattle.parquet_plain.specs.Reading.{columns_values}
use Rattle.parquet_plain.proofs.groups.columns_values.Given as goal

abbrev pub invariant-loop-source : goal.invariant-loop-source
invariant-loop-source l = (columns_values (drop l.source-index l.sources) l.rows l.chunks l.file >>= λ vss. Ok (l.columns.items ++ vss)) ≡ columns_values l.sources l.rows l.chunks l.file
