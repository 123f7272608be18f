-- What is left gives what the whole gives.
use Rattle.std.proofs.Common.{◌≡◌, drop}
use Rattle.parquet_plain.specs.Reading.{first_name}
use Rattle.parquet_plain.proofs.reading.first_name.Given as goal

abbrev pub invariant-loop-i : goal.invariant-loop-i
invariant-loop-i l = first_name l.schema.partition l.i (drop l.i l.schema.columns) ≡ first_name l.schema.partition 0 l.schema.columns
