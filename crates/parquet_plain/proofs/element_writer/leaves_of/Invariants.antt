-- The elements so far, before those of the columns that are left, are those of the whole.
use Rattle.std.proofs.Common.{◌≡◌, ◌++◌, drop}
use Rattle.parquet_plain.specs.Written.{elements_from}
use Rattle.parquet_plain.proofs.element_writer.leaves_of.Given as goal

abbrev pub invariant-loop-i : goal.invariant-loop-i
invariant-loop-i l = l.leaves.items ++ elements_from l.schema.partition l.i (drop l.i l.schema.columns) ≡ elements_from l.schema.partition 0 l.schema.columns
