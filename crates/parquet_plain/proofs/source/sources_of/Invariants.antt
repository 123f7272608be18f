-- The sources so far, before those of the columns that are left, are those of the whole.
use Rattle.std.proofs.Common.{◌≡◌, ◌++◌, drop}
use Rattle.parquet_plain.specs.Tree.{sources_from}
use Rattle.parquet_plain.proofs.source.sources_of.Given as goal

abbrev pub invariant-loop-i : goal.invariant-loop-i
invariant-loop-i l = l.sources.items ++ sources_from l.schema.partition l.leaves l.i (drop l.i l.schema.columns) ≡ sources_from l.schema.partition l.leaves 0 l.schema.columns
