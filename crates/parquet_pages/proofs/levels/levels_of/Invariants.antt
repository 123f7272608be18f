use Rattle.std.proofs.Common.{◌≡◌, ◌++◌, drop}
use Rattle.parquet_pages.specs.Written.{levels_of}
use Rattle.parquet_pages.proofs.levels.levels_of.Given as goal

abbrev pub invariant-loop-value : goal.invariant-loop-value
invariant-loop-value l = l.levels.items ++ levels_of (drop l.value-index l.values) ≡ levels_of l.values
