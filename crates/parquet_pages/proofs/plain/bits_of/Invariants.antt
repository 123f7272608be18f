use Rattle.std.proofs.Common.{◌≡◌, ◌++◌, drop}
use Rattle.parquet_pages.specs.Written.{bits_of}
use Rattle.parquet_pages.proofs.plain.bits_of.Given as goal

abbrev pub invariant-loop-value : goal.invariant-loop-value
invariant-loop-value l = l.bits.items ++ bits_of (drop l.value-index l.values) ≡ bits_of l.values
