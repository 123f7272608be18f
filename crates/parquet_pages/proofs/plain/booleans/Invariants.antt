use Rattle.std.proofs.Common.{◌≡◌, map, take}
use Rattle.parquet_pages.specs.Plain.{boolean_of}
use Rattle.parquet_pages.proofs.plain.booleans.Given as goal

abbrev pub invariant-loop-bit : goal.invariant-loop-bit
invariant-loop-bit l = l.values.items ≡ map boolean_of (take l.bit-index l.bit-items)
