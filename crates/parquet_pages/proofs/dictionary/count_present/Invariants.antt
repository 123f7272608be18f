use Rattle.std.proofs.Common.{◌≡◌, ◌+◌, ◌≤◌, drop}
use Rattle.parquet_pages.specs.Places.{present}
use Rattle.parquet_pages.proofs.dictionary.count_present.Given as goal

abbrev pub invariant-loop-value : goal.invariant-loop-value
invariant-loop-value l = record { counted : l.count + present (drop l.value-index l.values) ≡ present l.values; few : l.count ≤ l.value-index }
