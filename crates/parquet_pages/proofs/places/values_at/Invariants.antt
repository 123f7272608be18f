use Rattle.std.proofs.Common.{◌≡◌, ◌++◌, drop, option_map}
use Rattle.parquet_pages.specs.Places.{values_at}
use Rattle.parquet_pages.proofs.places.values_at.Given as goal

abbrev pub invariant-loop-place : goal.invariant-loop-place
invariant-loop-place l = option_map (λ vs. l.values.items ++ vs) (values_at l.dictionary (drop l.place-index l.places)) ≡ values_at l.dictionary l.places
