use Rattle.std.proofs.Common.{◌≡◌, ◌++◌, ◌≤◌, [], length, drop}
use Rattle.parquet_pages.specs.Places.{distinct_after, places_of}
use Rattle.parquet_pages.proofs.dictionary.distinct.Given as goal

abbrev pub invariant-loop-value : goal.invariant-loop-value
invariant-loop-value l = record {
  rest : distinct_after l.found.keys (drop l.value-index l.values) ≡ distinct_after [] l.values;
  places : l.places.items ++ places_of (distinct_after [] l.values) (drop l.value-index l.values) ≡ places_of (distinct_after [] l.values) l.values;
  few : length l.found.keys ≤ l.most;
}
