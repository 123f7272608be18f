use Rattle.std.proofs.Common.{◌≡◌, ◌≤◌, ◌-◌}
use Rattle.parquet_pages.specs.Places.{width_from}
use Rattle.parquet_pages.proofs.dictionary.index_width.Given as goal

abbrev pub invariant-loop-width : goal.invariant-loop-width
invariant-loop-width l = record {
  rest : width_from (32 - l.width) l.width l.count ≡ width_from 31 1 l.count;
  from : 1 ≤ l.width;
  narrow : l.width ≤ 26;
}

abbrev pub decreases-loop-width : goal.decreases-loop-width
decreases-loop-width l = 26 - l.width
