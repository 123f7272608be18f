use Rattle.std.proofs.Common.{◌≡◌, ◌+◌, ◌≤◌, take, map, length}
use Rattle.std.specs.Prelude.{vec_len, vec_capacity}
use Rattle.parquet_pages.specs.Plain.{long_datum}
use Rattle.parquet_pages.proofs.plain.longs_of.Given as goal

-- the longs so far, and there is room for the others
abbrev pub invariant-loop-long : goal.invariant-loop-long
invariant-loop-long l = record {
  items : l.values.items ≡ map long_datum (take l.long-index l.longs);
  room : vec_len l.values + length l.longs ≤ vec_capacity l.values + l.long-index;
}
