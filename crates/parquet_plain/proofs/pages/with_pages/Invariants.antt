-- The pages that are left give what the whole gives.
use Rattle.std.proofs.Common.{◌≡◌, ◌-◌}
use Rattle.parquet_plain.specs.Reading.{with_pages, walk_from}
use Rattle.parquet_plain.proofs.pages.with_pages.Given as goal

abbrev pub invariant-loop-byte : goal.invariant-loop-byte
invariant-loop-byte l = with_pages l.leaf l.rows l.span l.file (l._byte-end - l._byte) l.walk ≡ with_pages l.leaf l.rows l.span l.file (l.span.ends - l.span.begins) (walk_from l.span.begins)
