-- The rows so far, with those of the groups that are left, are those of the whole.
use Rattle.std.proofs.Common.{◌≡◌, [], drop}
use Rattle.parquet_plain.specs.Reading.{with_groups}
use Rattle.parquet_plain.proofs.groups.groups_rows.Given as goal

abbrev pub invariant-loop-group : goal.invariant-loop-group
invariant-loop-group l = with_groups l.name l.sources l.file l.rows (drop l.group-index l.groups) ≡ with_groups l.name l.sources l.file [] l.groups
