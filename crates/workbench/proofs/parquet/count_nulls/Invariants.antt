use Rattle.std.proofs.Common.{◌≡◌, ◌+◌, ◌%◌, ◌^◌}
use Rattle.workbench.specs.Parquet.{null_count}
use Rattle.workbench.proofs.parquet.count_nulls.Given as goal

abbrev pub invariant-loop-row : goal.invariant-loop-row
invariant-loop-row l = (l.count + null_count l.row-iterator) % 2 ^ 64 ≡ null_count l.rows % 2 ^ 64
