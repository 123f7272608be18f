use Rattle.std.proofs.Common.{◌≡◌, ◌+◌, ◌%◌, ◌^◌}
use Rattle.row_kernels.specs.Scopes.{count_where, is_counted}
use Rattle.row_kernels.proofs.truths.count_plain.Given as goal

abbrev pub invariant-loop-row : goal.invariant-loop-row
invariant-loop-row l = (l.count + count_where is_counted l.row-iterator) % 2 ^ 64 ≡ count_where is_counted l.rows % 2 ^ 64
