use Rattle.std.proofs.Common.{◌≡◌}
use Rattle.row_kernels.specs.Rows.{key_rows}
use Rattle.row_kernels.proofs.rows.key_rows.Given as goal

abbrev pub invariant-loop-number : goal.invariant-loop-number
invariant-loop-number l = l.rows ≡ key_rows l.number
