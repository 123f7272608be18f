use Rattle.std.proofs.Common.{◌≡◌, []}
use Rattle.row_kernels.specs.Rows.{rows_of}
use Rattle.row_kernels.proofs.rows.rows_of.Given as goal

abbrev pub invariant-loop-number : goal.invariant-loop-number
invariant-loop-number l = record {
  rows : l.rows ≡ rows_of l.step l.number;
  empty : l.row.items ≡ [];
}
