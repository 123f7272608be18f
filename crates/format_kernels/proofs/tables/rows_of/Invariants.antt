use Rattle.std.proofs.Common.{◌≡◌, []}
use Rattle.format_kernels.specs.Register.{state_after}
use Rattle.format_kernels.specs.Tables.{rows_of}
use Rattle.format_kernels.proofs.tables.rows_of.Given as goal

abbrev pub invariant-loop-number : goal.invariant-loop-number
invariant-loop-number l = record {
  state : l.state ≡ state_after l.number;
  rows : l.rows ≡ rows_of l.table l.number;
  empty : l.row.items ≡ [];
}
