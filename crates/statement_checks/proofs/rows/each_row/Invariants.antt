-- The rows so far, before those that are left, are the rows.
use Rattle.std.proofs.Common.{◌≡◌, ◌++◌, Ok}
use Rattle.row_base.specs.Faults.{◌>>=◌}
use Rattle.statement_checks.specs.Rows.{rows_in}
use Rattle.statement_checks.proofs.rows.each_row.Given as goal

abbrev pub invariant-loop-row : goal.invariant-loop-row
invariant-loop-row l = (rows_in l.schema l.row-iterator >>= λ rs. Ok (l.taken ++ rs)) ≡ rows_in l.schema l.rows
