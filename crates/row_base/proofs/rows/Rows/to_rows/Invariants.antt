use Rattle.std.proofs.Common.{◌≡◌, ◌++◌}
use Rattle.row_base.proofs.rows.Rows.to_rows.Given as goal

-- the rows so far, before those that are left, are all
abbrev pub invariant-loop-row : goal.invariant-loop-row
invariant-loop-row l = l.rows.items ++ l.row-iterator ≡ l.self
