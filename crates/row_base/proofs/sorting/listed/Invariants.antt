use Rattle.std.proofs.Common.{◌≡◌, ◌++◌, map}
use Rattle.row_base.proofs.sorting.listed.Given as goal

-- the rows so far, before those that are left, are all
abbrev pub invariant-loop-row : goal.invariant-loop-row
invariant-loop-row l = map (λ r. r.now) l.list.items ++ l.row-iterator ≡ l.rows
