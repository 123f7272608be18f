use Rattle.std.proofs.Common.{◌≡◌, ◌++◌}
use Rattle.std.specs.Vec.Iter.{into_iter_items}
use Rattle.row_base.proofs.rows.Rows.from_rows.Given as goal

-- the rows so far, before those that are left, are all
abbrev pub invariant-loop-row : goal.invariant-loop-row
invariant-loop-row l = l.flat ++ into_iter_items l.row-iterator ≡ l.fn.rows.items
