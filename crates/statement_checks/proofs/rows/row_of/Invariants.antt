-- The data so far are copied.
use Rattle.std.proofs.Common.{◌≡◌, take}
use Rattle.statement_checks.proofs.rows.row_of.Given as goal

abbrev pub invariant-loop-datum : goal.invariant-loop-datum
invariant-loop-datum l = l.values.items ≡ take l.datum-index l.row
