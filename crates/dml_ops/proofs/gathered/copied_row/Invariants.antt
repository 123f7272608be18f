-- The data so far are the first of the row.
use Rattle.std.proofs.Common.{◌≡◌, take}
use Rattle.dml_ops.proofs.gathered.copied_row.Given as goal

abbrev pub invariant-loop-datum : goal.invariant-loop-datum
invariant-loop-datum l = l.values.items ≡ take l.datum-index l.row
