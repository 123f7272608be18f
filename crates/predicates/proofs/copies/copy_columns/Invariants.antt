-- The columns so far are copied.
use Rattle.std.proofs.Common.{◌≡◌, take}
use Rattle.predicates.proofs.copies.copy_columns.Given as goal

abbrev pub invariant-loop-column : goal.invariant-loop-column
invariant-loop-column g l = l.copies.items ≡ take l.column-index l.columns
