use Rattle.std.proofs.Common.{◌≡◌, take}
use Rattle.row_base.proofs.schema.column_copies.Given as goal

-- what was copied is the front of what is to be copied
abbrev pub invariant-loop-column : goal.invariant-loop-column
invariant-loop-column l = l.copies.items ≡ take l.column-index l.columns
