use Rattle.std.proofs.Common.{◌≡◌, ◌++◌, take}
use Rattle.row_base.proofs.rows.append_copies.Given as goal

-- what was there, and the front of what is to be copied
abbrev pub invariant-loop-datum : goal.invariant-loop-datum
invariant-loop-datum l = l.values.items ≡ l.fn.values.items ++ take l.datum-index l.more
