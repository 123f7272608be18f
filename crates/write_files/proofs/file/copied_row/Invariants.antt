use Rattle.std.proofs.Common.{◌≡◌, take}
use Rattle.write_files.proofs.file.copied_row.Given as goal

-- the data so far are the first of the row
abbrev pub invariant-loop-datum : goal.invariant-loop-datum
invariant-loop-datum l = l.values.items ≡ take l.datum-index l.row
