use Rattle.std.proofs.Common.{◌≡◌, drop}
use Rattle.write_files.specs.Pieces.{room_after}
use Rattle.write_files.proofs.size.room_after.Given as goal

-- what the data that are left leave of what is left now, the whole row leaves of all
abbrev pub invariant-loop-datum : goal.invariant-loop-datum
invariant-loop-datum l = room_after l.left (drop l.datum-index l.row) ≡ room_after l.fn.room l.row
