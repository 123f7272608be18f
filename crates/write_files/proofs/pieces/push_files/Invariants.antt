-- The files so far, before those of the rows that are left, are all.
use Rattle.std.proofs.Common.{◌≡◌, ◌≤◌, ◌-◌, ◌++◌, length, drop}
use Rattle.write_files.specs.Pieces.{cut, has_room, rows_now}
use Rattle.write_files.proofs.pieces.push_files.Given as goal

pub record Invariant (l : goal.Live-loop-at) : Type 0 where
  pub few : l.at ≤ length l.group
  pub files : l.pieces.items ++ cut has_room (rows_now (drop l.at l.group)) ≡ l.fn.pieces.items ++ cut has_room (rows_now l.group)

abbrev pub invariant-loop-at : goal.invariant-loop-at
invariant-loop-at l = Invariant l

abbrev pub decreases-loop-at : goal.decreases-loop-at
decreases-loop-at l = length l.group - l.at
