-- The files so far, before those of the groups that are left, are all.
use Rattle.std.proofs.Common.{◌≡◌, ◌≤◌, ◌-◌, ◌++◌, length, drop}
use Rattle.write_files.specs.Pieces.{cut, has_values, pieces_in, rows_now}
use Rattle.write_files.proofs.pieces.cut.Given as goal

pub record Invariant (l : goal.Live-loop-at) : Type 0 where
  pub few : l.at ≤ length l.rows
  pub files : l.pieces.items ++ pieces_in (cut (has_values l.schema) (rows_now (drop l.at l.rows))) ≡ pieces_in (cut (has_values l.schema) (rows_now l.rows))

abbrev pub invariant-loop-at : goal.invariant-loop-at
invariant-loop-at l = Invariant l

abbrev pub decreases-loop-at : goal.decreases-loop-at
decreases-loop-at l = length l.rows - l.at
