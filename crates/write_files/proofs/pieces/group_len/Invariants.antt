-- The rows so far are of the group that begins with the first, and there are some.
use Rattle.std.proofs.Common.{◌≡◌, ◌<◌, ◌≤◌, ◌-◌, length, take, drop}
use Rattle.write_files.specs.Pieces.{cut, cut_after, has_values, rows_now}
use Rattle.write_files.proofs.pieces.group_len.Given as goal

pub record Invariant (l : goal.Live-loop-count) : Type 0 where
  pub some : 0 < l.count
  pub few : l.count ≤ length l.rows
  pub cut : cut_after (has_values l.schema) (rows_now (take l.count l.rows)) (rows_now (drop l.count l.rows)) ≡ cut (has_values l.schema) (rows_now l.rows)

abbrev pub invariant-loop-count : goal.invariant-loop-count
invariant-loop-count l = Invariant l

abbrev pub decreases-loop-count : goal.decreases-loop-count
decreases-loop-count l = length l.rows - l.count
