-- The rows so far go into the file that begins with the first, and there are some.
use Rattle.std.proofs.Common.{◌≡◌, ◌<◌, ◌≤◌, ◌+◌, ◌-◌, length, take, drop}
use Rattle.write_files.specs.declared.limits.TheConstants.{MAX_NEW_FILE_SIZE}
use Rattle.write_files.specs.Pieces.{cut, cut_after, has_room, rows_now, rows_size}
use Rattle.write_files.proofs.pieces.file_len.Given as goal

pub record Invariant (l : goal.Live-loop-count) : Type 0 where
  pub some : 0 < l.count
  pub few : l.count ≤ length l.rows
  pub room : rows_size (rows_now (take l.count l.rows)) + l.room ≡ MAX_NEW_FILE_SIZE
  pub cut : cut_after has_room (rows_now (take l.count l.rows)) (rows_now (drop l.count l.rows)) ≡ cut has_room (rows_now l.rows)

abbrev pub invariant-loop-count : goal.invariant-loop-count
invariant-loop-count l = Invariant l

abbrev pub decreases-loop-count : goal.decreases-loop-count
decreases-loop-count l = length l.rows - l.count
