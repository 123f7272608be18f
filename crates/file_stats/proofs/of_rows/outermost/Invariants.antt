use Rattle.std.proofs.Common.{◌≡◌, ◌≤◌, length, drop}
use Rattle.std.specs.Prelude.{option_map}
use Rattle.file_stats.specs.Columns.{bound_of, column_in}
use Rattle.file_stats.proofs.of_rows.outermost.Given as goal

-- the bound of the rows from i on
pub record Invariant (l : goal.Live-loop-i) : Type 0 where
  pub within : l.i ≤ length l.slice
  pub found : option_map (λ d. d.now) l.found ≡ bound_of l.bound (column_in (drop l.i l.slice) l.place)

abbrev pub invariant-loop-i : goal.invariant-loop-i
invariant-loop-i l = Invariant l

abbrev pub decreases-loop-i : goal.decreases-loop-i
decreases-loop-i l = l.i
