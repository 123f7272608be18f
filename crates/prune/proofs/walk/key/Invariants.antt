use Rattle.std.proofs.Common.{◌≡◌, ◌≤◌, length, drop}
use Rattle.prune.specs.Facts.{key_by}
use Rattle.prune.proofs.walk.key.Given as goal

-- the truths of the columns from i on
pub record Invariant (l : goal.Live-loop-i) : Type 0 where
  pub within : l.i ≤ length l.columns
  pub truths : l.truths ≡ key_by l.facts (drop l.i l.columns) (drop l.i l.key)

abbrev pub invariant-loop-i : goal.invariant-loop-i
invariant-loop-i l = Invariant l

abbrev pub decreases-loop-i : goal.decreases-loop-i
decreases-loop-i l = l.i
