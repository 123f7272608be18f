use Rattle.std.proofs.Common.{◌≡◌, ◌≤◌, length, drop}
use Rattle.prune.specs.Facts.{keys_by}
use Rattle.prune.proofs.walk.any_key.Given as goal

-- the truths of the keys from i on
pub record Invariant (l : goal.Live-loop-i) : Type 0 where
  pub within : l.i ≤ length l.slice
  pub truths : l.truths ≡ keys_by l.facts l.columns (drop l.i l.slice)

abbrev pub invariant-loop-i : goal.invariant-loop-i
invariant-loop-i l = Invariant l

abbrev pub decreases-loop-i : goal.decreases-loop-i
decreases-loop-i l = l.i
