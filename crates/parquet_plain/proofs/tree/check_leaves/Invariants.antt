-- What is left is refused where the whole is.
use Rattle.std.proofs.Common.{◌≡◌, drop}
use Rattle.parquet_plain.specs.Tree.{leaves_checked}
use Rattle.parquet_plain.proofs.tree.check_leaves.Given as goal

abbrev pub invariant-loop-place : goal.invariant-loop-place
invariant-loop-place l = leaves_checked l.sources l.children l.place (drop l.place l.leaves) ≡ leaves_checked l.sources l.children 0 l.leaves
