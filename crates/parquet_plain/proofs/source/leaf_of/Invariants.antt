-- What is left gives what the whole gives.
use Rattle.std.proofs.Common.{◌≡◌, drop}
use Rattle.parquet_plain.specs.Tree.{leaf_from}
use Rattle.parquet_plain.proofs.source.leaf_of.Given as goal

abbrev pub invariant-loop-place : goal.invariant-loop-place
invariant-loop-place l = leaf_from l.column l.place (drop l.place l.leaves) ≡ leaf_from l.column 0 l.leaves
