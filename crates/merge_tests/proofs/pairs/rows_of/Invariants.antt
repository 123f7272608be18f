-- The rows so far have two data each.
use Rattle.std.proofs.Common.{◌≡◌, ◌==◌, true, length}
use Rattle.std.specs.List.{list_all}
use Rattle.merge_tests.proofs.pairs.rows_of.Given as goal

abbrev pub invariant-loop-id : goal.invariant-loop-id
invariant-loop-id l = list_all (λ r. length r == 2) l.rows ≡ true
