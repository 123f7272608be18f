-- The rows so far have three data each.
use Rattle.std.proofs.Common.{◌≡◌, ◌==◌, true, length}
use Rattle.std.specs.List.{list_all}
use Rattle.merge_tests.proofs.days.sales.Given as goal

abbrev pub invariant-loop-day : goal.invariant-loop-day
invariant-loop-day l = list_all (λ r. length r == 3) l.rows ≡ true
