-- The rows that are left decide.
use Rattle.std.proofs.Common.{◌≡◌, ◌==◌, length}
use Rattle.std.specs.List.{list_all}
use Rattle.change_tests.proofs.pairs.are_wide.Given as goal

abbrev pub invariant-loop-row : goal.invariant-loop-row
invariant-loop-row l = list_all (λ r. length r == 2) l.row-iterator ≡ list_all (λ r. length r == 2) l.rows
