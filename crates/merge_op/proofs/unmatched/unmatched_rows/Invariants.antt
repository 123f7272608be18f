-- The rows so far, before those that are left and match no row, are those that match none; their columns are there.
use Rattle.std.proofs.Common.{◌≡◌, ◌++◌, true, length, nat_lt}
use Rattle.std.specs.Prelude.{filter}
use Rattle.std.specs.List.{list_all}
use Rattle.merge_op.specs.Found.{is_left}
use Rattle.merge_op.proofs.unmatched.unmatched_rows.Given as goal

abbrev pub invariant-loop-row : goal.invariant-loop-row
invariant-loop-row l =
    (l.left ++ filter (is_left l.keys l.keyed) l.row-iterator ≡ filter (is_left l.keys l.keyed) l.source)
    × (list_all (λ s. list_all (λ c. nat_lt c (length s)) l.keys) l.row-iterator ≡ true)
