-- The columns that are left decide; they are places of the row.
use Rattle.std.proofs.Common.{◌≡◌, true, drop, length, nat_lt}
use Rattle.std.specs.List.{list_all, list_any}
use Rattle.predicates.specs.Truths.{cell, is_null}
use Rattle.merge_op.proofs.keys.is_null_key.Given as goal

abbrev pub invariant-loop-column : goal.invariant-loop-column
invariant-loop-column l =
    (list_any (λ c. is_null (cell l.row c)) (drop l.column-index l.keys) ≡ list_any (λ c. is_null (cell l.row c)) l.keys)
    × (list_all (λ c. nat_lt c (length l.row)) (drop l.column-index l.keys) ≡ true)
