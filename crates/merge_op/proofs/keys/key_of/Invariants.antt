-- The data so far, before those of the columns that are left, are the key; the columns are places of the row.
use Rattle.std.proofs.Common.{◌≡◌, ◌++◌, true, drop, map, length, nat_lt}
use Rattle.std.specs.List.{list_all}
use Rattle.predicates.specs.Truths.{cell}
use Rattle.merge_op.proofs.keys.key_of.Given as goal

abbrev pub invariant-loop-column : goal.invariant-loop-column
invariant-loop-column l =
    (l.key.items ++ map (cell l.row) (drop l.column-index l.keys) ≡ map (cell l.row) l.keys)
    × (list_all (λ c. nat_lt c (length l.row)) (drop l.column-index l.keys) ≡ true)
