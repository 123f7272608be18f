-- The keys so far, before those that are left, are the keys; all are as long as the names.
use Rattle.std.proofs.Common.{◌≡◌, ◌++◌, ◌==◌, true, length, Ok}
use Rattle.std.specs.List.{list_all}
use Rattle.row_base.specs.Faults.{◌>>=◌}
use Rattle.predicates.specs.Binding.{keys_as}
use Rattle.predicates.proofs.bind.keys.Given as goal

abbrev pub invariant-loop-row : goal.invariant-loop-row
invariant-loop-row l =
    ((keys_as l.columns l.names l.row-iterator >>= λ ks. Ok (l.keys ++ ks)) ≡ keys_as l.columns l.names l.rows)
    × (list_all (λ k. length k == length l.names) l.keys ≡ true)
