-- The data so far, before those that are left, are the key.
use Rattle.std.proofs.Common.{◌≡◌, ◌++◌, drop, length, Ok}
use Rattle.row_base.specs.Faults.{◌>>=◌}
use Rattle.predicates.specs.Binding.{key_as}
use Rattle.predicates.proofs.bind.key.Given as goal

abbrev pub invariant-loop-i : goal.invariant-loop-i
invariant-loop-i l =
    ((key_as l.columns (drop l.i l.names) (drop l.i l.values) >>= λ ds. Ok (l.key.items ++ ds)) ≡ key_as l.columns l.names l.values)
    × (length l.key.items ≡ l.i)
