-- The sets so far, before those that are left, are the sets; they are bound.
use Rattle.std.proofs.Common.{◌≡◌, ◌++◌, [], drop, length, true, Ok}
use Rattle.row_base.specs.Faults.{◌>>=◌}
use Rattle.op_types.specs.Bound.{are_sets_bound}
use Rattle.statement_checks.specs.Operations.{sets_in}
use Rattle.statement_checks.proofs.sets.each_set.Given as goal

abbrev pub invariant-loop-set : goal.invariant-loop-set
invariant-loop-set l =
    ((sets_in l.schema.columns l.bound.items (drop l.set-index l.sets) >>= λ bs. Ok (l.bound.items ++ bs)) ≡ sets_in l.schema.columns [] l.sets)
    × (are_sets_bound (length l.schema.columns) (length l.schema.columns) l.bound.items ≡ true)
