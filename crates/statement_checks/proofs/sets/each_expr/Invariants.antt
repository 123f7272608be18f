-- The expressions so far, before those that are left, are the expressions; they are bound.
use Rattle.std.proofs.Common.{◌≡◌, ◌++◌, drop, length, true, Ok}
use Rattle.std.specs.List.{list_all}
use Rattle.row_base.specs.Faults.{◌>>=◌}
use Rattle.predicates.specs.Values.{is_expr_bound}
use Rattle.statement_checks.specs.Operations.{exprs_for}
use Rattle.statement_checks.proofs.sets.each_expr.Given as goal

abbrev pub invariant-loop-i : goal.invariant-loop-i
invariant-loop-i l =
    ((exprs_for l.schema.columns (drop l.i l.columns) (drop l.i l.exprs) >>= λ bs. Ok (l.bound.items ++ bs)) ≡ exprs_for l.schema.columns l.columns l.exprs)
    × (list_all (is_expr_bound (length l.schema.columns) (length l.schema.columns)) l.bound.items ≡ true)
