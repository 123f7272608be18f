-- The values so far, before those of the expressions that are left, are the row; those left are bound.
use Rattle.std.proofs.Common.{◌≡◌, ◌++◌, drop, length, true, Ok}
use Rattle.std.specs.List.{list_all}
use Rattle.row_base.specs.Faults.{◌>>=◌}
use Rattle.predicates.specs.Values.{is_expr_bound}
use Rattle.dml_ops.specs.Images.{values_of}
use Rattle.dml_ops.proofs.image.values_of.Given as goal

abbrev pub invariant-loop-expr : goal.invariant-loop-expr
invariant-loop-expr l =
    ((values_of l.row (drop l.expr-index l.exprs) >>= λ ds. Ok (l.values.items ++ ds)) ≡ values_of l.row l.exprs)
    × (list_all (is_expr_bound (length l.row) 0) (drop l.expr-index l.exprs) ≡ true)
