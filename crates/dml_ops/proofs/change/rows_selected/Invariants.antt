-- What came so far, before what comes of the rows that are left, is what comes of all; those left are bound.
use Rattle.std.proofs.Common.{◌≡◌, ◌++◌, ◌&&◌, length, true}
use Rattle.std.specs.List.{list_all}
use Rattle.predicates.specs.Truths.{is_bound}
use Rattle.predicates.specs.Values.{is_expr_bound}
use Rattle.dml_ops.specs.Outcomes.{rows_of, least_of, lesser}
use Rattle.dml_ops.specs.Changes.{select_step}
use Rattle.dml_ops.proofs.change.rows_selected.Given as goal

abbrev pub invariant-loop-row : goal.invariant-loop-row
invariant-loop-row l = record {
  rows : l.gathered.rows ++ rows_of (select_step l.pred l.exprs l.schema) l.row-iterator ≡ rows_of (select_step l.pred l.exprs l.schema) l.rows;
  least : lesser l.gathered.least (least_of (select_step l.pred l.exprs l.schema) l.row-iterator) ≡ least_of (select_step l.pred l.exprs l.schema) l.rows;
  bound : list_all (λ r. is_bound (length r) l.pred && list_all (is_expr_bound (length r) 0) l.exprs) l.row-iterator ≡ true;
}
