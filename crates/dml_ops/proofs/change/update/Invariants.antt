-- What came so far, before what comes of the rows that are to come, is what comes of all; whether one was in the scope, or one of those is, decides; those are bound.
use Rattle.std.proofs.Common.{◌≡◌, ◌++◌, ◌||◌, ◌&&◌, length, true}
use Rattle.std.specs.List.{list_all, list_any}
use Rattle.predicates.specs.Truths.{is_bound}
use Rattle.op_types.specs.Bound.{are_sets_bound}
use Rattle.dml_ops.specs.Outcomes.{rows_of, least_of, lesser}
use Rattle.dml_ops.specs.Changes.{passes, update_step}
use Rattle.dml_ops.proofs.change.update.Given as goal

abbrev pub invariant-rows : goal.invariant-rows
invariant-rows l = record {
  rows : l.gathered.rows ++ rows_of (update_step l.pred l.sets l.schema) l.coming ≡ rows_of (update_step l.pred l.sets l.schema) l.fn.rows;
  least : lesser l.gathered.least (least_of (update_step l.pred l.sets l.schema) l.coming) ≡ least_of (update_step l.pred l.sets l.schema) l.fn.rows;
  touched : l.touched || list_any (passes l.pred) l.coming ≡ list_any (passes l.pred) l.fn.rows;
  bound : list_all (λ r. is_bound (length r) l.pred && are_sets_bound (length r) 0 l.sets) l.coming ≡ true;
}

abbrev pub decreases-rows : goal.decreases-rows
decreases-rows l = length l.coming
