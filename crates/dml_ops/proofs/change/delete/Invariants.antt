-- The rows so far, before the others of those that are to come, are the others; whether one was in the scope, or one of those is, decides; those are bound.
use Rattle.std.proofs.Common.{◌≡◌, ◌++◌, ◌||◌, length, true}
use Rattle.std.specs.List.{list_all, list_any}
use Rattle.row_base.specs.Bags.{others}
use Rattle.predicates.specs.Truths.{is_bound}
use Rattle.dml_ops.specs.Changes.{passes}
use Rattle.dml_ops.proofs.change.delete.Given as goal

abbrev pub invariant-rows : goal.invariant-rows
invariant-rows l = record {
  rows : l.left ++ others (passes l.pred) l.coming ≡ others (passes l.pred) l.fn.rows;
  touched : l.touched || list_any (passes l.pred) l.coming ≡ list_any (passes l.pred) l.fn.rows;
  bound : list_all (λ r. is_bound (length r) l.pred) l.coming ≡ true;
}

abbrev pub decreases-rows : goal.decreases-rows
decreases-rows l = length l.coming
