use Rattle.std.proofs.Common.{length}
use Rattle.predicates.specs.Truths.{is_bound}
use Rattle.row_base.specs.Bags.{others}
use Rattle.std.specs.List.{list_any}
use Rattle.dml_ops.specs.Changes.{passes}
use Rattle.dml_ops.proofs.Gathering.{all_step}
use Rattle.dml_ops.proofs.Passing.{came, left_step, touched_step}
use Rattle.dml_ops.proofs.change.delete.Goals as goal

pub rows-preserved : goal.rows-preserved
rows-preserved c =
    let P = passes c.args.pred.now in
    let l = c.rows in
    let row = c.next_into.new.row.items in
    let rest = c.next_into.new.self in
    let at = came c.in_ok-next_into.field-0 _ _ c.in_ok-next_into.ensures.next c.if-branch.true in
    record {
      rows = left_step P row l.coming rest l.left c.delete_row.new.left (others P c.args.rows) at c.in_ok-touched.ensures.rows l.invariant.rows;
      touched = touched_step P row l.coming rest l.touched _ (list_any P c.args.rows) at c.in_ok-touched.ensures.touched l.invariant.touched;
      bound = all_step (λ r. is_bound (length r) c.args.pred.now) row l.coming rest at l.invariant.bound;
    }
