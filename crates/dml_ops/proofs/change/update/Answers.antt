use Rattle.std.proofs.Common.{◌&&◌, length}
use Rattle.std.specs.List.{list_any}
use Rattle.predicates.specs.Truths.{is_bound}
use Rattle.op_types.specs.Bound.{are_sets_bound}
use Rattle.dml_ops.specs.Outcomes.{rows_of, least_of}
use Rattle.dml_ops.specs.Changes.{passes, update_step}
use Rattle.dml_ops.proofs.Gathering.{rows_step, least_step, all_step}
use Rattle.dml_ops.proofs.Passing.{came, touched_step}
use Rattle.dml_ops.proofs.change.update.Goals as goal

pub rows-preserved : goal.rows-preserved
rows-preserved c =
    let P = passes c.args.pred.now in
    let f = update_step c.args.pred.now c.args.sets.now c.args.schema.now in
    let l = c.rows in
    let row = c.next_into.new.row.items in
    let rest = c.next_into.new.self in
    let at = came c.in_ok-next_into.field-0 _ _ c.in_ok-next_into.ensures.next c.if-branch.true in
    record {
      rows = rows_step f row l.coming rest l.gathered.rows c.update_row.new.gathered.rows (rows_of f c.args.rows) at c.in_ok-touched.ensures.rows l.invariant.rows;
      least = least_step f row l.coming rest l.gathered.least c.update_row.new.gathered.least (least_of f c.args.rows) at c.in_ok-touched.ensures.least l.invariant.least;
      touched = touched_step P row l.coming rest l.touched _ (list_any P c.args.rows) at c.in_ok-touched.ensures.touched l.invariant.touched;
      bound = all_step (λ r. is_bound (length r) c.args.pred.now && are_sets_bound (length r) 0 c.args.sets.now) row l.coming rest at l.invariant.bound;
    }
