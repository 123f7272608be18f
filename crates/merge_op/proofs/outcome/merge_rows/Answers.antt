use Rattle.std.proofs.Common.{◌+◌, drop}
use Rattle.dml_ops.proofs.Gathering.{rows_step, least_step}
use Rattle.merge_op.specs.Found.{rows_beside}
use Rattle.merge_op.specs.Merges.{merge_step}
use Rattle.merge_op.proofs.Beside.{at_beside}
use Rattle.merge_op.proofs.outcome.merge_rows.Goals as goal

pub loop-beside-preserved : goal.loop-beside-preserved
loop-beside-preserved c =
    let l = c.loop-beside in
    let beside = c.beside-item.result in
    let rest = rows_beside (drop (l.beside-index + 1) c.args.matches.now) in
    let at = at_beside c.args.matches.now l.beside-index beside c.loop-beside-test.true c.beside-item.is in
    let f = merge_step c.args.schema.now c.args.op.now in
    record {
      rows = rows_step f beside.row.now _ rest _ _ _ at c.in_ok-merge_row.ensures.rows l.invariant.rows;
      least = least_step f beside.row.now _ rest _ _ _ at c.in_ok-merge_row.ensures.least l.invariant.least;
    }
