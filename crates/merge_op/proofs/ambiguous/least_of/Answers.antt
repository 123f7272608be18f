use Rattle.std.proofs.Common.{◌+◌, drop}
use Rattle.merge_op.specs.Found.{rows_beside}
use Rattle.merge_op.specs.Merges.{is_ambiguous}
use Rattle.merge_op.proofs.Beside.{at_beside}
use Rattle.merge_op.proofs.Least.{where_step}
use Rattle.merge_op.proofs.ambiguous.least_of.Goals as goal

pub loop-beside-preserved : goal.loop-beside-preserved
loop-beside-preserved c =
    let l = c.loop-beside in
    let beside = c.beside-item.result in
    where_step (is_ambiguous c.args.op.now) beside.row.now _ (rows_beside (drop (l.beside-index + 1) c.args.matches.now)) _ _ _
    (at_beside c.args.matches.now l.beside-index beside c.loop-beside-test.true c.beside-item.is) c.lesser_of-least.ensures l.invariant
