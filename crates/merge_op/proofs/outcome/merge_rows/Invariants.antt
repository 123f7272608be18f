-- What came so far, before what comes of the rows that are left, is what comes of all.
use Rattle.std.proofs.Common.{◌≡◌, ◌++◌, drop}
use Rattle.dml_ops.specs.Outcomes.{rows_of, least_of, lesser}
use Rattle.merge_op.specs.Found.{rows_beside}
use Rattle.merge_op.specs.Merges.{merge_step}
use Rattle.merge_op.proofs.outcome.merge_rows.Given as goal

abbrev pub invariant-loop-beside : goal.invariant-loop-beside
invariant-loop-beside l = record {
  rows : l.gathered.rows ++ rows_of (merge_step l.schema l.op) (rows_beside (drop l.beside-index l.matches)) ≡ l.fn.gathered.rows ++ rows_of (merge_step l.schema l.op) (rows_beside l.matches);
  least : lesser l.gathered.least (least_of (merge_step l.schema l.op) (rows_beside (drop l.beside-index l.matches))) ≡ lesser l.fn.gathered.least (least_of (merge_step l.schema l.op) (rows_beside l.matches));
}
