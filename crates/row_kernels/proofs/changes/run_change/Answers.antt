use Rattle.row_kernels.proofs.Widths.{ops_bound}
use Rattle.row_kernels.proofs.changes.run_change.Goals as goal

pub change_file-requires : goal.change_file-requires
change_file-requires c = ops_bound c.in_ok-op.op 1 c.args.count c.in_ok-rows.rows c.in_ok-op.ensures.bound c.in_ok-rows.ensures
