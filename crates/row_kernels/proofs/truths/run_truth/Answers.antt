use Rattle.row_kernels.proofs.Widths.{are_bound}
use Rattle.row_kernels.proofs.truths.run_truth.Goals as goal

pub count_scope-requires : goal.count_scope-requires
count_scope-requires c = are_bound c.in_ok-scope.scope 1 c.args.count c.in_ok-rows.rows c.in_ok-scope.ensures.bound c.in_ok-rows.ensures
