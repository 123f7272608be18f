use Rattle.std.proofs.Common.{◌∙◌}
use Rattle.row_kernels.proofs.Widths.{facts_bound}
use Rattle.row_kernels.proofs.asked.run_keys.Goals as goal

pub count_matches-requires : goal.count_matches-requires
count_matches-requires c = facts_bound _ c.deref.result.now c.deref-2.result.now c.in_ok-scope.ensures.bound (c.deref-2.ensures.value ∙ c.in_ok-facts.ensures.ok)
