use Rattle.std.proofs.Common.{◌∙◌}
use Rattle.row_kernels.proofs.Widths.{facts_bound}
use Rattle.row_kernels.proofs.asked.run_asked.Goals as goal

pub count_matches-count-requires : goal.count_matches-count-requires
count_matches-count-requires c = facts_bound _ c.deref.result.now c.deref-in-loop.result.now c.loop.invariant.bound (c.deref-in-loop.ensures.value ∙ c.in_ok-facts.ensures.ok)
