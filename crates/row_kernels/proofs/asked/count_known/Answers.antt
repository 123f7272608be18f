use Rattle.std.proofs.Common.{ap, ◌∙◌}
use Rattle.row_kernels.specs.Scopes.{one_if}
use Rattle.row_kernels.specs.Files.{may, facts_by}
use Rattle.row_kernels.proofs.Counts.{made_counted}
use Rattle.row_kernels.proofs.asked.count_known.Goals as goal

pub loop-text-preserved : goal.loop-text-preserved
loop-text-preserved c =
    let loop = c.loop-text in
    made_counted facts_by (may c.args.scope.now) c.args.texts.now loop.text-index loop.count c.one_if.result _ c.text-item.result c.loop-text-test.true c.text-item.is
    (c.one_if.ensures ∙ ap one_if c.in_ok-may.ensures.ok) loop.invariant
