use Rattle.std.proofs.Common.{length, ap, ◌∙◌}
use Rattle.predicates.specs.Truths.{is_bound}
use Rattle.row_kernels.specs.Scopes.{one_if}
use Rattle.row_kernels.specs.Files.{may}
use Rattle.row_kernels.proofs.Counts.{item_counted, all_left}
use Rattle.row_kernels.proofs.asked.count_matches.Goals as goal

pub loop-file-preserved : goal.loop-file-preserved
loop-file-preserved c =
    let scope = c.args.scope.now in
    let facts = c.args.facts.now in
    let loop = c.loop-file in
    record {
      counted = item_counted (may scope) facts loop.file-index loop.count c.one_if-count.result _ c.file-item.result c.loop-file-test.true c.file-item.is
          (c.one_if-count.ensures ∙ ap one_if c.may_match.ensures) loop.invariant.counted;
      bound = all_left (λ f. is_bound (length f) scope) facts loop.file-index c.file-item.result c.loop-file-test.true loop.invariant.bound;
    }
