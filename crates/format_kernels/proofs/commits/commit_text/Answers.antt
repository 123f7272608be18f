use Rattle.std.proofs.Common.{◌∙◌, arith}
use Rattle.format_kernels.proofs.Adds.{adds_next, text_says}
use Rattle.format_kernels.proofs.commits.commit_text.Goals as goal

pub loop-number-preserved : goal.loop-number-preserved
loop-number-preserved c =
    adds_next c.loop-number.number c.in_ok-added_file.field-0 c.loop-number.actions.items c.push.new.self.items
    c.loop-number.invariant c.in_ok-added_file.ensures c.in_ok-push.ensures.items

pub returns-clause-back : goal.returns-clause-back
returns-clause-back c =
    text_says c.in_ok-text.text.items c.deref.result.now c.loop-number.number c.args.count (c.deref.ensures.value ∙ c.loop-number.invariant) (omega arith) (omega arith)
    c.in_ok-text.ensures.back
