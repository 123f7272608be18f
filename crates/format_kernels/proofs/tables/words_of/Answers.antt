use Rattle.std.proofs.Common.{◌∙◌, arith}
use Rattle.format_kernels.proofs.Rows.{words_next, words_done}
use Rattle.format_kernels.proofs.tables.words_of.Goals as goal

pub loop-number-preserved : goal.loop-number-preserved
loop-number-preserved c =
    words_next c.loop-number.number c.in_ok-from_string.field-0 c.loop-number.words.items c.push.new.self.items c.loop-number.invariant
    (c.in_ok-from_string.ensures ∙ c.in_ok-word_of.ensures) c.in_ok-push.ensures.items

pub returns : goal.returns
returns c = words_done c.loop-number.number c.loop-number.words.items (omega arith) c.loop-number.invariant
