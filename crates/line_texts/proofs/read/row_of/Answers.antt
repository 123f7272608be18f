use Rattle.line_texts.specs.Pieces.{pieces}
use Rattle.line_texts.specs.Texts.{datum_of_text}
use Rattle.line_texts.proofs.Cuts.{each_more}
use Rattle.line_texts.proofs.read.row_of.Goals as goal

pub numbers-preserved : goal.numbers-preserved
numbers-preserved c =
    rw (c.in_ok-push-in-Some-datum_of.ensures.items)
    (each_more datum_of_text c.in-Some.front.now (pieces 44 c.in-Some.back.now) (pieces 44 c.numbers.rest.now) c.in-Some-datum_of.datum c.numbers.data.items _ c.in-Some.ensures.some c.in-Some-datum_of.ensures c.numbers.invariant)
