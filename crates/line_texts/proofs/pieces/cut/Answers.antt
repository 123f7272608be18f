use Rattle.line_texts.proofs.Cuts.{pieces_at, pieces_none}
use Rattle.line_texts.proofs.pieces.cut.Goals as goal

pub returns-in-Some-clause-some : goal.returns-in-Some-clause-some
returns-in-Some-clause-some c = rw (c.around.ensures.front, c.around.ensures.back) (pieces_at c.args.byte c.in-Some.at c.args.text.now c.in-Some.ensures).1

pub returns-in-None-clause-none : goal.returns-in-None-clause-none
returns-in-None-clause-none c = pieces_none c.args.byte c.args.text.now c.in-None.ensures
