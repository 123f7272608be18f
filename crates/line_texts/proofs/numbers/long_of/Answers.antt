use Rattle.line_texts.proofs.Spellings.{parsed, spelling_utf8}
use Rattle.line_texts.proofs.numbers.long_of.Goals as goal

pub returns-in-Ok : goal.returns-in-Ok
returns-in-Ok c = parsed c.args.text.now c.in-Ok.text.now c.parse.result c.ok.result c.if-is_spelling.ensures c.in-Ok.ensures.cases.0 c.parse.ensures.value.0 c.ok.ensures.value

pub returns-in-Err : goal.returns-in-Err
returns-in-Err c = absurd (c.in-Err.ensures.cases.0 (spelling_utf8 c.args.text.now c.if-is_spelling.ensures))
