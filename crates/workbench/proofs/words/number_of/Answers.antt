use Rattle.workbench.proofs.Numerals.{parsed, is_utf8}
use Rattle.workbench.proofs.words.number_of.Goals as goal

pub returns-in-Ok : goal.returns-in-Ok
returns-in-Ok c =
    parsed c.args.digits.now c.in-Ok.digits.now c.parse.result c.ok.result c.if-not-are_digits.ensures c.in-Ok.ensures.cases.0 c.parse.ensures.value.0 c.ok.ensures.value

pub returns-in-Err : goal.returns-in-Err
returns-in-Err c = absurd (c.in-Err.ensures.cases.0 (is_utf8 c.args.digits.now c.if-not-are_digits.ensures))
