use Rattle.row_base.proofs.Numerals.{parsed, number_utf8, not_number}
use Rattle.row_base.proofs.numbers.read_long.Goals as goal

pub returns-in-Ok : goal.returns-in-Ok
returns-in-Ok c = parsed c.args.text.now c.in-Ok.text.now c.parse.result c.ok.result c.if-is_number.ensures c.in-Ok.ensures.cases.0 c.parse.ensures.value.0 c.ok.ensures.value

pub returns-in-Err : goal.returns-in-Err
returns-in-Err c = absurd (c.in-Err.ensures.cases.0 (number_utf8 c.args.text.now c.if-is_number.ensures))

pub returns-else-is_number : goal.returns-else-is_number
returns-else-is_number c = not_number c.args.text.now c.if-is_number.ensures
