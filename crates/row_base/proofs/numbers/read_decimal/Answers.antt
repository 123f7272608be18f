use Rattle.std.proofs.Common.{◌∙◌}
use Rattle.row_base.proofs.Numerals.{decimal_natural, no_decimal}
use Rattle.row_base.proofs.numbers.read_decimal.Goals as goal

pub returns-then-is_decimal : goal.returns-then-is_decimal
returns-then-is_decimal c = c.read_natural.ensures ∙ decimal_natural c.args.text.now c.if-is_decimal.ensures

pub returns-else-is_decimal : goal.returns-else-is_decimal
returns-else-is_decimal c = no_decimal c.args.text.now c.if-is_decimal.ensures
