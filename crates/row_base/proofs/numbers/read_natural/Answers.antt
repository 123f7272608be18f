use Rattle.std.proofs.Common.{◌∙◌}
use Rattle.row_base.proofs.Numerals.{no_digits, some_digits}
use Rattle.row_base.proofs.numbers.read_natural.Goals as goal

pub returns-then-is_empty : goal.returns-then-is_empty
returns-then-is_empty c = no_digits c.args.text.now c.if-is_empty.ensures

pub returns-else-is_empty : goal.returns-else-is_empty
returns-else-is_empty c = c.with_digits.ensures ∙ some_digits c.args.text.now c.if-is_empty.ensures
