use Rattle.std.proofs.Common.{◌≡◌, drop}
use Rattle.row_base.specs.Numbers.{with_digits}
use Rattle.row_base.proofs.numbers.with_digits.Given as goal

-- the rest behind what was read gives what the whole gives
abbrev pub invariant-loop-digit : goal.invariant-loop-digit
invariant-loop-digit l = with_digits l.number (drop l.digit-index l.digits) ≡ with_digits l.front l.digits
