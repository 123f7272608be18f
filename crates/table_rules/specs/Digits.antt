-- Numbers written with a fixed number of digits.
use Rattle.std.specs.Prelude.{ℕ, zero, suc, ◌+◌, ◌/◌, ◌%◌, ◌==◌, if◌then◌else◌, nat_lt, List, [], ◌∷◌, ◌++◌, Option, None, length}
use Rattle.std.specs.Fmt.{decimal}
use Rattle.row_base.specs.Numbers.{natural_in}

-- the last digits of a number, as many as are asked for
unfoldable pub padded : ℕ → ℕ → List ℕ
padded zero n = []
padded (suc places) n = padded places (n / 10) ++ (48 + n % 10) ∷ []

-- a number in at least five digits
abbrev pub five_or_more : ℕ → List ℕ
five_or_more n = if nat_lt n 100000 then padded 5 n else decimal n

-- the number of 64 bits that so many digits write
abbrev pub number_in : ℕ → List ℕ → Option ℕ
number_in count text = if length text == count then natural_in text else None
