-- Numbers in decimal.
use Rattle.std.specs.Prelude.{ℕ, ◌^◌, ◌+◌, ◌*◌, ◌==◌, ◌&&◌, ◌||◌, not, nat_lt, Bool, if◌then◌else◌, List, [], ◌∷◌, length, drop, slice_index, Option, Some, None, option_and_then, ℤ, pos, negsuc}
use Rattle.std.specs.List.{list_all}
use Rattle.std.specs.Char.{is_ascii_digit, digit_value}
use Rattle.std.specs.Str.Parse.{digits_value, signed_digits_value}

-- one digit at least, and nothing but digits
abbrev pub is_digits : List ℕ → Bool
is_digits text = nat_lt 0 (length text) && list_all is_ascii_digit text

-- digits of which the first is 0 only where it is the only one
abbrev pub is_decimal : List ℕ → Bool
is_decimal text = is_digits text && (not (slice_index text 0 == 48) || (length text == 1))

-- digits, behind a minus where there is one
abbrev pub is_number : List ℕ → Bool
is_number text = if slice_index text 0 == 45 then is_digits (drop 1 text) else is_digits text

-- a number of 64 bits with a sign
abbrev pub is_i64 : ℤ → Bool
is_i64 (pos n) = nat_lt n (2 ^ 63)
is_i64 (negsuc n) = nat_lt n (2 ^ 63)

-- the number that digits and one more write
abbrev pub with_digit : ℕ → ℕ → Option ℕ
with_digit n d = if is_ascii_digit d && nat_lt (n * 10 + digit_value d) (2 ^ 64) then Some (n * 10 + digit_value d) else None

-- the number that digits write behind those of another
unfoldable pub with_digits : ℕ → List ℕ → Option ℕ
with_digits n [] = Some n
with_digits n (d ∷ ds) = option_and_then (λ m. with_digits m ds) (with_digit n d)

-- the number of 64 bits that digits write; leading zeros are taken
unfoldable pub natural_in : List ℕ → Option ℕ
natural_in text = if is_digits text && nat_lt (digits_value 10 text) (2 ^ 64) then Some (digits_value 10 text) else None

-- the number of 64 bits that a text writes without a sign and without a leading zero
unfoldable pub decimal_in : List ℕ → Option ℕ
decimal_in text = if is_decimal text && nat_lt (digits_value 10 text) (2 ^ 64) then Some (digits_value 10 text) else None

-- the number of 64 bits that a text writes, with a minus where there is one; leading zeros are taken
unfoldable pub long_in : List ℕ → Option ℤ
long_in text = if is_number text && is_i64 (signed_digits_value 10 text) then Some (signed_digits_value 10 text) else None
