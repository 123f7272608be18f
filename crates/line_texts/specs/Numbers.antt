-- Numbers in decimal, each with one spelling.
use Rattle.std.specs.Prelude.{ℕ, ◌^◌, ◌==◌, ◌&&◌, ◌||◌, not, nat_lt, Bool, if◌then◌else◌, List, length, drop, slice_index, Option, Some, None, ℤ, pos, negsuc}
use Rattle.std.specs.List.{list_all}
use Rattle.std.specs.Char.{is_ascii_digit}
use Rattle.std.specs.Str.Parse.{signed_digits_value}

-- digits without a leading zero
abbrev pub is_plain : List ℕ → Bool
is_plain digits = nat_lt 0 (length digits) && list_all is_ascii_digit digits && (not (slice_index digits 0 == 48) || (length digits == 1))

-- a spelling of a number: a minus where it is below zero, and no leading zero
abbrev pub is_spelling : List ℕ → Bool
is_spelling text = if slice_index text 0 == 45 then is_plain (drop 1 text) && not (slice_index text 1 == 48) else is_plain text

-- a number of 64 bits
abbrev pub fits : ℤ → Bool
fits (pos n) = nat_lt n (2 ^ 63)
fits (negsuc n) = nat_lt n (2 ^ 63)

-- the number of 64 bits that is spelled so
abbrev pub long_of_text : List ℕ → Option ℤ
long_of_text text = if is_spelling text && fits (signed_digits_value 10 text) then Some (signed_digits_value 10 text) else None
