-- Dates of the years 1 to 9999 as texts, yyyy-MM-dd (ISO 8601, calendar date in extended format), and as
-- numbers of days since 1970-01-01.
use Rattle.std.specs.Prelude.{◌≡◌, ℕ, zero, suc, ◌+◌, ◌-◌, ◌*◌, ◌/◌, ◌%◌, nat_le, ◌==◌, Bool, ◌&&◌, if◌then◌else◌, List, [], ◌∷◌, slice_index, Option, Some, None, ℤ, pos, neg_ℤ, ◌-ℤ◌, int_le, unsigned_abs}
use Rattle.std.specs.Int.{IsInRange}
use Rattle.std.specs.Cmp.Lexicographic.{pointwise}
use Rattle.jiff_core.specs.Calendar.{IsBetween, days_in_month, days_from_civil}

-- the calendar has this day, in the years 1 to 9999
abbrev pub IsDay : ℕ → ℕ → ℕ → Type 0
IsDay y m d = IsInRange 1 9999 y × IsInRange 1 12 m × IsInRange 1 (days_in_month (pos y) m) d

-- the test of the same
abbrev pub is_day : ℕ → ℕ → ℕ → Bool
is_day y m d =
    (nat_le 1 y && nat_le y 9999) && (nat_le 1 m && nat_le m 12) && (nat_le 1 d && nat_le d (days_in_month (pos y) m))

-- the number of a day from 0001-01-01 to 9999-12-31
abbrev pub IsDayNumber : ℤ → Type 0
IsDayNumber n = IsBetween (neg_ℤ (pos 719_162)) (pos 2_932_896) n

-- the last decimal digit of a number, in ASCII
abbrev pub digit_of : ℕ → ℕ
digit_of n = 48 + n % 10

-- yyyy-MM-dd, in ASCII
abbrev pub date_text : ℕ → ℕ → ℕ → List ℕ
date_text y m d =
    digit_of (y / 1000) ∷ digit_of (y / 100) ∷ digit_of (y / 10) ∷ digit_of y ∷ 45 ∷ digit_of (m / 10) ∷ digit_of m ∷ 45 ∷ digit_of (d / 10) ∷ digit_of d ∷ []

-- these bytes are the text of a day, and n is its number
pub record IsDateText (bytes : List ℕ) (n : ℤ) : Type 0 where
  pub year : ℕ
  pub month : ℕ
  pub day : ℕ
  pub is_day : IsDay year month day
  pub is_text : bytes ≡ date_text year month day
  pub is_number : n ≡ days_from_civil (pos year) month day

-- the number that two digits in ASCII make
abbrev pub two_digits : ℕ → ℕ → ℕ
two_digits tens ones = 10 * (tens - 48) + (ones - 48)

-- the number of this day, where the calendar has it and these bytes are its text
unfoldable pub named_day : List ℕ → ℕ → ℕ → ℕ → Option ℤ
named_day bytes y m d =
    if is_day y m d && pointwise ◌==◌ bytes (date_text y m d) then Some (days_from_civil (pos y) m d) else None

-- the number of the day that a text names
unfoldable pub date_in : List ℕ → Option ℤ
date_in bytes =
    named_day bytes
    (100 * two_digits (slice_index bytes 0) (slice_index bytes 1) + two_digits (slice_index bytes 2) (slice_index bytes 3))
    (two_digits (slice_index bytes 5) (slice_index bytes 6))
    (two_digits (slice_index bytes 8) (slice_index bytes 9))

-- how many of the numbers from 1 to n pass a test
unfoldable pub count_upto : (ℕ → Bool) → ℕ → ℕ
count_upto test zero = 0
count_upto test (suc n) = count_upto test n + (if test (suc n) then 1 else 0)

-- the year of a day: as many of the years from 1 on have begun
unfoldable pub year_of : ℤ → ℕ
year_of n = count_upto (λ y. int_le (days_from_civil (pos y) 1 1) n) 9999

-- the month of a day of this year: as many of its months have begun
unfoldable pub month_of : ℕ → ℤ → ℕ
month_of y n = count_upto (λ m. int_le (days_from_civil (pos y) m 1) n) 12

-- the day's place in its month, from 1
unfoldable pub day_of : ℕ → ℕ → ℤ → ℕ
day_of y m n = unsigned_abs (n -ℤ days_from_civil (pos y) m 1) + 1

-- the text of the day that has this number
unfoldable pub text_of_day : ℤ → List ℕ
text_of_day n =
    let y = year_of n in let m = month_of y n in date_text y m (day_of y m n)
