-- A date that is read is a day of the years 1 to 9999.
use Rattle.std.proofs.Common.{◌≡◌, ℕ, ◌<◌, ◌≤◌, ◌⊎◌, inl, inr, List, Some, ℤ, pos, neg_ℤ, refl, sym, subst, arith}
use Rattle.jiff_core.specs.Calendar.{days_from_civil, day_count, days_of_years, days_of_months, IsCivilDate}
use Rattle.jiff_core.proofs.SignedLemmas.{signed_arith}
use Rattle.jiff_core.proofs.CalendarLemmas.{days_from_civil-day_count, day_count-lt_year, day_count-day_of_year}
use Rattle.row_base.specs.Dates.{IsDay, IsDayNumber, date_in}
use Rattle.row_base.proofs.DateLemmas.{read_is}

same_or_later : (y : ℕ) → 1 ≤ y → (y ≡ 1) ⊎ (1 < y)
same_or_later y h = grind arith

from_first : (y m d : ℕ) → IsDay y m d → day_count (pos 1) 1 1 ≤ day_count (pos y) m d
from_first y m d h = elim (same_or_later y h.0.0) [
  | inl same ↦ subst (λ n. day_count (pos n) 1 1 ≤ day_count (pos y) m d) same (omega (arith, h.2.0, day_count-day_of_year (pos y) m d h.2.0))
  | inr later ↦ omega (arith, day_count-lt_year (pos 1) 1 1 (pos y) m d (omega (arith, signed_arith), (omega arith, omega arith), (omega arith, omega arith)) h.2.0 (omega (arith, signed_arith)))
]

first_day : days_from_civil (pos 1) 1 1 ≡ neg_ℤ (pos 719_162)
unfolding days_from_civil day_count days_of_years days_of_months
first_day = refl

past_last : days_from_civil (pos 10000) 1 1 ≡ pos 2_932_897
unfolding days_from_civil day_count days_of_years days_of_months
past_last = refl

in_range : (y m d : ℕ) → IsDay y m d → IsDayNumber (days_from_civil (pos y) m d)
in_range y m d h =
    let civil : IsCivilDate (pos y) m d = (omega (arith, signed_arith, h.0.0, h.0.1), h.1, h.2) in
    let low = from_first y m d h in
    let high = day_count-lt_year (pos y) m d (pos 10000) 1 1 civil (omega arith) (omega (arith, signed_arith)) in (
      omega (arith, signed_arith, first_day, low, days_from_civil-day_count (pos y) m d, days_from_civil-day_count (pos 1) 1 1),
      omega (arith, signed_arith, past_last, high, days_from_civil-day_count (pos y) m d, days_from_civil-day_count (pos 10000) 1 1),
    )

pub date_in_range : (text : List ℕ) (n : ℤ) → date_in text ≡ Some n → IsDayNumber n
date_in_range text n e = let t = read_is text n e in subst IsDayNumber (sym t.is_number) (in_range t.year t.month t.day t.is_day)
