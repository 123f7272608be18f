-- Dates: the text and the number of a day give each other back.
use Rattle.std.proofs.Common.{◌≡◌, ◌≢◌, ℕ, zero, suc, ◌+◌, ◌-◌, ◌*◌, ◌/◌, ◌<◌, ◌≤◌, ◌==◌, ◌&&◌, ◌⊎◌, inl, inr, Bool, true, false, cond, nat_le, List, [], ◌∷◌, length, Option, Some, None, ℤ, pos, negsuc, ◌-ℤ◌, ◌<ℤ◌, ◌≤ℤ◌, int_le, unsigned_abs, IfSome, IfNone, refl, sym, ◌∙◌, ap, arith}
use Rattle.std.specs.Cmp.Lexicographic.{pointwise, bytes_decides}
use Rattle.std.proofs.lemmas.Bool.Decides.{nat_tests}
use Rattle.std.specs.Str.{IsAscii}
use Rattle.std.proofs.lemmas.Int.{ints, by_lt_z}
use Rattle.std.proofs.lemmas.Str.Ascii.{IsAscii-nil, IsAscii-cons as cons}
use Rattle.jiff_core.specs.Calendar.{days_in_month, days_in_year, days_from_civil, day_count, IsCivilDate}
use Rattle.jiff_core.proofs.SignedLemmas.{signed_arith}
use Rattle.jiff_core.proofs.CalendarLemmas.{days_from_civil-day_count, day_count-lt_year, day_count-lt_month, day_count-day, day_count-next_month, day_count-next_year, day_count-last_of_year, day_count-day_of_year, days_in_month_bounds}
use borrow.Author.Differences.{up, down}
use Rattle.jiff_core.proofs.DateLemmas.{days_from_civil-max}
use Rattle.jiff_core.proofs.MarchLemmas.{day_count-early}
use Rattle.row_base.specs.Dates.{IsDay, is_day, IsDayNumber, digit_of, date_text, IsDateText, two_digits, named_day, date_in, count_upto, year_of, month_of, day_of, text_of_day}

-- the test of a day
day_parts : (y m d top : ℕ) → ((nat_le 1 y && nat_le y 9999) && (nat_le 1 m && nat_le m 12) && (nat_le 1 d && nat_le d top)) ≡ true
    → ((1 ≤ y) × (y ≤ 9999)) × ((1 ≤ m) × (m ≤ 12)) × ((1 ≤ d) × (d ≤ top))
day_parts y m d top e = grind (arith, nat_tests)

day_whole : (y m d top : ℕ) → ((1 ≤ y) × (y ≤ 9999)) → ((1 ≤ m) × (m ≤ 12)) → ((1 ≤ d) × (d ≤ top))
    → ((nat_le 1 y && nat_le y 9999) && (nat_le 1 m && nat_le m 12) && (nat_le 1 d && nat_le d top)) ≡ true
day_whole y m d top h k l = grind (arith, nat_tests)

pub day_from_test : (y m d : ℕ) → is_day y m d ≡ true → IsDay y m d
day_from_test y m d e = day_parts y m d (days_in_month (pos y) m) e

pub test_from_day : (y m d : ℕ) → IsDay y m d → is_day y m d ≡ true
test_from_day y m d h = day_whole y m d (days_in_month (pos y) m) h.0 h.1 h.2

-- the digits of a number of four digits, and of two, make it again
year_back : (y : ℕ) → y < 10000 → 100 * two_digits (digit_of (y / 1000)) (digit_of (y / 100)) + two_digits (digit_of (y / 10)) (digit_of y) ≡ y
year_back y h = omega arith

two_back : (n : ℕ) → n < 100 → two_digits (digit_of (n / 10)) (digit_of n) ≡ n
two_back n h = omega arith

pub named : (bytes : List ℕ) (y m d : ℕ) → IsDay y m d → bytes ≡ date_text y m d → named_day bytes y m d ≡ Some (days_from_civil (pos y) m d)
unfolding named_day
named bytes y m d h e =
    ap (λ b. cond (b && pointwise ◌==◌ bytes (date_text y m d)) (Some (days_from_civil (pos y) m d)) None) (test_from_day y m d h)
    ∙ ap (λ b. cond b (Some (days_from_civil (pos y) m d)) None) ((bytes_decides bytes (date_text y m d)).1 e)

by_both : (a b : Bool) (x y : ℤ) → cond (a && b) (Some x) None ≡ Some y → (a ≡ true) × (b ≡ true) × (x ≡ y)
by_both true true x y e = (refl, refl, cc)
by_both true false x y e = cc
by_both false b x y e = cc

pub named_is : (bytes : List ℕ) (y m d : ℕ) (n : ℤ) → named_day bytes y m d ≡ Some n → IsDateText bytes n
unfolding named_day
named_is bytes y m d n e =
    let parts = by_both (is_day y m d) (pointwise ◌==◌ bytes (date_text y m d)) (days_from_civil (pos y) m d) n e in
    record { year = y; month = m; day = d; is_day = day_from_test y m d parts.0; is_text = (bytes_decides bytes (date_text y m d)).0 parts.1; is_number = sym parts.2 }

-- a text is read exactly where it is the text of a day
pub read_is : (bytes : List ℕ) (n : ℤ) → date_in bytes ≡ Some n → IsDateText bytes n
unfolding date_in
read_is bytes n e = named_is bytes _ _ _ n e

read_text : (y m d : ℕ) → IsDay y m d → date_in (date_text y m d) ≡ Some (days_from_civil (pos y) m d)
unfolding date_in
read_text y m d h =
    let top = days_in_month_bounds (pos y) m in
    let a = year_back y (omega arith) in
    let b = two_back m (omega arith) in
    let c = two_back d (omega arith) in
    (λ i. named_day (date_text y m d) (a i) (b i) (c i)) ∙ named (date_text y m d) y m d h refl

pub is_read : (bytes : List ℕ) (n : ℤ) → IsDateText bytes n → date_in bytes ≡ Some n
is_read bytes n t = ap date_in t.is_text ∙ read_text t.year t.month t.day t.is_day ∙ ap Some (sym t.is_number)

cases_le : (a b : ℕ) → (a ≤ b) ⊎ (b < a)
cases_le a b = grind arith

-- counts
count_all : (test : ℕ → Bool) (n : ℕ) → ((k : ℕ) → 1 ≤ k → k ≤ n → test k ≡ true) → count_upto test n ≡ n
unfolding count_upto
count_all test zero all = refl
count_all test (suc n) all =
    ap (λ b. count_upto test n + cond b 1 0) (all (suc n) (omega arith) (omega arith))
    ∙ ap (λ c. c + 1) (count_all test n (λ k low high. all k low (omega arith))) ∙ omega arith

-- as many pass as come first
count_is : (test : ℕ → Bool) (n k : ℕ) → k ≤ n → ((j : ℕ) → 1 ≤ j → j ≤ k → test j ≡ true) → ((j : ℕ) → k < j → j ≤ n → test j ≡ false) → count_upto test n ≡ k
unfolding count_upto
count_is test zero k h front back = omega arith
count_is test (suc n) k h front back = elim (cases_le k n) [
  | inl below ↦ ap (λ b. count_upto test n + cond b 1 0) (back (suc n) (omega arith) (omega arith)) ∙ ap (λ c. c + 0) (count_is test n k below front (λ j low high. back j low (omega arith))) ∙ omega arith
  | inr above ↦
      let e : k ≡ suc n = omega arith in
      count_all test (suc n) (λ j low high. front j low (omega arith)) ∙ sym e
]

-- ---- the day of a number

le_test : (a b : ℤ) → a ≤ℤ b → int_le a b ≡ true
le_test a b h = grind (arith, ints)

gt_test : (a b : ℤ) → b <ℤ a → int_le a b ≡ false
gt_test a b h = grind (arith, ints)

-- an order of day numbers is one of day counts
begun : (y m d y₂ m₂ d₂ : ℕ) → day_count (pos y) m d ≤ day_count (pos y₂) m₂ d₂ → int_le (days_from_civil (pos y) m d) (days_from_civil (pos y₂) m₂ d₂) ≡ true
begun y m d y₂ m₂ d₂ h = le_test (days_from_civil (pos y) m d) (days_from_civil (pos y₂) m₂ d₂) (omega (arith, signed_arith, days_from_civil-day_count (pos y) m d, days_from_civil-day_count (pos y₂) m₂ d₂))

not_begun : (y m d y₂ m₂ d₂ : ℕ) → day_count (pos y₂) m₂ d₂ < day_count (pos y) m d → int_le (days_from_civil (pos y) m d) (days_from_civil (pos y₂) m₂ d₂) ≡ false
not_begun y m d y₂ m₂ d₂ h = gt_test (days_from_civil (pos y) m d) (days_from_civil (pos y₂) m₂ d₂) (omega (arith, signed_arith, days_from_civil-day_count (pos y) m d, days_from_civil-day_count (pos y₂) m₂ d₂))

first_of : (y m : ℕ) → 1 ≤ y → y ≤ 9999 → 1 ≤ m → m ≤ 12 → IsCivilDate (pos y) m 1
first_of y m low high least most = (omega (arith, signed_arith), (least, most), (omega arith, omega (arith, days_in_month_bounds (pos y) m)))

civil_of : (y m d : ℕ) → IsDay y m d → IsCivilDate (pos y) m d
civil_of y m d h = (omega (arith, signed_arith, h.0.0, h.0.1), h.1, h.2)

-- the year of a day's number is the day's
year_is : (y m d : ℕ) → IsDay y m d → year_of (days_from_civil (pos y) m d) ≡ y
unfolding year_of
year_is y m d h = count_is (λ j. int_le (days_from_civil (pos j) 1 1) (days_from_civil (pos y) m d)) 9999 y h.0.1
    (λ j low high. begun j 1 1 y m d (upto_year j low high))
    (λ j later high. not_begun j 1 1 y m d (day_count-lt_year (pos y) m d (pos j) 1 1 (civil_of y m d h) (omega arith) (omega (arith, signed_arith))))
  where
    upto_year : (j : ℕ) → 1 ≤ j → j ≤ y → day_count (pos j) 1 1 ≤ day_count (pos y) m d
    upto_year j low high = elim (cases_le y j) [
      | inl same ↦ let e : j ≡ y = omega arith in rw e (omega (arith, h.2.0, day_count-day_of_year (pos y) m d h.2.0))
      | inr before ↦ omega (arith, day_count-lt_year (pos j) 1 1 (pos y) m d (first_of j 1 low (omega arith) (omega arith) (omega arith)) h.2.0 (omega (arith, signed_arith)))
    ]

-- the month of a day's number is the day's
month_is : (y m d : ℕ) → IsDay y m d → month_of y (days_from_civil (pos y) m d) ≡ m
unfolding month_of
month_is y m d h = count_is (λ j. int_le (days_from_civil (pos y) j 1) (days_from_civil (pos y) m d)) 12 m h.1.1
    (λ j low high. begun y j 1 y m d (upto_month j low high))
    (λ j later high. not_begun y j 1 y m d (day_count-lt_month (pos y) m d j 1 (civil_of y m d h) (omega arith) later))
  where
    upto_month : (j : ℕ) → 1 ≤ j → j ≤ m → day_count (pos y) j 1 ≤ day_count (pos y) m d
    upto_month j low high = elim (cases_le m j) [
      | inl same ↦ let e : j ≡ m = omega arith in rw e (omega (arith, h.2.0, day_count-day (pos y) m 1 d (omega arith) h.2.0))
      | inr before ↦ omega (arith, day_count-lt_month (pos y) j 1 m d (first_of y j h.0.0 h.0.1 low (omega arith)) h.2.0 before)
    ]

day_is : (y m d : ℕ) → IsDay y m d → day_of y m (days_from_civil (pos y) m d) ≡ d
unfolding day_of
day_is y m d h =
    let gap : days_from_civil (pos y) m d -ℤ days_from_civil (pos y) m 1 ≡ pos (d - 1) =
    omega (arith, signed_arith, h.2.0, days_from_civil-day_count (pos y) m d, days_from_civil-day_count (pos y) m 1, day_count-day (pos y) m 1 d (omega arith) h.2.0) in
    ap (λ z. unsigned_abs z + 1) gap ∙ omega arith

-- the text of a day's number is the day's
pub text_is : (y m d : ℕ) → IsDay y m d → text_of_day (days_from_civil (pos y) m d) ≡ date_text y m d
unfolding text_of_day
text_is y m d h =
    let n = days_from_civil (pos y) m d in
    ap (λ a. date_text a (month_of a n) (day_of a (month_of a n) n)) (year_is y m d h)
    ∙ ap (λ b. date_text y b (day_of y b n)) (month_is y m d h)
    ∙ ap (λ c. date_text y m c) (day_is y m d h)

pub text_given_back : (bytes : List ℕ) (n : ℤ) → IsDateText bytes n → text_of_day n ≡ bytes
text_given_back bytes n t = ap text_of_day t.is_number ∙ text_is t.year t.month t.day t.is_day ∙ sym t.is_text

-- ---- each number in range is a day's

-- the last of the numbers from 1 to n + 1 that passes
record LastTrue (test : ℕ → Bool) (n : ℕ) : Type 0 where
  place : ℕ
  low : 1 ≤ place
  high : place ≤ suc n
  holds : test place ≡ true
  later : (j : ℕ) → place < j → j ≤ suc n → test j ≡ false

last_true : (test : ℕ → Bool) (n : ℕ) → test 1 ≡ true → LastTrue test n
last_true test zero e = record { place = 1; low = omega arith; high = omega arith; holds = e; later = λ j low high. absurd (omega arith) }
last_true test (suc n) e = by (test (suc (suc n))) refl (last_true test n e)
  where
    by : (b : Bool) → test (suc (suc n)) ≡ b → LastTrue test n → LastTrue test (suc n)
    by true t last = record { place = suc (suc n); low = omega arith; high = omega arith; holds = t; later = λ j low high. absurd (omega arith) }
    by false t last = record {
      place = last.place;
      low = last.low;
      high = omega (arith, last.high);
      holds = last.holds;
      later = λ j low high. elim (cases_le j (suc n)) [
        | inl below ↦ last.later j low below
        | inr above ↦ let e : j ≡ suc (suc n) = omega arith in ap test e ∙ t
      ];
    }

le_told : (a b : ℤ) → int_le a b ≡ true → a ≤ℤ b
le_told a b e = grind (arith, ints)

gt_told : (a b : ℤ) → int_le a b ≡ false → b <ℤ a
gt_told a b e = grind (arith, ints)

first_day : day_count (pos 1) 1 1 ≡ 3_652_791
first_day = day_count-early (pos 1) 10000 1 1 refl (omega arith) (omega arith) (omega arith)

last_day : day_count (pos 9999) 12 31 ≡ 7_304_849
last_day = omega (arith, days_from_civil-day_count (pos 9999) 12 31, ap up days_from_civil-max, ap down days_from_civil-max)

december : (y : ℤ) (m : ℕ) → m ≡ 12 → days_in_month y m ≡ 31
december y m e = ap (days_in_month y) e

pub number_is_day : (n : ℤ) → IsDayNumber n → (bytes : List ℕ) × IsDateText bytes n
number_is_day n range =
    let c = up n + 4_371_953 - down n in
    let count : up n + 4_371_953 ≡ down n + c = omega (arith, signed_arith, range.0) in
    let started = le_test (days_from_civil (pos 1) 1 1) n (omega (arith, signed_arith, range.0, first_day, days_from_civil-day_count (pos 1) 1 1)) in
    let year = last_true (λ y. int_le (days_from_civil (pos y) 1 1) n) 9998 started in
    let y = year.place in
    let month = last_true (λ m. int_le (days_from_civil (pos y) m 1) n) 11 year.holds in
    let m = month.place in
    let low : day_count (pos y) m 1 ≤ c = omega (arith, signed_arith, le_told (days_from_civil (pos y) m 1) n month.holds, days_from_civil-day_count (pos y) m 1) in
    let year_end : c < day_count (pos y) 1 1 + days_in_year (pos y) = elim (cases_le y 9998) [
      | inl before ↦ omega (
        arith,
        signed_arith,
        gt_told (days_from_civil (pos (y + 1)) 1 1) n (year.later (y + 1) (omega arith) (omega arith)),
        days_from_civil-day_count (pos (y + 1)) 1 1,
        day_count-next_year (pos y) (pos (y + 1)) (omega (arith, signed_arith)) (omega (arith, signed_arith)),
      )
      | inr last ↦ let e : y ≡ 9999 = omega (arith, year.high) in
          let top = ap (λ a. day_count (pos a) 12 31) e ∙ last_day in
          omega (arith, signed_arith, range.1, top, day_count-last_of_year (pos y))
    ] in
    let month_end : c < day_count (pos y) m 1 + days_in_month (pos y) m = elim (cases_le m 11) [
      | inl before ↦ omega (
        arith,
        signed_arith,
        gt_told (days_from_civil (pos y) (m + 1) 1) n (month.later (m + 1) (omega arith) (omega arith)),
        days_from_civil-day_count (pos y) (m + 1) 1,
        day_count-next_month (pos y) m month.low,
      )
      | inr last ↦ let e : m ≡ 12 = omega (arith, month.high) in
          let same = ap (λ a. day_count (pos y) a 1) e in
          omega (arith, same, december (pos y) m e, day_count-last_of_year (pos y), day_count-day (pos y) 12 31 1 (omega arith) (omega arith))
    ] in
    let d = c + 1 - day_count (pos y) m 1 in
    let is : IsDay y m d = ((year.low, year.high), (month.low, month.high), (omega arith, omega arith)) in
    let at : day_count (pos y) m d ≡ c = omega (arith, day_count-day (pos y) m d 1 (omega arith) (omega arith)) in (
      date_text y m d,
      record { year = y; month = m; day = d; is_day = is; is_text = refl; is_number = omega (arith, signed_arith, at, days_from_civil-day_count (pos y) m d) },
    )

pub number_given_back : (n : ℤ) → IsDayNumber n → date_in (text_of_day n) ≡ Some n
number_given_back n range =
    let t = number_is_day n range in
    ap date_in (text_given_back t.0 n t.1) ∙ is_read t.0 n t.1

-- ---- what the reader says

pub unread : (bytes : List ℕ) → length bytes ≢ 10 → date_in bytes ≡ None
unread bytes other = by (date_in bytes) refl
  where
    by : (r : Option ℤ) → date_in bytes ≡ r → r ≡ None
    by None e = refl
    by (Some n) e = absurd (other (ap length (read_is bytes n e).is_text))

pub told_date : (bytes : List ℕ) (r : Option ℤ) → r ≡ date_in bytes → IfSome r (IsDateText bytes)
told_date bytes None e = tt
told_date bytes (Some n) e = read_is bytes n (sym e)

pub told_none : (bytes : List ℕ) (r : Option ℤ) → r ≡ date_in bytes → IfNone r ((n : ℤ) → ¬ (IsDateText bytes n))
told_none bytes None e = λ n t. let f = is_read bytes n t in cc
told_none bytes (Some n) e = tt

-- a day from 0001-01-01 on is of a year from 1 on
pub year_positive : (y : ℤ) (m d : ℕ) → IsCivilDate y m d → IsDayNumber (days_from_civil y m d) → pos 1 ≤ℤ y
year_positive y m d civil range = by_lt_z y (pos 1)
    (λ early. absurd (omega (arith, signed_arith, range.0, first_day, days_from_civil-day_count y m d, day_count-lt_year y m d (pos 1) 1 1 civil (omega arith) early)))
    (λ late. late)

positive_is : (y : ℤ) → pos 1 ≤ℤ y → pos (unsigned_abs y) ≡ y
positive_is (pos n) h = refl
positive_is (negsuc n) h = absurd (omega (arith, signed_arith))

-- a date of the library as its text
pub civil_text : (y : ℤ) (m d : ℕ) → IsCivilDate y m d → IsDayNumber (days_from_civil y m d) → date_text (unsigned_abs y) m d ≡ text_of_day (days_from_civil y m d)
civil_text y m d civil range =
    let k = unsigned_abs y in
    let first = year_positive y m d civil range in
    let e = positive_is y first in
    let last = civil.0.1 in
    let dim : days_in_month (pos k) m ≡ days_in_month y m = ap (λ z. days_in_month z m) e in
    let day : IsDay k m d = ((omega (arith, signed_arith), omega (arith, signed_arith)), civil.1, (civil.2.0, omega (arith, civil.2.1, dim))) in
    sym (text_is k m d day) ∙ ap (λ z. text_of_day (days_from_civil z m d)) e

pub is_date_text : (n : ℤ) → IsDayNumber n → IsDateText (text_of_day n) n
is_date_text n range = read_is (text_of_day n) n (number_given_back n range)

-- a date's text is ASCII
pub date_ascii : (y m d : ℕ) → IsAscii (date_text y m d)
date_ascii y m d =
    let t9 : List ℕ = digit_of d ∷ [] in
    let a9 : IsAscii t9 = cons (digit_of d) [] (omega arith) IsAscii-nil in
    let t8 = digit_of (d / 10) ∷ t9 in
    let a8 : IsAscii t8 = cons (digit_of (d / 10)) t9 (omega arith) a9 in
    let t7 = 45 ∷ t8 in
    let a7 : IsAscii t7 = cons (45) t8 (omega arith) a8 in
    let t6 = digit_of m ∷ t7 in
    let a6 : IsAscii t6 = cons (digit_of m) t7 (omega arith) a7 in
    let t5 = digit_of (m / 10) ∷ t6 in
    let a5 : IsAscii t5 = cons (digit_of (m / 10)) t6 (omega arith) a6 in
    let t4 = 45 ∷ t5 in
    let a4 : IsAscii t4 = cons (45) t5 (omega arith) a5 in
    let t3 = digit_of y ∷ t4 in
    let a3 : IsAscii t3 = cons (digit_of y) t4 (omega arith) a4 in
    let t2 = digit_of (y / 10) ∷ t3 in
    let a2 : IsAscii t2 = cons (digit_of (y / 10)) t3 (omega arith) a3 in
    let t1 = digit_of (y / 100) ∷ t2 in
    let a1 : IsAscii t1 = cons (digit_of (y / 100)) t2 (omega arith) a2 in
    cons (digit_of (y / 1000)) t1 (omega arith) a1
