-- Numbers in decimal and the texts that write them.
use Rattle.std.proofs.Common.{◌≡◌, ℕ, suc, ◌<◌, ◌≤◌, ◌+◌, ◌*◌, ◌^◌, ◌==◌, ◌&&◌, ◌||◌, not, Bool, true, false, if◌then◌else◌, nat_lt, List, [], ◌∷◌, length, drop, slice_index, Option, Some, None, Result, Ok, Err, IsUtf8, ℤ, pos, negsuc, neg_ℤ, refl, sym, ap, ◌∙◌, subst, arith, inl, inr, rules}
use Rattle.std.specs.Result.{result_ok}
use Rattle.std.specs.List.{list_all}
use Rattle.std.specs.Int.{w64}
use Rattle.std.specs.Int.RustNames.{FitsSigned}
use Rattle.std.specs.Char.{is_ascii_digit, digit_value}
use Rattle.std.specs.Fmt.{decimal, signed_decimal}
use Rattle.std.specs.Str.Parse.{IsNumeral, AllDigits, digits_value, digits_value_after, signed_digits_value, without_leading_sign, without_leading_plus, ParsesSigned}
use Rattle.std.proofs.lemmas.Bool.{cases_Bool, cases_lt, cond-true, cond-false, and_parts, and_from, lt-ltb, le-ltb, ltb-true, eqb-true, eqb-false, eq-eqb, ne_eqb}
use Rattle.std.proofs.lemmas.Str.{IsUtf8-from_ascii}
use Rattle.std.proofs.lemmas.Str.Ascii.{IsAscii-cons}
use Rattle.std.proofs.lemmas.Str.Parse.{IsDigitsTest, IsNumeralModel, numerals_by_value, digit_at, without_leading_plus_none}
use Rattle.std.proofs.lemmas.Fmt.{IsAscii-from_digits, decimal_is_IsNumeral, decimal-digits_value, digits_decimal, digits_value-decimal, decimal_nonempty, first_decimal, decimal_digit}
use Rattle.row_base.specs.Numbers.{is_digits, is_decimal, is_number, is_i64, natural_in, with_digits, decimal_in, long_in}

-- the test for digits
tells_by_test : IsDigitsTest (λ ds. list_all is_ascii_digit ds ≡ true)
tells_by_test = search rules

pub by_test : IsNumeralModel (λ ds. list_all is_ascii_digit ds ≡ true) (digits_value 10)
by_test = numerals_by_value (λ ds. list_all is_ascii_digit ds ≡ true) tells_by_test

numeral_of : (ds : List ℕ) → is_digits ds ≡ true → IsNumeral 10 ds
numeral_of ds h =
    let p = and_parts (nat_lt 0 (length ds)) (list_all is_ascii_digit ds) h in
    (ltb-true 0 (length ds) p.0, by_test.to ds p.1)

digits_from : (ds : List ℕ) → IsNumeral 10 ds → is_digits ds ≡ true
digits_from ds p = and_from (nat_lt 0 (length ds)) (list_all is_ascii_digit ds) (lt-ltb 0 (length ds) p.0) (by_test.from ds p.1)

-- the digits of a number, behind its sign
no_plus : (text : List ℕ) → IsNumeral 10 text → without_leading_plus text ≡ text
no_plus text p = let first = digit_at text 0 p.1 p.0 in without_leading_plus_none text (λ e. omega arith)

minus_part : (text : List ℕ) → is_number text ≡ true → (slice_index text 0 == 45) ≡ true → IsNumeral 10 (drop 1 text)
minus_part text h minus = numeral_of (drop 1 text) (sym (cond-true (slice_index text 0 == 45) (is_digits (drop 1 text)) (is_digits text) minus) ∙ h)

plain_part : (text : List ℕ) → is_number text ≡ true → (slice_index text 0 == 45) ≡ false → IsNumeral 10 text
plain_part text h other = numeral_of text (sym (cond-false (slice_index text 0 == 45) (is_digits (drop 1 text)) (is_digits text) other) ∙ h)

behind_minus : (text : List ℕ) → (slice_index text 0 == 45) ≡ true → without_leading_sign text ≡ drop 1 text
behind_minus text minus = cond-true (slice_index text 0 == 45) (drop 1 text) (without_leading_plus text) minus

without_sign : (text : List ℕ) → IsNumeral 10 text → (slice_index text 0 == 45) ≡ false → without_leading_sign text ≡ text
without_sign text p other = cond-false (slice_index text 0 == 45) (drop 1 text) (without_leading_plus text) other ∙ no_plus text p

numeral : (text : List ℕ) → is_number text ≡ true → IsNumeral 10 (without_leading_sign text)
numeral text h = elim (cases_Bool (slice_index text 0 == 45)) [
  | inl minus ↦ subst (IsNumeral 10) (sym (behind_minus text minus)) (minus_part text h minus)
  | inr other ↦ subst (IsNumeral 10) (sym (without_sign text (plain_part text h other) other)) (plain_part text h other)
]

ascii_minus : (text : List ℕ) → (slice_index text 0 == 45) ≡ true → AllDigits 10 (drop 1 text) → IsUtf8 text
ascii_minus [] minus digits = cc
ascii_minus (b ∷ bs) minus digits = IsUtf8-from_ascii (b ∷ bs) (IsAscii-cons b bs (omega (arith, eqb-true b 45 minus)) (IsAscii-from_digits bs digits))

pub number_utf8 : (text : List ℕ) → true ≡ is_number text → IsUtf8 text
number_utf8 text h = elim (cases_Bool (slice_index text 0 == 45)) [
  | inl minus ↦ ascii_minus text minus (minus_part text (sym h) minus).1
  | inr other ↦ IsUtf8-from_ascii text (IsAscii-from_digits text (plain_part text (sym h) other).1)
]

i64_from : (z : ℤ) → FitsSigned w64 z → is_i64 z ≡ true
i64_from (pos n) f = lt-ltb n (2 ^ 63) f.sfits
i64_from (negsuc n) f = lt-ltb n (2 ^ 63) f.sfits

signed_from : (z : ℤ) → is_i64 z ≡ true → FitsSigned w64 z
signed_from (pos n) f = record { sfits = ltb-true n (2 ^ 63) f }
signed_from (negsuc n) f = record { sfits = ltb-true n (2 ^ 63) f }

long_by : (s f : Bool) (text : List ℕ) → is_number text ≡ s → is_i64 (signed_digits_value 10 text) ≡ f → long_in text ≡ (if s && f then Some (signed_digits_value 10 text) else None)
unfolding long_in
long_by s f text es ef =
    ap (λ b. if b && is_i64 (signed_digits_value 10 text) then Some (signed_digits_value 10 text) else None) es
    ∙ ap (λ b. if s && b then Some (signed_digits_value 10 text) else None) ef

from_parsed : {E : Type 0} (r : Result ℤ E) (o : Option ℤ) (text : List ℕ) → is_number text ≡ true → ParsesSigned w64 10 text r → o ≡ result_ok r → o ≡ long_in text
from_parsed (Ok z) o text s p e =
    let value : z ≡ signed_digits_value 10 text = p.1 in
    e ∙ ap Some value ∙ sym (long_by true true text s (i64_from (signed_digits_value 10 text) p.0.1))
from_parsed (Err fault) o text s p e = elim (cases_Bool (is_i64 (signed_digits_value 10 text))) [
  | inl within ↦ absurd (p (numeral text s, signed_from (signed_digits_value 10 text) within))
  | inr past ↦ e ∙ sym (long_by true false text s past)
]

pub parsed : {E : Type 0} (text bs : List ℕ) (r : Result ℤ E) (o : Option ℤ) → true ≡ is_number text → bs ≡ text → ParsesSigned w64 10 bs r → o ≡ result_ok r → o ≡ long_in text
parsed text bs r o s same p e = let q = rw same at p in from_parsed r o text (sym s) q e

pub not_number : (text : List ℕ) → false ≡ is_number text → None ≡ long_in text
not_number text s = elim (cases_Bool (is_i64 (signed_digits_value 10 text))) [
  | inl within ↦ sym (long_by false true text (sym s) within)
  | inr past ↦ sym (long_by false false text (sym s) past)
]

-- the decimal text of a number writes it
not_minus : (n : ℕ) → n < 2 ^ 64 → (slice_index (decimal n) 0 == 45) ≡ false
not_minus n small =
    let p = (decimal_is_IsNumeral n small).0 in
    let first = digit_at (decimal n) 0 p.1 p.0 in
    ne_eqb (slice_index (decimal n) 0) 45 (λ e. omega arith)

written_pos : (n : ℕ) → n < 2 ^ 63 → long_in (decimal n) ≡ Some (pos n)
written_pos n small =
    let p = (decimal_is_IsNumeral n (omega arith)).0 in
    let other = not_minus n (omega arith) in
    let value : signed_digits_value 10 (decimal n) ≡ pos n =
    cond-false (slice_index (decimal n) 0 == 45) (neg_ℤ (pos (digits_value 10 (without_leading_sign (decimal n))))) (pos (digits_value 10 (without_leading_sign (decimal n)))) other
    ∙ ap (λ ds. pos (digits_value 10 ds)) (without_sign (decimal n) p other) ∙ ap pos (decimal_is_IsNumeral n (omega arith)).1 in
    let s : is_number (decimal n) ≡ true = cond-false (slice_index (decimal n) 0 == 45) (is_digits (drop 1 (decimal n))) (is_digits (decimal n)) other ∙ digits_from (decimal n) p in
    long_by true true (decimal n) s (ap is_i64 value ∙ lt-ltb n (2 ^ 63) small) ∙ ap Some value

written_neg : (n : ℕ) → n < 2 ^ 63 → long_in (45 ∷ decimal (suc n)) ≡ Some (negsuc n)
written_neg n small =
    let p = (decimal_is_IsNumeral (suc n) (omega arith)).0 in
    let value : signed_digits_value 10 (45 ∷ decimal (suc n)) ≡ negsuc n = ap (λ k. neg_ℤ (pos k)) (decimal_is_IsNumeral (suc n) (omega arith)).1 in
    long_by true true (45 ∷ decimal (suc n)) (digits_from (decimal (suc n)) p) (ap is_i64 value ∙ lt-ltb n (2 ^ 63) small) ∙ ap Some value

pub long_written : (z : ℤ) → is_i64 z ≡ true → long_in (signed_decimal z) ≡ Some z
long_written (pos n) f = written_pos n (ltb-true n (2 ^ 63) f)
long_written (negsuc n) f = written_neg n (ltb-true n (2 ^ 63) f)

-- ---- digits without a sign

digit_parts : (text : List ℕ) → is_digits text ≡ true → (0 < length text) × (list_all is_ascii_digit text ≡ true)
digit_parts text h =
    let p = and_parts (nat_lt 0 (length text)) (list_all is_ascii_digit text) h in (ltb-true 0 (length text) p.0, p.1)

natural_by : (test fits : Bool) (text : List ℕ) → is_digits text ≡ test → nat_lt (digits_value 10 text) (2 ^ 64) ≡ fits
    → natural_in text ≡ (if test && fits then Some (digits_value 10 text) else None)
unfolding natural_in
natural_by test fits text is lt = rw (is, lt) refl

-- more digits make no lesser number
no_lesser : (n : ℕ) (ds : List ℕ) → n ≤ digits_value_after 10 n ds
no_lesser n [] = omega arith
no_lesser n (d ∷ ds) = omega (arith, no_lesser (n * 10 + digit_value d) ds)

too_great : (digits : Bool) (n m : ℕ) → 2 ^ 64 ≤ n → None ≡ (if digits && nat_lt n (2 ^ 64) then Some m else None)
too_great false n m over = refl
too_great true n m over = rw (le-ltb n (2 ^ 64) over) refl

-- digits behind a number, by whether the first is one, and whether it has room
digits_by : (digit room : Bool) (n d : ℕ) (ds : List ℕ) → is_ascii_digit d ≡ digit → nat_lt (n * 10 + digit_value d) (2 ^ 64) ≡ room
    → with_digits n (d ∷ ds) ≡ (if digit && room then with_digits (n * 10 + digit_value d) ds else None)
unfolding with_digits
digits_by true true n d ds is lt = rw (is, lt) refl
digits_by true false n d ds is lt = rw (is, lt) refl
digits_by false room n d ds is lt = rw is refl

digits_are : (n : ℕ) (ds : List ℕ) → n < 2 ^ 64
    → with_digits n ds ≡ (if list_all is_ascii_digit ds && nat_lt (digits_value_after 10 n ds) (2 ^ 64) then Some (digits_value_after 10 n ds) else None)
unfolding with_digits
digits_are n [] small = rw (lt-ltb n (2 ^ 64) small) refl
digits_are n (d ∷ ds) small = elim (cases_Bool (is_ascii_digit d)) [
  | inr other ↦ digits_by false (nat_lt (n * 10 + digit_value d) (2 ^ 64)) n d ds other refl ∙ rw other refl
  | inl digit ↦ elim (cases_lt (n * 10 + digit_value d) (2 ^ 64)) [
    | inl room ↦ digits_by true true n d ds digit (lt-ltb (n * 10 + digit_value d) (2 ^ 64) room) ∙ digits_are (n * 10 + digit_value d) ds room ∙ rw digit refl
    | inr over ↦ digits_by true false n d ds digit (le-ltb (n * 10 + digit_value d) (2 ^ 64) over)
        ∙ too_great (list_all is_ascii_digit (d ∷ ds)) (digits_value_after 10 (n * 10 + digit_value d) ds) (digits_value_after 10 (n * 10 + digit_value d) ds) (omega (arith, no_lesser (n * 10 + digit_value d) ds))
  ]
]

-- one digit at least, behind no number
natural_none : (text : List ℕ) → nat_lt 0 (length text) ≡ false → None ≡ natural_in text
unfolding natural_in
natural_none text none = rw none refl

natural_some : (text : List ℕ) → nat_lt 0 (length text) ≡ true → with_digits 0 text ≡ natural_in text
unfolding natural_in
natural_some text some = rw some (digits_are 0 text (omega arith))

pub no_digits : (text : List ℕ) → true ≡ (length text == 0) → None ≡ natural_in text
no_digits text e = natural_none text (le-ltb 0 (length text) (omega (arith, eqb-true (length text) 0 (sym e))))

pub some_digits : (text : List ℕ) → false ≡ (length text == 0) → with_digits 0 text ≡ natural_in text
some_digits text e = elim (cases_lt 0 (length text)) [
  | inl some ↦ natural_some text (lt-ltb 0 (length text) some)
  | inr none ↦ absurd (eqb-false (length text) 0 (sym e) (omega arith))
]

-- ---- without a leading zero

pub decimal_by : (test fits : Bool) (text : List ℕ) → is_decimal text ≡ test → nat_lt (digits_value 10 text) (2 ^ 64) ≡ fits
    → decimal_in text ≡ (if test && fits then Some (digits_value 10 text) else None)
unfolding decimal_in
decimal_by test fits text is lt = rw (is, lt) refl

-- a number without a leading zero has a digit or more, and nothing but digits
pub decimal_parts : (text : List ℕ) → is_decimal text ≡ true → (0 < length text) × (list_all is_ascii_digit text ≡ true)
decimal_parts text is = digit_parts text (and_parts (is_digits text) (not (slice_index text 0 == 48) || (length text == 1)) is).0

pub decimal_natural : (text : List ℕ) → true ≡ is_decimal text → natural_in text ≡ decimal_in text
decimal_natural text is =
    let whole = and_parts (is_digits text) (not (slice_index text 0 == 48) || (length text == 1)) (sym is) in
    natural_by true (nat_lt (digits_value 10 text) (2 ^ 64)) text whole.0 refl ∙ sym (decimal_by true (nat_lt (digits_value 10 text) (2 ^ 64)) text (sym is) refl)

pub no_decimal : (text : List ℕ) → false ≡ is_decimal text → None ≡ decimal_in text
unfolding decimal_in
no_decimal text is = rw (sym is) refl

some_then : {A : Type 0} (b : Bool) (x y : A) → (if b then Some x else None) ≡ Some y → (b ≡ true) × (x ≡ y)
some_then true x y e = (refl, cc)
some_then false x y e = cc

no_leading : (text : List ℕ) (first one : Bool) → (slice_index text 0 == 48) ≡ first → (length text == 1) ≡ one → (not first || one) ≡ true → slice_index text 0 ≡ 48 → length text ≡ 1
no_leading text first true e f h zero = eqb-true (length text) 1 f
no_leading text false false e f h zero = absurd (eqb-false (slice_index text 0) 48 e zero)
no_leading text true false e f h zero = cc

-- the text of a number is this number in decimal
pub decimal_is : (text : List ℕ) (n : ℕ) → decimal_in text ≡ Some n → text ≡ decimal n
unfolding decimal_in
decimal_is text n e =
    let q = some_then (is_decimal text && nat_lt (digits_value 10 text) (2 ^ 64)) (digits_value 10 text) n e in
    let parts = and_parts (is_decimal text) (nat_lt (digits_value 10 text) (2 ^ 64)) q.0 in
    let digits = decimal_parts text parts.0 in
    let whole = and_parts (is_digits text) (not (slice_index text 0 == 48) || (length text == 1)) parts.0 in
    let small : digits_value 10 text < 2 ^ 64 = ltb-true (digits_value 10 text) (2 ^ 64) parts.1 in
    let lead = no_leading text (slice_index text 0 == 48) (length text == 1) refl refl whole.1 in
    sym (decimal-digits_value by_test text digits.1 digits.0 lead small) ∙ ap decimal q.1

leads : (n : ℕ) (first : Bool) → n < 2 ^ 64 → (slice_index (decimal n) 0 == 48) ≡ first → (not first || (length (decimal n) == 1)) ≡ true
leads n false small e = refl
leads n true small e =
    elim (cases_lt 0 n) [
      | inl more ↦ let lead = first_decimal n more small in let zero : slice_index (decimal n) 0 ≡ 48 = eqb-true (slice_index (decimal n) 0) 48 e in absurd (omega (arith, lead, zero))
      | inr none ↦ let zero : n ≡ 0 = omega arith in eq-eqb (length (decimal n)) 1 (ap (λ k. length (decimal k)) zero ∙ ap length (decimal_digit 0 (omega arith)))
    ]

-- a number in decimal is read as this number
pub decimal_written : (n : ℕ) → n < 2 ^ 64 → decimal_in (decimal n) ≡ Some n
decimal_written n small =
    let digits : list_all is_ascii_digit (decimal n) ≡ true = digits_decimal by_test n small in
    let value : digits_value 10 (decimal n) ≡ n = digits_value-decimal by_test n small in
    let some : nat_lt 0 (length (decimal n)) ≡ true = lt-ltb 0 (length (decimal n)) (decimal_nonempty n small) in
    let lead = leads n (slice_index (decimal n) 0 == 48) small refl in
    let is : is_decimal (decimal n) ≡ true =
    and_from (is_digits (decimal n)) (not (slice_index (decimal n) 0 == 48) || (length (decimal n) == 1))
    (and_from (nat_lt 0 (length (decimal n))) (list_all is_ascii_digit (decimal n)) some digits) lead in
    decimal_by true true (decimal n) is (lt-ltb (digits_value 10 (decimal n)) (2 ^ 64) (rw value small)) ∙ ap Some value
