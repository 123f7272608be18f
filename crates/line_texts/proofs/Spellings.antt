-- Numbers and their spellings.
use Rattle.std.proofs.Common.{◌≡◌, ◌≢◌, ℕ, zero, suc, ◌<◌, ◌^◌, ◌==◌, ◌&&◌, ◌||◌, not, Bool, true, false, if◌then◌else◌, nat_lt, List, [], ◌∷◌, length, drop, get_or, slice_index, Option, Some, None, Result, Ok, Err, IsUtf8, ℤ, pos, negsuc, neg_ℤ, refl, sym, ap, ◌∙◌, subst, arith, inl, inr, rules}
use Rattle.std.specs.Result.{result_ok}
use Rattle.std.specs.List.{list_all}
use Rattle.std.specs.Int.{w64}
use Rattle.std.specs.Int.RustNames.{FitsSigned}
use Rattle.std.specs.Char.{is_ascii_digit}
use Rattle.std.specs.Fmt.{decimal, signed_decimal}
use Rattle.std.specs.Str.Parse.{IsNumeral, AllDigits, digits_value, signed_digits_value, without_leading_sign, without_leading_plus, ParsesSigned}
use Rattle.std.proofs.lemmas.Bool.{cases_Bool, cases_lt, cond-true, cond-false, and_parts, and_from, or_cases, or_left, or_right, not-true, not_from_false, lt-ltb, ltb-true, eqb-true, eq-eqb, ne_eqb, eqb-false}
use Rattle.std.proofs.lemmas.Str.{IsUtf8-from_ascii}
use Rattle.std.proofs.lemmas.Str.Ascii.{IsAscii-cons}
use Rattle.std.proofs.lemmas.Str.Parse.{IsDigitsTest, IsNumeralModel, numerals_by_value, digit_at, without_leading_plus_none, tells_digits}
use Rattle.std.proofs.lemmas.Fmt.{IsAscii-from_digits, decimal_is_IsNumeral, decimal-digits_value, decimal_digit, first_decimal}
use Rattle.line_texts.specs.Numbers.{is_plain, is_spelling, fits, long_of_text}

tells_by_test : IsDigitsTest (λ ds. list_all is_ascii_digit ds ≡ true)
tells_by_test = search rules

by_test : IsNumeralModel (λ ds. list_all is_ascii_digit ds ≡ true) (digits_value 10)
by_test = numerals_by_value (λ ds. list_all is_ascii_digit ds ≡ true) tells_by_test

by_digits : IsNumeralModel (AllDigits 10) (digits_value 10)
by_digits = numerals_by_value (AllDigits 10) tells_digits

-- what plain digits are
pub record Plain (ds : List ℕ) : Type 0 where
  some : 0 < length ds
  digits : AllDigits 10 ds
  lead : get_or ds 0 0 ≡ 48 → length ds ≡ 1

pub plain_is : (ds : List ℕ) → is_plain ds ≡ true → Plain ds
plain_is ds h =
    let p = and_parts (nat_lt 0 (length ds) && list_all is_ascii_digit ds) (not (slice_index ds 0 == 48) || (length ds == 1)) h in
    let q = and_parts (nat_lt 0 (length ds)) (list_all is_ascii_digit ds) p.0 in
    record {
      some = ltb-true 0 (length ds) q.0;
      digits = by_test.to ds q.1;
      lead = λ zero_first. elim (or_cases (not (slice_index ds 0 == 48)) (length ds == 1) p.1) [
        | inl other ↦ absurd (eqb-false (slice_index ds 0) 48 (not-true (slice_index ds 0 == 48) other) zero_first)
        | inr one ↦ eqb-true (length ds) 1 one
      ];
    }

pub is_plain_from : (ds : List ℕ) → Plain ds → is_plain ds ≡ true
is_plain_from ds p =
    and_from (nat_lt 0 (length ds) && list_all is_ascii_digit ds) (not (slice_index ds 0 == 48) || (length ds == 1))
    (and_from (nat_lt 0 (length ds)) (list_all is_ascii_digit ds) (lt-ltb 0 (length ds) p.some) (by_test.from ds p.digits))
    (elim (cases_Bool (slice_index ds 0 == 48)) [
      | inl zero_first ↦ or_right (not (slice_index ds 0 == 48)) (length ds == 1) (eq-eqb (length ds) 1 (p.lead (eqb-true (slice_index ds 0) 48 zero_first)))
      | inr other ↦ or_left (not (slice_index ds 0 == 48)) (length ds == 1) (not_from_false (slice_index ds 0 == 48) other)
    ])

numeral_of : (ds : List ℕ) → Plain ds → IsNumeral 10 ds
numeral_of ds p = (p.some, p.digits)

-- the digits of a spelling, behind its sign
no_plus : (text : List ℕ) → Plain text → without_leading_plus text ≡ text
no_plus text p = let first = digit_at text 0 p.digits p.some in without_leading_plus_none text (λ e. omega arith)

minus_parts : (text : List ℕ) → is_spelling text ≡ true → (slice_index text 0 == 45) ≡ true → Plain (drop 1 text) × (slice_index text 1 ≢ 48)
minus_parts text h minus =
    let both : (is_plain (drop 1 text) && not (slice_index text 1 == 48)) ≡ true = sym (cond-true (slice_index text 0 == 45) (is_plain (drop 1 text) && not (slice_index text 1 == 48)) (is_plain text) minus) ∙ h in
    let p = and_parts (is_plain (drop 1 text)) (not (slice_index text 1 == 48)) both in
    (plain_is (drop 1 text) p.0, eqb-false (slice_index text 1) 48 (not-true (slice_index text 1 == 48) p.1))

plain_part : (text : List ℕ) → is_spelling text ≡ true → (slice_index text 0 == 45) ≡ false → Plain text
plain_part text h other = plain_is text (sym (cond-false (slice_index text 0 == 45) (is_plain (drop 1 text) && not (slice_index text 1 == 48)) (is_plain text) other) ∙ h)

behind_minus : (text : List ℕ) → (slice_index text 0 == 45) ≡ true → without_leading_sign text ≡ drop 1 text
behind_minus text minus = cond-true (slice_index text 0 == 45) (drop 1 text) (without_leading_plus text) minus

without_sign : (text : List ℕ) → Plain text → (slice_index text 0 == 45) ≡ false → without_leading_sign text ≡ text
without_sign text p other = cond-false (slice_index text 0 == 45) (drop 1 text) (without_leading_plus text) other ∙ no_plus text p

numeral : (text : List ℕ) → is_spelling text ≡ true → IsNumeral 10 (without_leading_sign text)
numeral text h = elim (cases_Bool (slice_index text 0 == 45)) [
  | inl minus ↦ subst (IsNumeral 10) (sym (behind_minus text minus)) (numeral_of (drop 1 text) (minus_parts text h minus).0)
  | inr other ↦ subst (IsNumeral 10) (sym (without_sign text (plain_part text h other) other)) (numeral_of text (plain_part text h other))
]

ascii_minus : (text : List ℕ) → (slice_index text 0 == 45) ≡ true → AllDigits 10 (drop 1 text) → IsUtf8 text
ascii_minus [] minus digits = cc
ascii_minus (b ∷ bs) minus digits = IsUtf8-from_ascii (b ∷ bs) (IsAscii-cons b bs (omega (arith, eqb-true b 45 minus)) (IsAscii-from_digits bs digits))

pub spelling_utf8 : (text : List ℕ) → true ≡ is_spelling text → IsUtf8 text
spelling_utf8 text h = elim (cases_Bool (slice_index text 0 == 45)) [
  | inl minus ↦ ascii_minus text minus (minus_parts text (sym h) minus).0.digits
  | inr other ↦ IsUtf8-from_ascii text (IsAscii-from_digits text (plain_part text (sym h) other).digits)
]

fits_from : (z : ℤ) → FitsSigned w64 z → fits z ≡ true
fits_from (pos n) f = lt-ltb n (2 ^ 63) f.sfits
fits_from (negsuc n) f = lt-ltb n (2 ^ 63) f.sfits

pub signed_from : (z : ℤ) → fits z ≡ true → FitsSigned w64 z
signed_from (pos n) f = record { sfits = ltb-true n (2 ^ 63) f }
signed_from (negsuc n) f = record { sfits = ltb-true n (2 ^ 63) f }

long_by : (s f : Bool) (text : List ℕ) → is_spelling text ≡ s → fits (signed_digits_value 10 text) ≡ f → long_of_text text ≡ (if s && f then Some (signed_digits_value 10 text) else None)
long_by s f text es ef = ap (λ b. if b && fits (signed_digits_value 10 text) then Some (signed_digits_value 10 text) else None) es ∙ ap (λ b. if s && b then Some (signed_digits_value 10 text) else None) ef

from_parsed : {E : Type 0} (r : Result ℤ E) (o : Option ℤ) (text : List ℕ) → is_spelling text ≡ true → ParsesSigned w64 10 text r → o ≡ result_ok r → o ≡ long_of_text text
from_parsed (Ok z) o text s p e =
    let value : z ≡ signed_digits_value 10 text = p.1 in
    e ∙ ap Some value ∙ sym (long_by true true text s (fits_from (signed_digits_value 10 text) p.0.1))
from_parsed (Err fault) o text s p e = elim (cases_Bool (fits (signed_digits_value 10 text))) [
  | inl within ↦ absurd (p (numeral text s, signed_from (signed_digits_value 10 text) within))
  | inr past ↦ e ∙ sym (long_by true false text s past)
]

pub parsed : {E : Type 0} (text bs : List ℕ) (r : Result ℤ E) (o : Option ℤ) → true ≡ is_spelling text → bs ≡ text → ParsesSigned w64 10 bs r → o ≡ result_ok r → o ≡ long_of_text text
parsed text bs r o s same p e = let q = rw same at p in from_parsed r o text (sym s) q e

-- a number's decimal text is its spelling
plain_decimal : (n : ℕ) → n < 2 ^ 64 → Plain (decimal n)
plain_decimal n small =
    let num = decimal_is_IsNumeral n small in
    record {
      some = num.0.0;
      digits = num.0.1;
      lead = λ zero_first. elim (cases_lt 0 n) [
        | inl above ↦ absurd (omega (arith, first_decimal n above small, zero_first))
        | inr none ↦ let is : n ≡ 0 = omega arith in ap (λ k. length (decimal k)) is ∙ ap length (decimal_digit 0 (omega arith))
      ];
    }

not_minus : (n : ℕ) → n < 2 ^ 64 → (slice_index (decimal n) 0 == 45) ≡ false
not_minus n small =
    let p = plain_decimal n small in
    let first = digit_at (decimal n) 0 p.digits p.some in
    ne_eqb (slice_index (decimal n) 0) 45 (λ e. omega arith)

spelled_pos : (n : ℕ) → n < 2 ^ 63 → long_of_text (decimal n) ≡ Some (pos n)
spelled_pos n small =
    let p = plain_decimal n (omega arith) in
    let other = not_minus n (omega arith) in
    let value : signed_digits_value 10 (decimal n) ≡ pos n =
    cond-false (slice_index (decimal n) 0 == 45) (neg_ℤ (pos (digits_value 10 (without_leading_sign (decimal n))))) (pos (digits_value 10 (without_leading_sign (decimal n)))) other
    ∙ ap (λ ds. pos (digits_value 10 ds)) (without_sign (decimal n) p other) ∙ ap pos (decimal_is_IsNumeral n (omega arith)).1 in
    let s : is_spelling (decimal n) ≡ true = cond-false (slice_index (decimal n) 0 == 45) (is_plain (drop 1 (decimal n)) && not (slice_index (decimal n) 1 == 48)) (is_plain (decimal n)) other ∙ is_plain_from (decimal n) p in
    long_by true true (decimal n) s (ap fits value ∙ lt-ltb n (2 ^ 63) small) ∙ ap Some value

spelled_neg : (n : ℕ) → n < 2 ^ 63 → long_of_text (45 ∷ decimal (suc n)) ≡ Some (negsuc n)
spelled_neg n small =
    let p = plain_decimal (suc n) (omega arith) in
    let value : signed_digits_value 10 (45 ∷ decimal (suc n)) ≡ negsuc n = ap (λ k. neg_ℤ (pos k)) (decimal_is_IsNumeral (suc n) (omega arith)).1 in
    let lead : (slice_index (decimal (suc n)) 0 == 48) ≡ false = ne_eqb (slice_index (decimal (suc n)) 0) 48 (λ e. omega (arith, first_decimal (suc n) (omega arith) (omega arith), e)) in
    let s : is_spelling (45 ∷ decimal (suc n)) ≡ true = and_from (is_plain (decimal (suc n))) (not (slice_index (decimal (suc n)) 0 == 48)) (is_plain_from (decimal (suc n)) p) (not_from_false (slice_index (decimal (suc n)) 0 == 48) lead) in
    long_by true true (45 ∷ decimal (suc n)) s (ap fits value ∙ lt-ltb n (2 ^ 63) small) ∙ ap Some value

pub long_reads_back : (z : ℤ) → fits z ≡ true → long_of_text (signed_decimal z) ≡ Some z
long_reads_back (pos n) f = spelled_pos n (ltb-true n (2 ^ 63) f)
long_reads_back (negsuc n) f = spelled_neg n (ltb-true n (2 ^ 63) f)

-- and a spelling is its number's decimal text
written_digits : (ds : List ℕ) (v : ℕ) → Plain ds → digits_value 10 ds ≡ v → v < 2 ^ 64 → decimal v ≡ ds
written_digits ds v p e small = sym (ap decimal e) ∙ decimal-digits_value by_digits ds p.digits p.some p.lead (omega (arith, e))

written_minus : (ds : List ℕ) (v : ℕ) → Plain ds → get_or ds 0 0 ≢ 48 → digits_value 10 ds ≡ v → fits (neg_ℤ (pos v)) ≡ true → signed_decimal (neg_ℤ (pos v)) ≡ 45 ∷ ds
written_minus ds zero p lead e f =
    let whole : decimal 0 ≡ ds = written_digits ds 0 p e (omega arith) in
    absurd (lead (ap (λ xs. get_or xs 0 0) (sym whole ∙ decimal_digit 0 (omega arith))))
written_minus ds (suc n) p lead e f =
    let small : n < 2 ^ 63 = ltb-true n (2 ^ 63) f in
    ap (λ xs. 45 ∷ xs) (written_digits ds (suc n) p e (omega arith))

spelling_written : (text : List ℕ) → is_spelling text ≡ true → fits (signed_digits_value 10 text) ≡ true → signed_decimal (signed_digits_value 10 text) ≡ text
spelling_written [] s f = cc
spelling_written (b ∷ bs) s f = elim (cases_Bool (b == 45)) [
  | inl minus ↦
      let parts = minus_parts (b ∷ bs) s minus in
      let value : signed_digits_value 10 (b ∷ bs) ≡ neg_ℤ (pos (digits_value 10 bs)) =
      cond-true (b == 45) (neg_ℤ (pos (digits_value 10 (without_leading_sign (b ∷ bs))))) (pos (digits_value 10 (without_leading_sign (b ∷ bs)))) minus
      ∙ ap (λ ds. neg_ℤ (pos (digits_value 10 ds))) (behind_minus (b ∷ bs) minus) in
      let own : fits (neg_ℤ (pos (digits_value 10 bs))) ≡ true = sym (ap fits value) ∙ f in
      ap signed_decimal value ∙ written_minus bs (digits_value 10 bs) parts.0 parts.1 refl own ∙ ap (λ c. c ∷ bs) (sym (eqb-true b 45 minus))
  | inr other ↦
      let p = plain_part (b ∷ bs) s other in
      let value : signed_digits_value 10 (b ∷ bs) ≡ pos (digits_value 10 (b ∷ bs)) =
      cond-false (b == 45) (neg_ℤ (pos (digits_value 10 (without_leading_sign (b ∷ bs))))) (pos (digits_value 10 (without_leading_sign (b ∷ bs)))) other
      ∙ ap (λ ds. pos (digits_value 10 ds)) (without_sign (b ∷ bs) p other) in
      let small : digits_value 10 (b ∷ bs) < 2 ^ 63 = ltb-true (digits_value 10 (b ∷ bs)) (2 ^ 63) (sym (ap fits value) ∙ f) in
      ap signed_decimal value ∙ written_digits (b ∷ bs) (digits_value 10 (b ∷ bs)) p refl (omega arith)
]

pub some_then : {A : Type 0} (b : Bool) (x y : A) → (if b then Some x else None) ≡ Some y → (b ≡ true) × (x ≡ y)
some_then true x y e = (refl, cc)
some_then false x y e = cc

pub long_is_written : (text : List ℕ) (z : ℤ) → long_of_text text ≡ Some z → signed_decimal z ≡ text
long_is_written text z e =
    let p = some_then (is_spelling text && fits (signed_digits_value 10 text)) (signed_digits_value 10 text) z e in
    let q = and_parts (is_spelling text) (fits (signed_digits_value 10 text)) p.0 in
    sym (ap signed_decimal p.1) ∙ spelling_written text q.0 q.1
