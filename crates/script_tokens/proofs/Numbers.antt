-- Numbers, by the number that their digits write.
use Rattle.std.proofs.Common.{◌≡◌, ℕ, ℤ, pos, neg_ℤ, zero, suc, ◌+◌, ◌<◌, ◌^◌, ◌==◌, true, false, Bool, List, [], ◌∷◌, length, take, drop, slice_index, if◌then◌else◌, ◌&&◌, Option, Some, None, refl, sym, ap, subst, ◌∙◌, arith}
use Rattle.std.specs.Prelude.{nat_lt, nat_le}
use Rattle.std.specs.List.{prefix_len, list_all}
use Rattle.std.specs.Char.{is_ascii_digit}
use Rattle.std.specs.Str.{all_ascii_digits}
use Rattle.std.specs.Str.Parse.{digits_value, signed_digits_value, without_leading_sign, without_leading_plus}
use Rattle.std.proofs.lemmas.Str.Parse.{IsNumeralModel, numerals_by_value, tells_all_ascii_digits, digit_at, without_leading_plus_none}
use Rattle.std.proofs.lemmas.Bool.{cond-false, and_from, lt-ltb, ne_eqb}
use Rattle.std.proofs.lemmas.Bool.Decides.{nat_tests}
use Rattle.std.proofs.lemmas.List.Folds.{length-prefix_len}
use Rattle.row_base.specs.Numbers.{is_digits, is_number, is_i64, long_in}
use Rattle.row_base.proofs.Numerals.{by_test}
use Rattle.script_tokens.specs.declared.token.Token.TheVariants.{Number}
use Rattle.script_tokens.specs.Words.{is_digit, is_boundary}
use Rattle.row_base.specs.Readings.{◌>>=◌}
use Rattle.script_tokens.specs.Reading.{Taken, unsigned_value, negative_value, number_at, negative_at}
use Rattle.script_tokens.proofs.Runs.{run_is_run, run_of_digits, one_add}

own : IsNumeralModel (λ ds. all_ascii_digits ds ≡ true) (digits_value 10)
own = numerals_by_value (λ ds. all_ascii_digits ds ≡ true) tells_all_ascii_digits

are_digits : (ds : List ℕ) → all_ascii_digits ds ≡ true → 0 < length ds → is_digits ds ≡ true
are_digits ds d some = and_from (nat_lt 0 (length ds)) (list_all is_ascii_digit ds) (lt-ltb 0 (length ds) some) (by_test.from ds (own.to ds d))

by_value : (text : List ℕ) (z : ℤ) → is_number text ≡ true → signed_digits_value 10 text ≡ z → long_in text ≡ (if is_i64 z then Some z else None)
unfolding long_in
by_value text z is value =
    ap (λ b. if b && is_i64 (signed_digits_value 10 text) then Some (signed_digits_value 10 text) else None) is
    ∙ ap (λ (y : ℤ). if is_i64 y then Some y else None) value

pub plain_long : (ds : List ℕ) → all_ascii_digits ds ≡ true → 0 < length ds → long_in ds ≡ unsigned_value ds
unfolding unsigned_value
plain_long ds d some =
    let first = digit_at ds 0 (own.to ds d) some in
    let other : (slice_index ds 0 == 45) ≡ false = ne_eqb (slice_index ds 0) 45 (λ e. omega arith) in
    let bare : without_leading_sign ds ≡ ds =
    cond-false (slice_index ds 0 == 45) (drop 1 ds) (without_leading_plus ds) other ∙ without_leading_plus_none ds (λ e. omega arith) in
    let value : signed_digits_value 10 ds ≡ pos (digits_value 10 ds) =
    cond-false (slice_index ds 0 == 45) (neg_ℤ (pos (digits_value 10 (without_leading_sign ds)))) (pos (digits_value 10 (without_leading_sign ds))) other
    ∙ ap (λ us. pos (digits_value 10 us)) bare in
    let is : is_number ds ≡ true = cond-false (slice_index ds 0 == 45) (is_digits (drop 1 ds)) (is_digits ds) other ∙ are_digits ds d some in
    by_value ds (pos (digits_value 10 ds)) is value

fits_minus : (n : ℕ) → is_i64 (neg_ℤ (pos n)) ≡ nat_le n (2 ^ 63)
fits_minus zero = refl
fits_minus (suc n) = grind (arith, nat_tests)

pub minus_long : (ds : List ℕ) → all_ascii_digits ds ≡ true → 0 < length ds → long_in (45 ∷ ds) ≡ negative_value ds
unfolding negative_value
minus_long ds d some =
    by_value (45 ∷ ds) (neg_ℤ (pos (digits_value 10 ds))) (are_digits ds d some) refl
    ∙ ap (λ b. if b then Some (neg_ℤ (pos (digits_value 10 ds))) else None) (fits_minus (digits_value 10 ds))

-- ---- at the front of some bytes

some_digits : (bs front : List ℕ) → front ≡ take (prefix_len is_digit bs) bs → all_ascii_digits front ≡ true
some_digits bs front f = rw f (run_of_digits _ (run_is_run is_digit bs))

as_long : (bs front : List ℕ) → front ≡ take (prefix_len is_digit bs) bs → length front ≡ prefix_len is_digit bs
as_long bs front f = rw f (length-prefix_len is_digit bs)

abbrev taken : Option ℤ → List ℕ → Option Taken
taken o rest = o >>= λ k. Some (Number k, rest)

pub number_gives : (bs front rest : List ℕ) (o : Option ℤ) → front ≡ take (prefix_len is_digit bs) bs → rest ≡ drop (prefix_len is_digit bs) bs → is_boundary rest ≡ true → 0 < prefix_len is_digit bs → (all_ascii_digits front ≡ true → 0 < length front → o ≡ unsigned_value front) → number_at bs ≡ taken o rest
unfolding number_at
number_gives bs front rest o f r g some h =
    let e : o ≡ unsigned_value front = h (some_digits bs front f) (omega (arith, as_long bs front f)) in
    rw (← f, ← r, g) (ap (λ (u : Option ℤ). taken u rest) (sym e))

pub negative_gives : (bs front text rest : List ℕ) (o : Option ℤ) → front ≡ take (prefix_len is_digit bs) bs → rest ≡ drop (prefix_len is_digit bs) bs → text ≡ 45 ∷ front → is_boundary rest ≡ true → 0 < prefix_len is_digit bs → ((ds : List ℕ) → text ≡ 45 ∷ ds → all_ascii_digits ds ≡ true → 0 < length ds → o ≡ negative_value ds) → negative_at bs ≡ taken o rest
unfolding negative_at
negative_gives bs front text rest o f r t g some h =
    let e : o ≡ negative_value front = h front t (some_digits bs front f) (omega (arith, as_long bs front f)) in
    rw (← f, ← r, g) (ap (λ (u : Option ℤ). taken u rest) (sym e))

pub signed_gives : (bytes ds behind text rest : List ℕ) (n : ℕ) (o : Option ℤ) → bytes ≡ 45 ∷ ds → behind ≡ drop 1 bytes → n ≡ prefix_len is_digit behind → text ≡ take (1 + n) bytes → rest ≡ drop (1 + n) bytes → is_boundary rest ≡ true → 0 < prefix_len is_digit (drop 1 bytes) → ((more : List ℕ) → text ≡ 45 ∷ more → all_ascii_digits more ≡ true → 0 < length more → o ≡ negative_value more) → negative_at (drop 1 bytes) ≡ taken o rest
signed_gives bytes ds behind text rest n o e b m t r g some h =
    let text_is : text ≡ 45 ∷ take n ds = t ∙ ap (take (1 + n)) e ∙ ap (λ (k : ℕ). take k (45 ∷ ds)) (one_add n) in
    let rest_is : rest ≡ drop n ds = r ∙ ap (drop (1 + n)) e ∙ ap (λ (k : ℕ). drop k (45 ∷ ds)) (one_add n) in
    let n_is : n ≡ prefix_len is_digit ds = m ∙ ap (prefix_len is_digit) (b ∙ ap (drop 1) e) in
    let begun : 0 < prefix_len is_digit ds = subst (λ (u : List ℕ). 0 < prefix_len is_digit (drop 1 u)) e some in
    ap (λ (u : List ℕ). negative_at (drop 1 u)) e
    ∙ negative_gives ds (take n ds) text rest o (ap (λ (k : ℕ). take k ds) n_is) (rest_is ∙ ap (λ (k : ℕ). drop k ds) n_is) text_is g begun h
