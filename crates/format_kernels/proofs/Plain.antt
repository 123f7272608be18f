-- Bytes that are no percent sign, no colon and ASCII.
use Rattle.std.proofs.Common.{◌≡◌, ◌≢◌, ℕ, zero, suc, ◌^◌, ◌<◌, ◌≤◌, Bool, true, false, not, ◌&&◌, nat_lt, nat_le, List, [], ◌∷◌, ◌++◌, replicate, refl, arith, IsUtf8}
use Rattle.std.specs.Prelude.{◌==◌}
use Rattle.std.specs.List.{list_all}
use Rattle.std.specs.Char.{is_ascii_digit}
use Rattle.std.specs.Fmt.{decimal}
use Rattle.std.specs.Str.{IsAscii}
use Rattle.std.proofs.lemmas.Bool.{and_parts, leb-true, ltb-true, ne_eqb, lt-ltb, eqb-false, not-true}
use Rattle.std.proofs.lemmas.List.Folds.{list_all-append}
use Rattle.std.proofs.lemmas.Fmt.{digits_decimal}
use Rattle.std.proofs.lemmas.Str.{IsUtf8-from_ascii}
use Rattle.row_base.proofs.Numerals.{by_test}

abbrev pub is_plain : ℕ → Bool
is_plain b = not (b == 37) && (not (b == 58) && nat_lt b 128)

pub plain_both : (xs ys : List ℕ) → list_all is_plain xs ≡ true → list_all is_plain ys ≡ true → list_all is_plain (xs ++ ys) ≡ true
plain_both xs ys h k = rw (list_all-append is_plain xs ys, h) k

all_weaker : (p q : ℕ → Bool) → ((b : ℕ) → p b ≡ true → q b ≡ true) → (xs : List ℕ) → list_all p xs ≡ true → list_all q xs ≡ true
all_weaker p q weak [] h = refl
all_weaker p q weak (x ∷ xs) h =
    let both = and_parts (p x) (list_all p xs) h in
    rw (weak x both.0) (all_weaker p q weak xs both.1)

digit_plain : (b : ℕ) → is_ascii_digit b ≡ true → is_plain b ≡ true
digit_plain b h =
    let parts = and_parts (nat_le 48 b) (nat_le b 57) h in
    let low : 48 ≤ b = leb-true 48 b parts.0 in
    let high : b ≤ 57 = leb-true b 57 parts.1 in
    let percent : (b == 37) ≡ false = ne_eqb b 37 (λ (e : b ≡ 37). omega arith) in
    let colon : (b == 58) ≡ false = ne_eqb b 58 (λ (e : b ≡ 58). omega arith) in
    let ascii : nat_lt b 128 ≡ true = lt-ltb b 128 (omega arith) in
    rw (percent, colon, ascii) refl

pub plain_decimal : (n : ℕ) → n < 2 ^ 64 → list_all is_plain (decimal n) ≡ true
plain_decimal n low = all_weaker is_ascii_digit is_plain digit_plain (decimal n) (digits_decimal by_test n low)

pub plain_zeros : (k : ℕ) → list_all is_plain (replicate k 48) ≡ true
plain_zeros zero = refl
plain_zeros (suc k) = plain_zeros k

-- what a plain byte is not, and the bytes behind it
pub plain_parts : (b : ℕ) (bs : List ℕ) → list_all is_plain (b ∷ bs) ≡ true → (b ≢ 37) × ((b == 58) ≡ false) × (b < 128) × (list_all is_plain bs ≡ true)
plain_parts b bs h =
    let first = and_parts (is_plain b) (list_all is_plain bs) h in
    let percent = and_parts (not (b == 37)) (not (b == 58) && nat_lt b 128) first.0 in
    let others = and_parts (not (b == 58)) (nat_lt b 128) percent.1 in
    (eqb-false b 37 (not-true (b == 37) percent.0), not-true (b == 58) others.0, ltb-true b 128 others.1, first.1)

plain_ascii : (bs : List ℕ) → list_all is_plain bs ≡ true → IsAscii bs
plain_ascii [] h i = omega arith
plain_ascii (b ∷ bs) h zero = (plain_parts b bs h).2
plain_ascii (b ∷ bs) h (suc i) = plain_ascii bs (plain_parts b bs h).3 i

pub plain_utf8 : (bs : List ℕ) → list_all is_plain bs ≡ true → IsUtf8 bs
plain_utf8 bs h = IsUtf8-from_ascii bs (plain_ascii bs h)
