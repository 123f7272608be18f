-- Packed values determine their bytes.
use Rattle.std.proofs.Common.{◌≡◌, ℕ, suc, ◌+◌, ◌*◌, ◌/◌, ◌%◌, ◌^◌, ◌<◌, List, [], ◌∷◌, length, get_or, refl, sym, ap, ◌∙◌, arith}
use Rattle.std.proofs.lemmas.Nat.{shr-shr, pow_pos}
use Rattle.bit_pack.specs.Bits.{Packs}
use Rattle.bit_pack.specs.Numbers.{number_in, packed_number, bytes_of}
use Rattle.bit_pack.proofs.Wholes.{IsBytes, value_at_is, number_of-rest}
use Rattle.parquet_pages.specs.Written.{bits_text}

-- bytes are the bytes of their number
bytes_again : (bytes : List ℕ) → IsBytes bytes → bytes ≡ bytes_of (length bytes) (number_in bytes)
unfolding bytes_of number_in
bytes_again [] fits = refl
bytes_again (b ∷ bytes) fits =
    let small : b < 256 = fits 0 in
    let low : (b + 256 * number_in bytes) % 256 ≡ b = omega arith in
    let high : (b + 256 * number_in bytes) / 256 ≡ number_in bytes = omega arith in
    let rest = bytes_again bytes (λ i. fits (suc i)) in
    rw (low, high) (ap (λ (bs : List ℕ). b ∷ bs) rest)

at_zero : (w n : ℕ) → n / 2 ^ (0 * w) ≡ n
at_zero w n =
    let none : 0 * w ≡ 0 = omega arith in
    let whole : n / 1 ≡ n = omega arith in
    ap (λ k. n / 2 ^ k) none ∙ whole

one_field : (w n k : ℕ) → n / 2 ^ (suc k * w) ≡ n / 2 ^ w / 2 ^ (k * w)
one_field w n k =
    let later : suc k * w ≡ w + k * w = omega arith in
    ap (λ j. n / 2 ^ j) later ∙ sym (shr-shr n w (k * w))

parts : (n d : ℕ) → 0 < d → n ≡ n % d + d * (n / d)
parts n d pos = omega arith

-- a number whose fields are these, and no others, is theirs
packed_again : (w : ℕ) (values : List ℕ) (n : ℕ) → ((k : ℕ) → k < length values → get_or values k 0 ≡ n / 2 ^ (k * w) % 2 ^ w)
    → n / 2 ^ (length values * w) ≡ 0 → n ≡ packed_number w values
unfolding packed_number
packed_again w [] n each none = sym (at_zero w n) ∙ none
packed_again w (v ∷ values) n each none =
    let first : v ≡ n / 2 ^ (0 * w) % 2 ^ w = each 0 (omega arith) in
    let low : v ≡ n % 2 ^ w = first ∙ ap (λ k. k % 2 ^ w) (at_zero w n) in
    let rest : n / 2 ^ w ≡ packed_number w values = packed_again w values (n / 2 ^ w)
    (λ k lt. each (suc k) (omega (arith, lt)) ∙ ap (λ m. m % 2 ^ w) (one_field w n k))
    (sym (one_field w n (length values)) ∙ none) in
    parts n (2 ^ w) (pow_pos w) ∙ ap (λ m. m + 2 ^ w * (n / 2 ^ w)) (sym low) ∙ ap (λ m. v + 2 ^ w * m) rest

pub bits_text_is : (bits bytes : List ℕ) → IsBytes bytes → Packs 1 bits bytes → bytes ≡ bits_text bits
bits_text_is bits bytes fits p =
    let n = number_in bytes in
    let size : length bytes ≡ (length bits + 7) / 8 = p.fewest ∙ ap (λ k. (k + 7) / 8) (times_one (length bits)) in
    let none : n / 2 ^ (length bits * 1) ≡ 0 = sym (number_of-rest (length bits * 1) bytes fits) ∙ p.padded in
    let number = packed_again 1 bits n (λ k lt. p.packed.each k lt ∙ value_at_is 1 bytes k fits) none in
    bytes_again bytes fits ∙ ap (λ k. bytes_of k n) size ∙ ap (λ k. bytes_of ((length bits + 7) / 8) k) number
  where
    times_one : (n : ℕ) → n * 1 ≡ n
    times_one n = omega arith
