-- The width of places in a dictionary.
use Rattle.std.proofs.Common.{◌≡◌, ℕ, suc, ◌+◌, ◌-◌, ◌*◌, ◌^◌, ◌%◌, ◌<◌, ◌≤◌, refl, ap, ◌∙◌, arith, inl, inr, cond, leb}
use Rattle.std.proofs.lemmas.Bool.{cases_lt, le-leb, lt-leb}
use Rattle.bit_pack.specs.Bits.{most_values}
use Rattle.bit_pack.proofs.Sums.{two_pow_le}
use Rattle.parquet_pages.specs.Places.{width_from}

-- a power of two that is shifted in 64 bits
shifted : (w : ℕ) → w ≤ 26 → (1 * 2 ^ w) % 2 ^ 64 ≡ 2 ^ w
shifted w le =
    let small : 2 ^ w ≤ 2 ^ 26 = two_pow_le w 26 le in
    omega (arith, small)

left : (w : ℕ) → w ≤ 26 → 32 - w ≡ suc (32 - (w + 1))
left w le = omega arith

pub width_more : (w count : ℕ) → w ≤ 26 → (1 * 2 ^ w) % 2 ^ 64 < count → width_from (32 - w) w count ≡ width_from (32 - (w + 1)) (w + 1) count
unfolding width_from
width_more w count le small =
    let over : 2 ^ w < count = omega (arith, small, shifted w le) in
    ap (λ n. width_from n w count) (left w le) ∙ step over
  where
    step : 2 ^ w < count → cond (leb count (2 ^ w)) w (width_from (32 - (w + 1)) (w + 1) count) ≡ width_from (32 - (w + 1)) (w + 1) count
    step over = rw (lt-leb count (2 ^ w) over) refl

pub width_narrow : (w count : ℕ) → w ≤ 26 → count ≤ most_values → (1 * 2 ^ w) % 2 ^ 64 < count → w + 1 ≤ 26
width_narrow w count le few small = elim (cases_lt w 26) [
  | inl lt ↦ omega arith
  | inr ge ↦ absurd (omega (arith, two_pow_le 26 w ge, shifted w le, small, few))
]

pub width_is : (w count : ℕ) → w ≤ 26 → count ≤ (1 * 2 ^ w) % 2 ^ 64 → width_from (32 - w) w count ≡ w
unfolding width_from
width_is w count le fits =
    let within : count ≤ 2 ^ w = omega (arith, fits, shifted w le) in
    ap (λ n. width_from n w count) (left w le) ∙ step within
  where
    step : count ≤ 2 ^ w → cond (leb count (2 ^ w)) w (width_from (32 - (w + 1)) (w + 1) count) ≡ w
    step within = rw (le-leb count (2 ^ w) within) refl
