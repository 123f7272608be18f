-- The states of the shift register, and the values and rows that are made of them, one by one.
use Rattle.std.proofs.Common.{◌≡◌, ℕ, suc, ◌+◌, ◌-◌, ◌*◌, ◌/◌, ◌%◌, ◌^◌, ◌<◌, ◌≤◌, List, [], ◌∷◌, ◌++◌, length, get_or, sym, ap, ◌∙◌, arith, zero-add, add-one}
use Rattle.std.specs.Prelude.{bit_xor, min}
use Rattle.std.proofs.lemmas.List.FromFn.{map-range_with_len_more, length-map-range_with_len, get_or-map-range_with_len}
use Rattle.std.proofs.Math.Pow.{mod-mod-pow}
use Rattle.std.proofs.lemmas.Nat.{xor_lt, pow_pos}
use Rattle.format_kernels.specs.Kernels.{value_at, values_of}
use Rattle.format_kernels.specs.Register.{next_state, state_after}

pub state_more : (n state : ℕ) → state ≡ state_after n → next_state state ≡ state_after (n + 1)
unfolding state_after
state_more n state e = ap next_state e ∙ ap state_after (sym (add-one n))

pub values_more : (width n state value : ℕ) (values : List ℕ) → values ≡ values_of width n → state ≡ state_after n
    → value ≡ next_state state % 2 ^ min width 32 → values ++ value ∷ [] ≡ values_of width (n + 1)
unfolding values_of state_after
values_more width n state value values e s v =
    let same : value ≡ value_at width n = v ∙ ap (λ k. next_state k % 2 ^ min width 32) s in
    rw (e, same) (sym (map-range_with_len_more (value_at width) 0 n n (zero-add n)))

pub length-values_of : (width count : ℕ) → length (values_of width count) ≡ count
unfolding values_of
length-values_of width count = length-map-range_with_len (value_at width) 0 count

pub state_below : (state : ℕ) → state < 2 ^ 64 → next_state state < 2 ^ 64
unfolding next_state
state_below state low =
    let up : bit_xor state (state * 2 ^ 13 % 2 ^ 64) < 2 ^ 64 = xor_lt 64 state (state * 2 ^ 13 % 2 ^ 64) low (omega arith) in
    let down = bit_xor state (state * 2 ^ 13 % 2 ^ 64) in
    let both : bit_xor down (down / 2 ^ 7) < 2 ^ 64 = xor_lt 64 down (down / 2 ^ 7) up (omega arith) in
    let last = bit_xor down (down / 2 ^ 7) in
    xor_lt 64 last (last * 2 ^ 17 % 2 ^ 64) both (omega arith)

-- ---- the low bits of a state

pub low_bits : (state width : ℕ) → width < 32 → state % 2 ^ 32 % 2 ^ width ≡ state % 2 ^ min width 32
low_bits state width narrow =
    let split : 32 ≡ (32 - width) + width = omega arith in
    let least : width ≡ min width 32 = omega arith in
    ap (λ j. state % 2 ^ j % 2 ^ width) split ∙ mod-mod-pow state (32 - width) width ∙ ap (λ j. state % 2 ^ j) least

pub whole_bits : (state width : ℕ) → 32 ≤ width → state % 2 ^ 32 ≡ state % 2 ^ min width 32
whole_bits state width wide =
    let least : 32 ≡ min width 32 = omega arith in
    ap (λ j. state % 2 ^ j) least

-- each value has its width
pub values_fit : (width count : ℕ) → width ≤ 32 → (k : ℕ) → k < count → get_or (values_of width count) k 0 < 2 ^ width
unfolding values_of
values_fit width count narrow k within =
    let here : get_or (values_of width count) k 0 ≡ value_at width k = get_or-map-range_with_len (value_at width) 0 count k k 0 within (zero-add k) in
    let least : min width 32 ≡ width = omega arith in
    let low : state_after (suc k) % 2 ^ width < 2 ^ width = omega (arith, pow_pos width) in
    rw (here, least) low
