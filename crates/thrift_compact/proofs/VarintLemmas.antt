-- Reading a varint byte by byte.
use Rattle.std.proofs.Common.{◌≡◌, ℕ, zero, suc, ◌+◌, ◌-◌, ◌*◌, ◌/◌, ◌%◌, ◌^◌, ◌<◌, ◌≤◌, List, [], ◌∷◌, ◌++◌, length, take, drop, get_or, refl, sym, ap, ◌∙◌, arith}
use Rattle.std.specs.Prelude.{bit_or}
use Rattle.std.proofs.lemmas.Bool.{lt-ltb, le-ltb}
use Rattle.std.proofs.lemmas.Nat.{pow-add, shl_whole, or_shifted, or_comm, mul-le}
use Rattle.std.proofs.lemmas.List.{drop_more, drop_all, append_assoc, length-take, take-take}
use Rattle.thrift_compact.specs.Writing.{varint_of}
use Rattle.thrift_compact.specs.Varints.{Varint, number, ends, long, continued, varint}

-- a varint behind so many bytes, which were the low bits of the number
abbrev pub after : ℕ → ℕ → Varint → Varint
after count low (number value len) = number (low + 2 ^ (7 * count) * value) (count + len)
after count low ends = ends
after count low long = long

pub after_none : (v : Varint) → after 0 0 v ≡ v
after_none (number value len) =
    let same : 0 + 2 ^ (7 * 0) * value ≡ value = omega arith in
    let long_as : 0 + len ≡ len = omega arith in
    ap (λ k. number k (0 + len)) same ∙ ap (λ k. number value k) long_as
after_none ends = refl
after_none long = refl

after_more : (count low byte : ℕ) (v : Varint) → after count low (continued byte v) ≡ after (count + 1) (low + byte % 128 * 2 ^ (7 * count)) v
unfolding continued
after_more count low byte (number value len) =
    let bits : 2 ^ (7 * (count + 1)) ≡ 128 * 2 ^ (7 * count) = ap (λ k. 2 ^ k) (seven count) ∙ pow-add 2 7 (7 * count) in
    let same : low + 2 ^ (7 * count) * (byte % 128 + 128 * value) ≡ low + byte % 128 * 2 ^ (7 * count) + 2 ^ (7 * (count + 1)) * value
    = rw bits (spread low (2 ^ (7 * count)) (byte % 128) value) in
    let long_as : count + suc len ≡ count + 1 + len = omega arith in
    ap (λ k. number k (count + suc len)) same ∙ ap (λ k. number (low + byte % 128 * 2 ^ (7 * count) + 2 ^ (7 * (count + 1)) * value) k) long_as
  where
    seven : (i : ℕ) → 7 * (i + 1) ≡ 7 + 7 * i
    seven i = omega arith

    spread : (l p d x : ℕ) → l + p * (d + 128 * x) ≡ l + d * p + 128 * p * x
    spread l p d x = grind arith
after_more count low byte ends = refl
after_more count low byte long = refl

-- one byte more was read
pub varint_step : (bytes : List ℕ) (at count low : ℕ) (whole : Varint) → at + count < length bytes → count < 10 → 128 ≤ get_or bytes (at + count) 0
    → after count low (varint (10 - count) (drop (at + count) bytes)) ≡ whole
    → after (count + 1) (low + get_or bytes (at + count) 0 % 128 * 2 ^ (7 * count)) (varint (10 - (count + 1)) (drop (at + (count + 1)) bytes)) ≡ whole
unfolding varint
varint_step bytes at count low whole within few large before =
    let byte = get_or bytes (at + count) 0 in
    let most : 10 - count ≡ suc (10 - (count + 1)) = omega arith in
    let next : at + count + 1 ≡ at + (count + 1) = omega arith in
    let here : varint (10 - count) (drop (at + count) bytes) ≡ continued byte (varint (10 - (count + 1)) (drop (at + (count + 1)) bytes))
    = ap (λ k. varint k (drop (at + count) bytes)) most
    ∙ ap (λ (bs : List ℕ). varint (suc (10 - (count + 1))) bs) (drop_more bytes (at + count) 0 within)
    ∙ rw (le-ltb byte 128 large, next) refl in
    sym (after_more count low byte (varint (10 - (count + 1)) (drop (at + (count + 1)) bytes))) ∙ ap (λ v. after count low v) (sym here) ∙ before

-- the last byte
pub varint_last : (bytes : List ℕ) (at count low : ℕ) (whole : Varint) → at + count < length bytes → count < 10 → get_or bytes (at + count) 0 < 128
    → after count low (varint (10 - count) (drop (at + count) bytes)) ≡ whole
    → whole ≡ number (low + get_or bytes (at + count) 0 % 128 * 2 ^ (7 * count)) (count + 1)
unfolding varint
varint_last bytes at count low whole within few small before =
    let byte = get_or bytes (at + count) 0 in
    let most : 10 - count ≡ suc (10 - (count + 1)) = omega arith in
    let here : varint (10 - count) (drop (at + count) bytes) ≡ number byte 1
    = ap (λ k. varint k (drop (at + count) bytes)) most
    ∙ ap (λ (bs : List ℕ). varint (suc (10 - (count + 1))) bs) (drop_more bytes (at + count) 0 within)
    ∙ rw (lt-ltb byte 128 small) refl in
    let same : low + 2 ^ (7 * count) * byte ≡ low + byte % 128 * 2 ^ (7 * count) = rw (low_byte byte small) (grind arith) in
    sym before ∙ ap (λ v. after count low v) here ∙ ap (λ k. number k (count + 1)) same
  where
    low_byte : (b : ℕ) → b < 128 → b % 128 ≡ b
    low_byte b lt = omega arith

-- the bytes end
pub varint_ends : (bytes : List ℕ) (at count low : ℕ) (whole : Varint) → length bytes ≤ at + count → count < 10
    → after count low (varint (10 - count) (drop (at + count) bytes)) ≡ whole → whole ≡ ends
unfolding varint
varint_ends bytes at count low whole past few before =
    let most : 10 - count ≡ suc (10 - (count + 1)) = omega arith in
    sym before
    ∙ ap (λ k. after count low (varint k (drop (at + count) bytes))) most
    ∙ ap (λ (bs : List ℕ). after count low (varint (suc (10 - (count + 1))) bs)) (drop_all (at + count) bytes past)

pub varint_long : (bytes : List ℕ) (at count low : ℕ) (whole : Varint) → 10 ≤ count
    → after count low (varint (10 - count) (drop (at + count) bytes)) ≡ whole → whole ≡ long
unfolding varint
varint_long bytes at count low whole past before =
    let none : 10 - count ≡ 0 = omega arith in
    sym before ∙ ap (λ k. after count low (varint k (drop (at + count) bytes))) none

-- a digit above what was read
pub digit_above : (low byte count : ℕ) → low < 2 ^ (7 * count) → count < 10
    → (bit_or low (byte % 128 * 2 ^ (7 * count) % 2 ^ 128) ≡ low + byte % 128 * 2 ^ (7 * count)) × (low + byte % 128 * 2 ^ (7 * count) < 2 ^ (7 * (count + 1)))
digit_above low byte count below few =
    let whole : byte % 128 * 2 ^ (7 * count) % 2 ^ 128 ≡ byte % 128 * 2 ^ (7 * count) = shl_whole (byte % 128) 7 (7 * count) 128 (omega arith) (omega arith) in
    let bits : 2 ^ (7 * (count + 1)) ≡ 128 * 2 ^ (7 * count) = ap (λ k. 2 ^ k) (seven count) ∙ pow-add 2 7 (7 * count) in
    let digit : byte % 128 * 2 ^ (7 * count) ≤ 127 * 2 ^ (7 * count) = mul-le (byte % 128) (2 ^ (7 * count)) 127 (2 ^ (7 * count)) (omega arith) (omega arith) in
    (rw (whole, or_comm, or_shifted (byte % 128) (7 * count) low below) (omega arith), omega (arith, bits, digit))
  where
    seven : (i : ℕ) → 7 * (i + 1) ≡ 7 + 7 * i
    seven i = omega arith

-- one byte of a varint more was written
pub varint_next : (most rest : ℕ) (out new total : List ℕ) → 128 ≤ rest → rest < 2 ^ (7 * most) → new ≡ out ++ (rest % 128 + 128) ∷ []
    → out ++ varint_of most rest ≡ total → (m : ℕ) × (0 < m) × (rest / 128 < 2 ^ (7 * m)) × (new ++ varint_of m (rest / 128) ≡ total)
unfolding varint_of
varint_next zero rest out new total large below e whole = absurd (omega arith)
varint_next (suc zero) rest out new total large below e whole = absurd (omega arith)
varint_next (suc (suc m)) rest out new total large below e whole =
    let more_bits : 2 ^ (7 * suc (suc m)) ≡ 128 * 2 ^ (7 * suc m) = ap (λ k. 2 ^ k) (seven (suc m)) ∙ pow-add 2 7 (7 * suc m) in (
      suc m,
      omega arith,
      omega (arith, more_bits),
      ap (λ (xs : List ℕ). xs ++ varint_of (suc m) (rest / 128)) e
          ∙ append_assoc out ((rest % 128 + 128) ∷ []) (varint_of (suc m) (rest / 128))
          ∙ (rw (le-ltb rest 128 large) at whole),
    )
  where
    seven : (i : ℕ) → 7 * suc i ≡ 7 + 7 * i
    seven i = omega arith

pub varint_end : (most rest : ℕ) (out new total : List ℕ) → 0 < most → rest < 128 → new ≡ out ++ rest ∷ [] → out ++ varint_of most rest ≡ total → new ≡ total
unfolding varint_of
varint_end zero rest out new total some small e whole = absurd (omega arith)
varint_end (suc most) rest out new total some small e whole = e ∙ (rw (lt-ltb rest 128 small) at whole)

-- what was kept is still kept behind one step more
pub kept_on : (old middle new : List ℕ) → take (length old) middle ≡ old → take (length middle) new ≡ middle → take (length old) new ≡ old
kept_on old middle new first second =
    let short : length old ≤ length middle = omega (arith, ap length first, length-take (length old) middle) in
    sym (take-take (length old) (length middle) new short) ∙ ap (λ (xs : List ℕ). take (length old) xs) second ∙ first
