-- The plain reader of varints, step by step.
use Rattle.std.proofs.Common.{◌≡◌, ℕ, zero, suc, ◌+◌, ◌-◌, ◌*◌, ◌%◌, ◌^◌, ◌<◌, ◌≤◌, List, [], ◌∷◌, ◌++◌, length, take, drop, get_or, refl, sym, ap, ◌∙◌, subst, arith, Option, Some, None}
use Rattle.std.specs.Prelude.{ℤ}
use Rattle.std.proofs.lemmas.Bool.{lt-ltb, le-ltb}
use Rattle.std.proofs.lemmas.List.{take_at, length-append}
use Rattle.std.proofs.lemmas.Nat.{pow-add, pow_pos}
use Rattle.thrift_compact.specs.Varints.{Varint, number, ends, long, found_in, continued, varint, zigzag, unzigzag}
use Rattle.thrift_compact.specs.Spelled.{SpellsVarint, SpellsNumber}
use Rattle.thrift_compact.proofs.ReadingLaws.{IsFront, varint_found, varint_again, zigzag-unzigzag}

some_inside : (a b : ℕ × ℕ) → Some a ≡ Some b → a ≡ b
some_inside a b e = cc

pub plain_none : (most : ℕ) (bytes : List ℕ) → most ≡ 0 → None ≡ found_in (varint most bytes)
unfolding varint
plain_none zero bytes e = refl
plain_none (suc most) bytes e = absurd (omega arith)

pub plain_ends : (most : ℕ) (bytes : List ℕ) → length bytes < 1 → None ≡ found_in (varint most bytes)
unfolding varint
plain_ends zero bytes few = refl
plain_ends (suc most) [] few = refl
plain_ends (suc most) (byte ∷ bytes) few = absurd (omega arith)

pub plain_last : (most : ℕ) (bytes : List ℕ) → 0 < most → 1 ≤ length bytes → get_or bytes 0 0 < 128 → Some (get_or bytes 0 0, 1) ≡ found_in (varint most bytes)
unfolding varint
plain_last zero bytes some within small = absurd (omega arith)
plain_last (suc most) [] some within small = absurd (omega arith)
plain_last (suc most) (byte ∷ bytes) some within small = rw (lt-ltb byte 128 small) refl

plain_more : (most : ℕ) (bytes : List ℕ) → 0 < most → 1 ≤ length bytes → 128 ≤ get_or bytes 0 0
    → varint most bytes ≡ continued (get_or bytes 0 0) (varint (most - 1) (drop 1 bytes))
unfolding varint
plain_more zero bytes some within large = absurd (omega arith)
plain_more (suc most) [] some within large = absurd (omega arith)
plain_more (suc most) (byte ∷ bytes) some within large =
    let one_less : most ≡ suc most - 1 = omega arith in
    rw (le-ltb byte 128 large) (ap (λ k. continued byte (varint k bytes)) one_less)

pub plain_inner_none : (most : ℕ) (bytes : List ℕ) → 0 < most → 1 ≤ length bytes → 128 ≤ get_or bytes 0 0
    → None ≡ found_in (varint (most - 1) (drop 1 bytes)) → None ≡ found_in (varint most bytes)
unfolding continued
plain_inner_none most bytes some within large inner =
    step (get_or bytes 0 0) (varint (most - 1) (drop 1 bytes)) inner ∙ ap found_in (sym (plain_more most bytes some within large))
  where
    step : (byte : ℕ) (v : Varint) → None ≡ found_in v → None ≡ found_in (continued byte v)
    step byte (number value len) e = absurd cc
    step byte ends e = refl
    step byte long e = refl

pub plain_inner_some : (most : ℕ) (bytes : List ℕ) (high count : ℕ) → 0 < most → 1 ≤ length bytes → 128 ≤ get_or bytes 0 0
    → Some (high, count) ≡ found_in (varint (most - 1) (drop 1 bytes)) → Some (get_or bytes 0 0 % 128 + 128 * high, count + 1) ≡ found_in (varint most bytes)
unfolding continued
plain_inner_some most bytes high count some within large inner =
    step (get_or bytes 0 0) (varint (most - 1) (drop 1 bytes)) inner ∙ ap found_in (sym (plain_more most bytes some within large))
  where
    step : (byte : ℕ) (v : Varint) → Some (high, count) ≡ found_in v → Some (byte % 128 + 128 * high, count + 1) ≡ found_in (continued byte v)
    step byte (number value len) e =
        let same = some_inside (high, count) (value, len) e in
        let means : high ≡ value = ap (λ (k : ℕ × ℕ). k.0) same in
        let counted : count + 1 ≡ suc len = omega (arith, ap (λ (k : ℕ × ℕ). k.1) same) in
        rw (means, counted) refl
    step byte ends e = absurd cc
    step byte long e = absurd cc

-- one more byte has seven more bits
pub plain_bits : (most byte high : ℕ) → 0 < most → high < 2 ^ (7 * (most - 1)) → byte % 128 + 128 * high < 2 ^ (7 * most)
plain_bits zero byte high some below = absurd (omega arith)
plain_bits (suc most) byte high some below =
    let bits : 2 ^ (7 * suc most) ≡ 128 * 2 ^ (7 * most) = ap (λ k. 2 ^ k) (seven most) ∙ pow-add 2 7 (7 * most) in
    let same : 7 * (suc most - 1) ≡ 7 * most = omega arith in
    let low : high < 2 ^ (7 * most) = (rw same at below) in
    omega (arith, bits, low)
  where
    seven : (i : ℕ) → 7 * suc i ≡ 7 + 7 * i
    seven i = omega arith

pub plain_byte : (most byte : ℕ) → 0 < most → byte < 128 → byte < 2 ^ (7 * most)
plain_byte most byte some small =
    let more = plain_bits most byte 0 some (pow_pos (7 * (most - 1))) in omega (arith, more)

-- ---- whole numbers

front_spelled : (bytes : List ℕ) (value len : ℕ) → Some (value, len) ≡ found_in (varint 10 bytes) → IsFront bytes 10 value len
front_spelled bytes value len e = varint_found 10 bytes value len (is_number (varint 10 bytes) e)
  where
    is_number : (v : Varint) → Some (value, len) ≡ found_in v → v ≡ number value len
    is_number (number n k) e =
        let same = some_inside (value, len) (n, k) e in
        ap (λ i. number i k) (sym (ap (λ (i : ℕ × ℕ). i.0) same)) ∙ ap (λ i. number value i) (sym (ap (λ (i : ℕ × ℕ). i.1) same))
    is_number ends e = absurd cc
    is_number long e = absurd cc

pub plain_spelled : (bytes : List ℕ) (value len : ℕ) → Some (value, len) ≡ found_in (varint 10 bytes) → value < 2 ^ 64
    → SpellsNumber (take len bytes) (unzigzag value) × (len ≤ length bytes)
unfolding IsFront
plain_spelled bytes value len e narrow =
    let front = front_spelled bytes value len e in
    let same : front.0 ≡ take len bytes = sym (ap (λ (bs : List ℕ). take len bs) front.2 ∙ take_at front.0 front.1 len front.3) in
    let spelled : SpellsVarint front.0 value = record { varint = front.5; few = omega (arith, front.3, front.4); narrow = narrow } in (
      subst (λ k. SpellsVarint (take len bytes) k) (sym (zigzag-unzigzag value)) (subst (λ (bs : List ℕ). SpellsVarint bs value) same spelled),
      omega (arith, ap length front.2, length-append front.0 front.1, front.3),
    )

seen : (bytes text rest : List ℕ) (value : ℤ) → SpellsNumber text value → bytes ≡ text ++ rest → found_in (varint 10 bytes) ≡ Some (zigzag value, length text)
seen bytes text rest value spelled e =
    ap (λ (bs : List ℕ). found_in (varint 10 bs)) e ∙ ap found_in (varint_again text rest (zigzag value) 10 spelled.varint spelled.few)

pub plain_unspelled : (bytes text rest : List ℕ) (value : ℤ) → None ≡ found_in (varint 10 bytes) → SpellsNumber text value → bytes ≡ text ++ rest → ⊥
plain_unspelled bytes text rest value none spelled e =
    let never : ◌≡◌ {A = Option (ℕ × ℕ)} None (Some (zigzag value, length text)) = none ∙ seen bytes text rest value spelled e in cc

pub plain_wide : (bytes text rest : List ℕ) (value : ℤ) (wide len : ℕ) → Some (wide, len) ≡ found_in (varint 10 bytes) → 2 ^ 64 ≤ wide
    → SpellsNumber text value → bytes ≡ text ++ rest → ⊥
plain_wide bytes text rest value wide len here past spelled e =
    let same = some_inside (wide, len) (zigzag value, length text) (here ∙ seen bytes text rest value spelled e) in
    let narrow : zigzag value < 2 ^ 64 = spelled.narrow in
    let is : wide ≡ zigzag value = ap (λ (k : ℕ × ℕ). k.0) same in
    omega arith
