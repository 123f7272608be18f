-- What is written spells the value, and so reads back.
use Rattle.std.proofs.Common.{◌≡◌, ℕ, zero, suc, ◌+◌, ◌*◌, ◌/◌, ◌^◌, ◌<◌, ◌≤◌, true, ltb, List, [], ◌∷◌, ◌++◌, length, refl, sym, ap, ◌∙◌, arith, inl, inr}
use Rattle.std.specs.Prelude.{ℤ, pos, negsuc, ◌+ℤ◌, ◌-ℤ◌, ◌&&◌}
use Rattle.std.proofs.Math.IntN.{+ℤ_comm, -ℤ-+ℤ_cancel}
use Rattle.std.proofs.lemmas.Bool.{cases_lt, cases_Bool, lt-ltb, le-ltb, ltb-true, and_parts}
use Rattle.std.proofs.lemmas.Nat.{pow-add}
use Rattle.thrift_compact.specs.declared.wire.Wire.{Wire}
use Rattle.thrift_compact.specs.declared.wire.Field.TheVariants as fields
use Rattle.thrift_compact.specs.Varints.{zigzag}
use Rattle.thrift_compact.specs.Values.{fits_16}
use Rattle.thrift_compact.specs.Writing.{code_of, varint_of, varint_bytes, number_bytes, binary_bytes, list_bytes, delta_bytes, field_bytes}
use Rattle.thrift_compact.specs.Spelled.{IsVarint, SpellsVarint, SpellsSize, SpellsList, short, long, SpellsNext}
use Rattle.thrift_compact.specs.Laws.{Stands, NumbersReadBack, BinariesReadBack, ListsReadBack, FieldsReadBack, StopsReadBack}
use Rattle.thrift_compact.proofs.ReadingLaws.{number_only, binary_only}
use Rattle.thrift_compact.proofs.HeaderLaws.{code_small, list_only, field_only}

-- ---- varints

IsWritten : ℕ → ℕ → Type 0
IsWritten most number = IsVarint (varint_of most number) number × (length (varint_of most number) ≤ most)

varint_written : (most number : ℕ) → 0 < most → number < 2 ^ (7 * most) → IsWritten most number
unfolding IsWritten varint_of IsVarint
varint_written zero number some below = absurd (omega arith)
varint_written (suc zero) number some below = rw (lt-ltb number 128 (omega arith)) (inl (omega arith, refl, refl), omega arith)
varint_written (suc (suc most)) number some below = elim (cases_lt number 128) [
  | inl small ↦ rw (lt-ltb number 128 small) (inl (small, refl, refl), omega arith)
  | inr large ↦
      let bits : 2 ^ (7 * suc (suc most)) ≡ 128 * 2 ^ (7 * suc most) = ap (λ k. 2 ^ k) (seven (suc most)) ∙ pow-add 2 7 (7 * suc most) in
      let rest = varint_written (suc most) (number / 128) (omega arith) (omega (arith, bits)) in
      rw (le-ltb number 128 large) (inr (omega arith, number / 128, omega arith, rest.0), omega (arith, rest.1))
]
  where
    seven : (i : ℕ) → 7 * suc i ≡ 7 + 7 * i
    seven i = omega arith

pub varint_spelled : (number : ℕ) → number < 2 ^ 64 → SpellsVarint (varint_bytes number) number
unfolding IsWritten
varint_spelled number narrow =
    let written = varint_written 10 number (omega arith) (omega arith) in
    record { varint = written.0; few = written.1; narrow = narrow }

size_spelled : (size : ℕ) → size < 2 ^ 32 → SpellsSize (varint_bytes size) size
size_spelled size narrow = record { varint = varint_spelled size (omega arith); narrow = narrow }

-- a text stands between what is before it and what is behind it
between : (front text rest : List ℕ) → Stands (front ++ (text ++ rest)) (length front) text (length front + length text)
between front text rest = record { front = front; rest = rest; whole = refl; begins = refl; ends = refl }

pub numbers_read_back : NumbersReadBack
numbers_read_back number narrow front rest =
    let text = number_bytes number in
    number_only (front ++ (text ++ rest)) (length front) number (length front + length text) text (varint_spelled (zigzag number) narrow) (between front text rest)

pub binaries_read_back : BinariesReadBack
binaries_read_back content narrow front rest =
    let text = binary_bytes content in
    binary_only (front ++ (text ++ rest)) (length front) content (length front + length text) text
    (record { size = varint_bytes (length content); counted = size_spelled (length content) narrow; all = refl }) (between front text rest)

-- ---- headers

list_spelled : (wire : Wire) (count : ℕ) → count < 2 ^ 32 → SpellsList (record { wire = wire; count = count }) (list_bytes wire count)
list_spelled wire count narrow =
    let small = code_small wire in
    elim (cases_lt count 15) [
      | inl few ↦ rw (lt-ltb count 15 few) (short (16 * count + code_of wire) (omega (arith, small.1)) (omega (arith, small.1)) (λ full. omega arith))
      | inr many ↦ rw (le-ltb count 15 many) (long (240 + code_of wire) (varint_bytes count) (omega (arith, small.1)) (omega (arith, small.1)) (size_spelled count narrow))
    ]

pub lists_read_back : ListsReadBack
lists_read_back wire count narrow front rest =
    let text = list_bytes wire count in
    list_only (front ++ (text ++ rest)) (length front) (record { wire = wire; count = count }) (length front + length text) text (list_spelled wire count narrow) (between front text rest)

id_narrow : (id : ℤ) → fits_16 id ≡ true → zigzag id < 2 ^ 64
id_narrow (pos n) fits = let low = ltb-true n (2 ^ 15) fits in omega (arith, low)
id_narrow (negsuc n) fits = let low = ltb-true n (2 ^ 15) fits in omega (arith, low)

id_spelled : (last id : ℤ) (wire : Wire) → fits_16 id ≡ true → SpellsNext last id wire (code_of wire ∷ number_bytes id)
id_spelled last id wire fits = long (code_of wire) (number_bytes id) refl (varint_spelled (zigzag id) (id_narrow id fits))

delta_spelled : (last id : ℤ) (wire : Wire) (delta : ℤ) → fits_16 id ≡ true → id ≡ last +ℤ delta → SpellsNext last id wire (delta_bytes delta id wire)
delta_spelled last id wire (negsuc n) fits sum = id_spelled last id wire fits
delta_spelled last id wire (pos n) fits sum = elim (cases_Bool (ltb 0 n && ltb n 16)) [
  | inl near ↦
      let p = and_parts (ltb 0 n) (ltb n 16) near in
      let some : 0 < n = ltb-true 0 n p.0 in
      let few : n < 16 = ltb-true n 16 p.1 in
      let small = code_small wire in
      let high : (16 * n + code_of wire) / 16 ≡ n = omega (arith, small.1) in
      rw near (short (16 * n + code_of wire) (omega (arith, small.1)) (omega arith) (sum ∙ ap (λ k. last +ℤ pos k) (sym high)))
  | inr far ↦ rw far (id_spelled last id wire fits)
]

pub fields_read_back : FieldsReadBack
fields_read_back last id wire fits front rest =
    let text = field_bytes last id wire in
    let sum : id ≡ last +ℤ (id -ℤ last) = sym (+ℤ_comm last (id -ℤ last) ∙ -ℤ-+ℤ_cancel id last) in
    field_only (front ++ (text ++ rest)) last (length front) (fields.Next id wire) (length front + length text) text
    (delta_spelled last id wire (id -ℤ last) fits sum, fits) (between front text rest)

pub stops_read_back : StopsReadBack
stops_read_back last front rest =
    field_only (front ++ ((0 ∷ []) ++ rest)) last (length front) fields.Stop (length front + 1) (0 ∷ []) refl (between front (0 ∷ []) rest)
