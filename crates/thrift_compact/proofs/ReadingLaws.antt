-- Reading gives exactly the values whose texts stand in the bytes.
use Rattle.std.proofs.Common.{◌≡◌, ℕ, zero, suc, ◌+◌, ◌*◌, ◌/◌, ◌%◌, ◌^◌, ◌<◌, ◌≤◌, cond, ltb, List, [], ◌∷◌, ◌++◌, length, take, drop, refl, sym, ap, ◌∙◌, subst, arith, inl, inr, Ok, Err}
use Rattle.std.specs.Prelude.{ℤ, pos, negsuc}
use Rattle.std.proofs.lemmas.Bool.{cases_lt, cases_eq, lt-ltb, le-ltb, ltb-true, eq-eqb, ne_eqb}
use Rattle.std.proofs.lemmas.List.{take_at}
use Rattle.thrift_compact.specs.declared.fault.ThriftFault.TheVariants as faults
use Rattle.thrift_compact.specs.Varints.{Varint, number, ends, long, continued, varint, zigzag, unzigzag}
use Rattle.row_base.specs.Faults.{◌>>=◌}
use Rattle.thrift_compact.specs.Values.{varint_here, varint_at, number_at, size_at, behind, binary_at}
use Rattle.thrift_compact.specs.Spelled.{IsVarint, SpellsVarint, SpellsNumber, SpellsSize, SpellsBinary}
use Rattle.thrift_compact.specs.Laws.{Stands}
use Rattle.thrift_compact.proofs.Standing.{bind_ok, bind_from, ok_inside, holds_ok, front_of, stands_make, stands_first, stands_second, stands_join, behind_found, behind_only}

-- ---- varints

continued_found : (byte : ℕ) (v : Varint) (value len : ℕ) → continued byte v ≡ number value len
    → (high : ℕ) × (few : ℕ) × (v ≡ number high few) × (value ≡ byte % 128 + 128 * high) × (len ≡ suc few)
unfolding continued
continued_found byte (number high few) value len e = (high, few, refl, cc, cc)
continued_found byte ends value len e = absurd cc
continued_found byte long value len e = absurd cc

-- the front of the bytes is the varint's text
unfoldable pub IsFront : List ℕ → ℕ → ℕ → ℕ → Type 0
IsFront bytes most value len =
    (text : List ℕ) × (rest : List ℕ) × (bytes ≡ text ++ rest) × (length text ≡ len) × (len ≤ most) × IsVarint text value

front_more : (byte most high few value len : ℕ) (bytes : List ℕ) → 128 ≤ byte → value ≡ byte % 128 + 128 * high → len ≡ suc few
    → IsFront bytes most high few → IsFront (byte ∷ bytes) (suc most) value len
unfolding IsFront IsVarint
front_more byte most high few value len bytes large means counted inner = (
  byte ∷ inner.0,
  inner.1,
  ap (λ (bs : List ℕ). byte ∷ bs) inner.2,
  ap suc inner.3 ∙ sym counted,
  omega (arith, counted, inner.4),
  inr (large, high, means, inner.5),
)

pub varint_found : (most : ℕ) (bytes : List ℕ) (value len : ℕ) → varint most bytes ≡ number value len → IsFront bytes most value len
unfolding varint IsVarint IsFront
varint_found zero bytes value len e = absurd cc
varint_found (suc most) [] value len e = absurd cc
varint_found (suc most) (byte ∷ bytes) value len e = elim (cases_lt byte 128) [
  | inl small ↦
      let one : number byte 1 ≡ number value len = rw (lt-ltb byte 128 small) at e in
      (byte ∷ [], bytes, refl, cc, (let k : 1 ≡ len = cc in omega arith), inl (small, refl, cc))
  | inr large ↦
      let p = continued_found byte (varint most bytes) value len (rw (le-ltb byte 128 large) at e) in
      front_more byte most p.0 p.1 value len bytes large p.3 p.4 (varint_found most bytes p.0 p.1 p.2)
]

pub varint_again : (text rest : List ℕ) (value most : ℕ) → IsVarint text value → length text ≤ most → varint most (text ++ rest) ≡ number value (length text)
unfolding varint continued IsVarint
varint_again [] rest value most h few = absurd h
varint_again (byte ∷ text) rest value zero h few = absurd (omega arith)
varint_again (byte ∷ text) rest value (suc most) (inl p) few = rw (lt-ltb byte 128 p.0, p.1, p.2) refl
varint_again (byte ∷ text) rest value (suc most) (inr p) few = rw (le-ltb byte 128 p.0, varint_again text rest p.1 most p.3 (omega arith), p.2) refl

here_found : (bytes : List ℕ) (at : ℕ) (v : Varint) (value end : ℕ) → varint_here bytes at v ≡ Ok (value, end)
    → (len : ℕ) × (v ≡ number value len) × (value < 2 ^ 64) × (at + len ≡ end)
here_found bytes at (number n len) value end e =
    let p = holds_ok (ltb n (2 ^ 64)) (n, at + len) (faults.Long at) (value, end) e in
    let same : n ≡ value = ap (λ (k : ℕ × ℕ). k.0) p.1 in
    let last : at + len ≡ end = ap (λ (k : ℕ × ℕ). k.1) p.1 in
    let narrow : n < 2 ^ 64 = ltb-true n (2 ^ 64) p.0 in
    (len, ap (λ k. number k len) same, (rw same at narrow), last)
here_found bytes at ends value end e = absurd cc
here_found bytes at long value end e = absurd cc

pub varint_at_found : (bytes : List ℕ) (at value end : ℕ) → at ≤ length bytes → varint_at bytes at ≡ Ok (value, end)
    → (text : List ℕ) × SpellsVarint text value × Stands bytes at text end
unfolding varint_at IsFront
varint_at_found bytes at value end within e =
    let p = here_found bytes at (varint 10 (drop at bytes)) value end e in
    let front = varint_found 10 (drop at bytes) value p.0 p.1 in (
      front.0,
      record { varint = front.5; few = omega (arith, front.3, front.4); narrow = p.2 },
      stands_make bytes at front.0 front.1 end within front.2 (omega (arith, front.3, p.3)),
    )

pub varint_at_only : (bytes : List ℕ) (at value end : ℕ) (text : List ℕ) → SpellsVarint text value → Stands bytes at text end → varint_at bytes at ≡ Ok (value, end)
unfolding varint_at
varint_at_only bytes at value end text h s =
    ap (λ (bs : List ℕ). varint_here bytes at (varint 10 bs)) (front_of bytes at text end s)
    ∙ ap (λ v. varint_here bytes at v) (varint_again text s.rest value 10 h.varint h.few)
    ∙ rw (lt-ltb value (2 ^ 64) h.narrow, s.ends) refl

-- ---- signed numbers

pub zigzag-unzigzag : (n : ℕ) → zigzag (unzigzag n) ≡ n
zigzag-unzigzag n = elim (cases_eq (n % 2) 0) [
  | inl even ↦ rw (eq-eqb (n % 2) 0 even) (omega arith)
  | inr odd ↦ rw (ne_eqb (n % 2) 0 odd) (omega arith)
]

pub unzigzag-zigzag : (z : ℤ) → unzigzag (zigzag z) ≡ z
unzigzag-zigzag (pos n) =
    let even : 2 * n % 2 ≡ 0 = omega arith in
    let half : 2 * n / 2 ≡ n = omega arith in
    rw (eq-eqb (2 * n % 2) 0 even, half) refl
unzigzag-zigzag (negsuc n) =
    let odd : (2 * n + 1) % 2 ≡ 0 → ⊥ = λ e. omega arith in
    let half : (2 * n + 1) / 2 ≡ n = omega arith in
    rw (ne_eqb ((2 * n + 1) % 2) 0 odd, half) refl

pub number_found : (bytes : List ℕ) (at : ℕ) (value : ℤ) (end : ℕ) → at ≤ length bytes → number_at bytes at ≡ Ok (value, end)
    → (text : List ℕ) × SpellsNumber text value × Stands bytes at text end
unfolding number_at
number_found bytes at value end within e =
    let p = bind_ok (varint_at bytes at) (λ n. Ok (unzigzag n.0, n.1)) (value, end) e in
    let same = ok_inside (unzigzag p.0.0, p.0.1) (value, end) p.2 in
    let means : unzigzag p.0.0 ≡ value = ap (λ (k : ℤ × ℕ). k.0) same in
    let last : p.0.1 ≡ end = ap (λ (k : ℤ × ℕ). k.1) same in
    let found = varint_at_found bytes at p.0.0 p.0.1 within p.1 in
    let code : p.0.0 ≡ zigzag value = sym (zigzag-unzigzag p.0.0) ∙ ap zigzag means in
    (found.0, subst (λ k. SpellsVarint found.0 k) code found.1, subst (λ k. Stands bytes at found.0 k) last found.2)

pub number_only : (bytes : List ℕ) (at : ℕ) (value : ℤ) (end : ℕ) (text : List ℕ) → SpellsNumber text value → Stands bytes at text end
    → number_at bytes at ≡ Ok (value, end)
unfolding number_at
number_only bytes at value end text h s =
    bind_from (varint_at bytes at) (λ n. Ok (unzigzag n.0, n.1)) (zigzag value, end) (varint_at_only bytes at (zigzag value) end text h s)
    ∙ ap (λ (k : ℤ). Ok (k, end)) (unzigzag-zigzag value)

-- ---- sizes

pub size_found : (bytes : List ℕ) (at value end : ℕ) → at ≤ length bytes → size_at bytes at ≡ Ok (value, end)
    → (text : List ℕ) × SpellsSize text value × Stands bytes at text end
unfolding size_at
size_found bytes at value end within e =
    let p = bind_ok (varint_at bytes at) (λ n. cond (ltb n.0 (2 ^ 32)) (Ok n) (Err (faults.Long at))) (value, end) e in
    let q = holds_ok (ltb p.0.0 (2 ^ 32)) p.0 (faults.Long at) (value, end) p.2 in
    let found = varint_at_found bytes at value end within (p.1 ∙ ap Ok q.1) in
    let small : p.0.0 < 2 ^ 32 = ltb-true p.0.0 (2 ^ 32) q.0 in
    let same : p.0.0 ≡ value = ap (λ (k : ℕ × ℕ). k.0) q.1 in
    (found.0, record { varint = found.1; narrow = rw same at small }, found.2)

pub size_only : (bytes : List ℕ) (at value end : ℕ) (text : List ℕ) → SpellsSize text value → Stands bytes at text end → size_at bytes at ≡ Ok (value, end)
unfolding size_at
size_only bytes at value end text h s =
    bind_from (varint_at bytes at) (λ n. cond (ltb n.0 (2 ^ 32)) (Ok n) (Err (faults.Long at))) (value, end) (varint_at_only bytes at value end text h.varint s)
    ∙ rw (lt-ltb value (2 ^ 32) h.narrow) refl

-- ---- bytes and texts

pub binary_found : (bytes : List ℕ) (at : ℕ) (value : List ℕ) (end : ℕ) → at ≤ length bytes → binary_at bytes at ≡ Ok (value, end)
    → (text : List ℕ) × SpellsBinary text value × Stands bytes at text end
unfolding binary_at
binary_found bytes at value end within e =
    let p = bind_ok (size_at bytes at) (λ n. behind bytes n.1 n.0 >>= λ to. Ok (take n.0 (drop n.1 bytes), to)) (value, end) e in
    let q = bind_ok (behind bytes p.0.1 p.0.0) (λ to. Ok (take p.0.0 (drop p.0.1 bytes), to)) (value, end) p.2 in
    let same = ok_inside (take p.0.0 (drop p.0.1 bytes), q.0) (value, end) q.2 in
    let means : take p.0.0 (drop p.0.1 bytes) ≡ value = ap (λ (k : List ℕ × ℕ). k.0) same in
    let last : q.0 ≡ end = ap (λ (k : List ℕ × ℕ). k.1) same in
    let size = size_found bytes at p.0.0 p.0.1 within p.1 in
    let content = behind_found bytes p.0.1 p.0.0 q.0 q.1 in
    let counted : p.0.0 ≡ length value = sym content.0 ∙ ap length means in
    let stands : Stands bytes p.0.1 value end = subst (λ k. Stands bytes p.0.1 value k) last (subst (λ (bs : List ℕ). Stands bytes p.0.1 bs q.0) means content.1) in (
      size.0 ++ value,
      record { size = size.0; counted = subst (λ k. SpellsSize size.0 k) counted size.1; all = refl },
      stands_join bytes at p.0.1 end size.0 value size.2 stands,
    )

pub binary_only : (bytes : List ℕ) (at : ℕ) (value : List ℕ) (end : ℕ) (text : List ℕ) → SpellsBinary text value → Stands bytes at text end
    → binary_at bytes at ≡ Ok (value, end)
unfolding binary_at
binary_only bytes at value end text h s =
    let from = at + length h.size in
    let split : Stands bytes at (h.size ++ value) end = subst (λ (bs : List ℕ). Stands bytes at bs end) h.all s in
    let second : Stands bytes from value end = stands_second bytes at h.size value end split in
    let content : take (length value) (drop from bytes) ≡ value
    = ap (λ (bs : List ℕ). take (length value) bs) (front_of bytes from value end second) ∙ take_at value second.rest (length value) refl in
    bind_from (size_at bytes at) (λ n. behind bytes n.1 n.0 >>= λ to. Ok (take n.0 (drop n.1 bytes), to)) (length value, from)
    (size_only bytes at (length value) from h.size h.counted (stands_first bytes at h.size value end split))
    ∙ bind_from (behind bytes from (length value)) (λ to. Ok (take (length value) (drop from bytes), to)) end (behind_only bytes from (length value) end value refl second)
    ∙ ap (λ (bs : List ℕ). Ok (bs, end)) content
