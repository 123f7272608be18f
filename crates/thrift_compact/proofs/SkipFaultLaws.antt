-- Skipping fails exactly where there is a fault in what is passed over.
use Rattle.std.proofs.Common.{◌≡◌, ◌≢◌, ◌⊎◌, ℕ, zero, suc, ◌+◌, ◌/◌, ◌%◌, ◌<◌, ◌≤◌, Bool, true, false, cond, eqb, ltb, List, [], ◌∷◌, ◌++◌, length, refl, sym, ap, ◌∙◌, subst, arith, inl, inr, Result, Ok, Err}
use Rattle.std.specs.Prelude.{ℤ, pos}
use Rattle.std.proofs.lemmas.Bool.{cases_eq, cases_Bool, lt-ltb, ltb-true, eq-eqb, ne_eqb}
use Rattle.thrift_compact.specs.declared.fault.ThriftFault.{ThriftFault}
use Rattle.thrift_compact.specs.declared.fault.ThriftFault.TheVariants as faults
use Rattle.thrift_compact.specs.declared.wire.Wire.{Wire}
use Rattle.thrift_compact.specs.declared.wire.Wire.TheVariants as wires
use Rattle.thrift_compact.specs.declared.wire.Field.{Field}
use Rattle.thrift_compact.specs.declared.wire.Field.TheVariants as fields
use Rattle.row_base.specs.Faults.{◌>>=◌}
use Rattle.thrift_compact.specs.Values.{varint_at, size_at, binary_at, byte_at, behind, wire_of, known, field_at, list_at}
use Rattle.thrift_compact.specs.Skipped.{each_end, field_end, fields_end, is_container, plain_end, list_end, pairs_end, map_end, container_end, value_end}
use Rattle.thrift_compact.specs.Writing.{code_of}
use Rattle.thrift_compact.specs.Spelled.{SpellsField, SpellsSize, SpellsEach, SpellsPair, SpellsValue}
use Rattle.thrift_compact.specs.Laws.{Stands, NumberFault, BinaryFault, FieldFault, IsUnknown}
use Rattle.thrift_compact.specs.SkipFaults.{CutFault, PlainFault, EachFault, ElementsFault, head_fault, element_fault, PairFault, key_fault, value_fault, PairsFault, no_types, unknown_types, pair_fault, MapFault, size_fault, pairs_fault, FieldsFault, header_fault, inner_fault, later_fault, ContainerFault, ValueFault}
use Rattle.thrift_compact.proofs.Standing.{bind_from, size_of, stands_nothing, stands_first, stands_second, stands_join, byte_found, byte_only}
use Rattle.thrift_compact.proofs.ReadingLaws.{size_found, size_only}
use Rattle.thrift_compact.proofs.HeaderLaws.{known_found, known_only, list_found, list_only, field_found, field_only}
use Rattle.thrift_compact.proofs.FaultLaws.{fault_inside, bind_fault, varint_fault_found, varint_fault_only}
use Rattle.thrift_compact.proofs.HeaderFaults.{cases_fault, fault_from, short_fault, size_fault_found, size_fault_only, binary_fault_found, binary_fault_only, byte_fault_found, byte_past, known_fault_found, known_past, list_fault_found, list_fault_only, field_fault_found, field_fault_only}
use Rattle.thrift_compact.proofs.SkippingLaws.{Finds, Takes, pair_found, pair_taken, header_some, value_found, value_taken}

-- where passing over fails there is a fault
abbrev pub FailsAsSaid : List ℕ → (ℕ → Result ℕ ThriftFault) → (ℕ → ThriftFault → Type 0) → Type 0
FailsAsSaid bytes one fails = (at : ℕ) (fault : ThriftFault) → at ≤ length bytes → one at ≡ Err fault → fails at fault

-- where there is a fault passing over fails
abbrev pub FailsWhereSaid : List ℕ → (ℕ → Result ℕ ThriftFault) → (ℕ → ThriftFault → Type 0) → Type 0
FailsWhereSaid bytes one fails = (at : ℕ) (fault : ThriftFault) → at ≤ length bytes → fails at fault → one at ≡ Err fault

never : {A : Type 0} (x : A) (fault : ThriftFault) → ◌≡◌ {A = Result A ThriftFault} (Ok x) (Err fault) → ⊥
never x fault h = absurd cc

-- ---- values that hold no others

cut_found : (bytes : List ℕ) (count at : ℕ) (fault : ThriftFault) → behind bytes at count ≡ Err fault → CutFault bytes count at fault
cut_found bytes count at fault e =
    let q = short_fault (ltb (length bytes) (at + count)) (faults.Short (length bytes)) fault (at + count) e in
    (ltb-true (length bytes) (at + count) q.0, sym q.1)

cut_only : (bytes : List ℕ) (count at : ℕ) (fault : ThriftFault) → CutFault bytes count at fault → behind bytes at count ≡ Err fault
cut_only bytes count at fault h = rw (lt-ltb (length bytes) (at + count) h.0, h.1) refl

varint_fails : (bytes : List ℕ) (at : ℕ) (fault : ThriftFault) → at ≤ length bytes → (varint_at bytes at >>= λ n. Ok n.1) ≡ Err fault → NumberFault bytes at fault
varint_fails bytes at fault within e = varint_fault_found bytes at fault within (bind_fault (varint_at bytes at) (λ n. n.1) fault e)

varint_failed : (bytes : List ℕ) (at : ℕ) (fault : ThriftFault) → NumberFault bytes at fault → (varint_at bytes at >>= λ n. Ok n.1) ≡ Err fault
varint_failed bytes at fault h = fault_from (varint_at bytes at) (λ n. Ok n.1) fault (varint_fault_only bytes at fault h)

plain_fault_found : (bytes : List ℕ) (element : Bool) (wire : Wire) → is_container wire ≡ false → FailsAsSaid bytes (plain_end bytes element wire) (PlainFault bytes element wire)
plain_fault_found bytes true wires.True plain at fault within e = (refl, cut_found bytes 1 at fault e)
plain_fault_found bytes false wires.True plain at fault within e = absurd (never at fault e)
plain_fault_found bytes true wires.False plain at fault within e = (refl, cut_found bytes 1 at fault e)
plain_fault_found bytes false wires.False plain at fault within e = absurd (never at fault e)
plain_fault_found bytes element wires.Byte plain at fault within e = cut_found bytes 1 at fault e
plain_fault_found bytes element wires.I16 plain at fault within e = varint_fails bytes at fault within e
plain_fault_found bytes element wires.I32 plain at fault within e = varint_fails bytes at fault within e
plain_fault_found bytes element wires.I64 plain at fault within e = varint_fails bytes at fault within e
plain_fault_found bytes element wires.Double plain at fault within e = cut_found bytes 8 at fault e
plain_fault_found bytes element wires.Binary plain at fault within e = binary_fault_found bytes at fault within (bind_fault (binary_at bytes at) (λ n. n.1) fault e)
plain_fault_found bytes element wires.List plain at fault within e = absurd cc
plain_fault_found bytes element wires.Set plain at fault within e = absurd cc
plain_fault_found bytes element wires.Map plain at fault within e = absurd cc
plain_fault_found bytes element wires.Struct plain at fault within e = absurd cc

plain_fault_only : (bytes : List ℕ) (element : Bool) (wire : Wire) → FailsWhereSaid bytes (plain_end bytes element wire) (PlainFault bytes element wire)
plain_fault_only bytes true wires.True at fault within h = cut_only bytes 1 at fault h.1
plain_fault_only bytes false wires.True at fault within h = absurd cc
plain_fault_only bytes true wires.False at fault within h = cut_only bytes 1 at fault h.1
plain_fault_only bytes false wires.False at fault within h = absurd cc
plain_fault_only bytes element wires.Byte at fault within h = cut_only bytes 1 at fault h
plain_fault_only bytes element wires.I16 at fault within h = varint_failed bytes at fault h
plain_fault_only bytes element wires.I32 at fault within h = varint_failed bytes at fault h
plain_fault_only bytes element wires.I64 at fault within h = varint_failed bytes at fault h
plain_fault_only bytes element wires.Double at fault within h = cut_only bytes 8 at fault h
plain_fault_only bytes element wires.Binary at fault within h = fault_from (binary_at bytes at) (λ n. Ok n.1) fault (binary_fault_only bytes at fault h)
plain_fault_only bytes element wires.List at fault within h = absurd h
plain_fault_only bytes element wires.Set at fault within h = absurd h
plain_fault_only bytes element wires.Map at fault within h = absurd h
plain_fault_only bytes element wires.Struct at fault within h = absurd h

plain_fault_kind : (bytes : List ℕ) (element : Bool) (wire : Wire) (at : ℕ) (fault : ThriftFault) → PlainFault bytes element wire at fault → is_container wire ≡ false
plain_fault_kind bytes element wires.True at fault h = refl
plain_fault_kind bytes element wires.False at fault h = refl
plain_fault_kind bytes element wires.Byte at fault h = refl
plain_fault_kind bytes element wires.I16 at fault h = refl
plain_fault_kind bytes element wires.I32 at fault h = refl
plain_fault_kind bytes element wires.I64 at fault h = refl
plain_fault_kind bytes element wires.Double at fault h = refl
plain_fault_kind bytes element wires.Binary at fault h = refl
plain_fault_kind bytes element wires.List at fault h = absurd h
plain_fault_kind bytes element wires.Set at fault h = absurd h
plain_fault_kind bytes element wires.Map at fault h = absurd h
plain_fault_kind bytes element wires.Struct at fault h = absurd h

-- ---- values one behind the other

each_fault_found : (bytes : List ℕ) (one : ℕ → Result ℕ ThriftFault) (spells : List ℕ → Type 0) (fails : ℕ → ThriftFault → Type 0)
    → Finds bytes one spells → FailsAsSaid bytes one fails → (count : ℕ) → FailsAsSaid bytes (each_end one count) (EachFault bytes spells fails count)
unfolding each_end SpellsEach
each_fault_found bytes one spells fails finds found zero at fault within e = absurd (never at fault e)
each_fault_found bytes one spells fails finds found (suc count) at fault within e = elim (cases_fault (one at) (each_end one count) fault e) [
  | inl first ↦
      record {
        before = 0;
        front = [];
        from = at;
        fewer = omega arith;
        spelled = refl;
        stands = stands_nothing bytes at within;
        fails_there = found at fault within first;
      }
  | inr p ↦
      let here = finds at p.0 within p.1 in
      let rest = each_fault_found bytes one spells fails finds found count p.0 fault (size_of bytes at here.0 p.0 here.2).1 p.2 in
      let fewer : suc rest.before < suc count = omega (arith, rest.fewer) in
      record {
        before = suc rest.before;
        front = here.0 ++ rest.front;
        from = rest.from;
        fewer = fewer;
        spelled = (here.0, rest.front, here.1, rest.spelled, refl);
        stands = stands_join bytes at p.0 rest.from here.0 rest.front here.2 rest.stands;
        fails_there = rest.fails_there;
      }
]

each_fails : (bytes : List ℕ) (one : ℕ → Result ℕ ThriftFault) (spells : List ℕ → Type 0) (fails : ℕ → ThriftFault → Type 0)
    → Takes bytes one spells → FailsWhereSaid bytes one fails → (count before : ℕ) (front : List ℕ) (at from : ℕ) (fault : ThriftFault) → before < count
    → SpellsEach spells before front → Stands bytes at front from → fails from fault → each_end one count at ≡ Err fault
unfolding each_end SpellsEach
each_fails bytes one spells fails takes only zero before front at from fault fewer spelled s there = absurd (omega arith)
each_fails bytes one spells fails takes only (suc count) zero front at from fault fewer none s there =
    let same : from ≡ at = omega (arith, ap length none, s.ends) in
    let size = size_of bytes at front from s in
    fault_from (one at) (each_end one count) fault (only at fault (omega (arith, size.1, same)) (subst (λ k. fails k fault) same there))
each_fails bytes one spells fails takes only (suc count) (suc before) front at from fault fewer h s there =
    let first = h.0 in
    let others = h.1 in
    let middle = at + length first in
    let split : Stands bytes at (first ++ others) from = subst (λ (bs : List ℕ). Stands bytes at bs from) h.4 s in
    bind_from (one at) (each_end one count) middle (takes at middle first h.2 (stands_first bytes at first others from split))
    ∙ each_fails bytes one spells fails takes only count before others middle from fault (omega arith) h.3 (stands_second bytes at first others from split) there

each_fault_only : (bytes : List ℕ) (one : ℕ → Result ℕ ThriftFault) (spells : List ℕ → Type 0) (fails : ℕ → ThriftFault → Type 0)
    → Takes bytes one spells → FailsWhereSaid bytes one fails → (count : ℕ) → FailsWhereSaid bytes (each_end one count) (EachFault bytes spells fails count)
each_fault_only bytes one spells fails takes only count at fault within h =
    each_fails bytes one spells fails takes only count h.before h.front at h.from fault h.fewer h.spelled h.stands h.fails_there

-- ---- lists and sets

elements_fault_found : (bytes : List ℕ) (element : Wire → ℕ → Result ℕ ThriftFault) (spells : Wire → List ℕ → Type 0) (fails : Wire → ℕ → ThriftFault → Type 0)
    → ((wire : Wire) → Finds bytes (element wire) (spells wire)) → ((wire : Wire) → FailsAsSaid bytes (element wire) (fails wire))
    → FailsAsSaid bytes (list_end element bytes) (ElementsFault bytes spells fails)
elements_fault_found bytes element spells fails finds found at fault within e =
    elim (cases_fault (list_at bytes at) (λ head. each_end (element head.0.wire) head.0.count head.1) fault e) [
      | inl first ↦ head_fault (list_fault_found bytes at fault within first)
      | inr p ↦
          let head = list_found bytes at p.0.0 p.0.1 p.1 in
          let wire = p.0.0.wire in
          element_fault p.0.0 head.0 p.0.1 head.1 head.2
          (each_fault_found bytes (element wire) (spells wire) (fails wire) (finds wire) (found wire) p.0.0.count p.0.1 fault (size_of bytes at head.0 p.0.1 head.2).1 p.2)
    ]

elements_fault_only : (bytes : List ℕ) (element : Wire → ℕ → Result ℕ ThriftFault) (spells : Wire → List ℕ → Type 0) (fails : Wire → ℕ → ThriftFault → Type 0)
    → ((wire : Wire) → Takes bytes (element wire) (spells wire)) → ((wire : Wire) → FailsWhereSaid bytes (element wire) (fails wire))
    → FailsWhereSaid bytes (list_end element bytes) (ElementsFault bytes spells fails)
elements_fault_only bytes element spells fails takes only at fault within (head_fault h) =
    fault_from (list_at bytes at) (λ head. each_end (element head.0.wire) head.0.count head.1) fault (list_fault_only bytes at fault h)
elements_fault_only bytes element spells fails takes only at fault within (element_fault head front from spelled s each) =
    let wire = head.wire in
    bind_from (list_at bytes at) (λ k. each_end (element k.0.wire) k.0.count k.1) (head, from) (list_only bytes at head from front spelled s)
    ∙ each_fault_only bytes (element wire) (spells wire) (fails wire) (takes wire) (only wire) head.count from fault (size_of bytes at front from s).1 each

-- ---- maps

pair_fault_found : (bytes : List ℕ) (key value : ℕ → Result ℕ ThriftFault) (spells : List ℕ → Type 0) (key_fails value_fails : ℕ → ThriftFault → Type 0)
    → Finds bytes key spells → FailsAsSaid bytes key key_fails → FailsAsSaid bytes value value_fails
    → FailsAsSaid bytes (λ from. key from >>= value) (PairFault bytes spells key_fails value_fails)
pair_fault_found bytes key value spells key_fails value_fails finds keys values at fault within e = elim (cases_fault (key at) value fault e) [
  | inl first ↦ key_fault (keys at fault within first)
  | inr p ↦
      let k = finds at p.0 within p.1 in
      value_fault k.0 p.0 k.1 k.2 (values p.0 fault (size_of bytes at k.0 p.0 k.2).1 p.2)
]

pair_fault_only : (bytes : List ℕ) (key value : ℕ → Result ℕ ThriftFault) (spells : List ℕ → Type 0) (key_fails value_fails : ℕ → ThriftFault → Type 0)
    → Takes bytes key spells → FailsWhereSaid bytes key key_fails → FailsWhereSaid bytes value value_fails
    → FailsWhereSaid bytes (λ from. key from >>= value) (PairFault bytes spells key_fails value_fails)
pair_fault_only bytes key value spells key_fails value_fails takes keys values at fault within (key_fault h) = fault_from (key at) value fault (keys at fault within h)
pair_fault_only bytes key value spells key_fails value_fails takes keys values at fault within (value_fault front from spelled s h) =
    bind_from (key at) value from (takes at from front spelled s) ∙ values from fault (size_of bytes at front from s).1 h

pairs_fault_found : (bytes : List ℕ) (element : Wire → ℕ → Result ℕ ThriftFault) (spells : Wire → List ℕ → Type 0) (fails : Wire → ℕ → ThriftFault → Type 0)
    → ((wire : Wire) → Finds bytes (element wire) (spells wire)) → ((wire : Wire) → FailsAsSaid bytes (element wire) (fails wire))
    → (count : ℕ) → FailsAsSaid bytes (pairs_end element bytes count) (PairsFault bytes spells fails count)
pairs_fault_found bytes element spells fails finds found count at fault within e =
    elim (cases_fault (byte_at bytes at)
    (λ types. known (wire_of (types.0 / 16)) at >>= λ key. known (wire_of (types.0 % 16)) at >>= λ value.
    each_end (λ place. element key place >>= element value) count types.1) fault e) [
      | inl none ↦ let p = byte_fault_found bytes at fault within none in subst (λ f. PairsFault bytes spells fails count at f) p.1 (no_types p.0)
      | inr p ↦ typed p.0.0 p.0.1 (byte_found bytes at p.0.0 p.0.1 p.1) p.2
    ]
  where
    paired : (types from : ℕ) (key value : Wire) → Stands bytes at (types ∷ []) from → types / 16 ≡ code_of key → types % 16 ≡ code_of value
        → each_end (λ place. element key place >>= element value) count from ≡ Err fault → PairsFault bytes spells fails count at fault
    paired types from key value s first second h =
        pair_fault types from key value s first second
        (each_fault_found bytes (λ place. element key place >>= element value) (SpellsPair (spells key) (spells value))
        (PairFault bytes (spells key) (fails key) (fails value))
        (pair_found bytes (element key) (element value) (spells key) (spells value) (finds key) (finds value))
        (pair_fault_found bytes (element key) (element value) (spells key) (fails key) (fails value) (finds key) (found key) (found value))
        count from fault (size_of bytes at (types ∷ []) from s).1 h)

    typed : (types from : ℕ) → Stands bytes at (types ∷ []) from
        → (known (wire_of (types / 16)) at >>= λ key. known (wire_of (types % 16)) at >>= λ value. each_end (λ place. element key place >>= element value) count from) ≡ Err fault
        → PairsFault bytes spells fails count at fault
    typed types from s h =
        elim (cases_fault (known (wire_of (types / 16)) at)
        (λ key. known (wire_of (types % 16)) at >>= λ value. each_end (λ place. element key place >>= element value) count from) fault h) [
          | inl none ↦
              let q = known_fault_found (types / 16) at fault none in
              subst (λ f. PairsFault bytes spells fails count at f) q.1 (unknown_types types from s (inl q.0))
          | inr k ↦
              elim (cases_fault (known (wire_of (types % 16)) at) (λ value. each_end (λ place. element k.0 place >>= element value) count from) fault k.2) [
                | inl none ↦
                    let q = known_fault_found (types % 16) at fault none in
                    subst (λ f. PairsFault bytes spells fails count at f) q.1 (unknown_types types from s (inr q.0))
                | inr v ↦ paired types from k.0 v.0 s (known_found (types / 16) at k.0 k.1) (known_found (types % 16) at v.0 v.1) v.2
              ]
        ]

pairs_fault_only : (bytes : List ℕ) (element : Wire → ℕ → Result ℕ ThriftFault) (spells : Wire → List ℕ → Type 0) (fails : Wire → ℕ → ThriftFault → Type 0)
    → ((wire : Wire) → Takes bytes (element wire) (spells wire)) → ((wire : Wire) → FailsWhereSaid bytes (element wire) (fails wire))
    → (count : ℕ) → FailsWhereSaid bytes (pairs_end element bytes count) (PairsFault bytes spells fails count)
pairs_fault_only bytes element spells fails takes only count at fault within (no_types past) =
    fault_from (byte_at bytes at)
    (λ types. known (wire_of (types.0 / 16)) at >>= λ key. known (wire_of (types.0 % 16)) at >>= λ value.
    each_end (λ place. element key place >>= element value) count types.1)
    fault (byte_past bytes at past)
pairs_fault_only bytes element spells fails takes only count at fault within (unknown_types types from s (inl none)) =
    bind_from (byte_at bytes at)
    (λ k. known (wire_of (k.0 / 16)) at >>= λ key. known (wire_of (k.0 % 16)) at >>= λ value. each_end (λ place. element key place >>= element value) count k.1)
    (types, from) (byte_only bytes at types from s)
    ∙ fault_from (known (wire_of (types / 16)) at)
    (λ key. known (wire_of (types % 16)) at >>= λ value. each_end (λ place. element key place >>= element value) count from) fault (known_past (types / 16) at none)
pairs_fault_only bytes element spells fails takes only count at fault within (unknown_types types from s (inr none)) =
    bind_from (byte_at bytes at)
    (λ k. known (wire_of (k.0 / 16)) at >>= λ key. known (wire_of (k.0 % 16)) at >>= λ value. each_end (λ place. element key place >>= element value) count k.1)
    (types, from) (byte_only bytes at types from s)
    ∙ second (known (wire_of (types / 16)) at) refl
  where
    unknown_second : (key : Wire)
        → (known (wire_of (types % 16)) at >>= λ value. each_end (λ place. element key place >>= element value) count from) ≡ Err (faults.Wire at)
    unknown_second key =
        fault_from (known (wire_of (types % 16)) at) (λ value. each_end (λ place. element key place >>= element value) count from) (faults.Wire at) (known_past (types % 16) at none)

    second : (r : Result Wire ThriftFault) → known (wire_of (types / 16)) at ≡ r
        → (r >>= λ key. known (wire_of (types % 16)) at >>= λ value. each_end (λ place. element key place >>= element value) count from) ≡ Err (faults.Wire at)
    second (Ok key) e = unknown_second key
    second (Err d) e = ap Err (sym (known_fault_found (types / 16) at d e).1)
pairs_fault_only bytes element spells fails takes only count at fault within (pair_fault types from key value s first second each) =
    bind_from (byte_at bytes at)
    (λ k. known (wire_of (k.0 / 16)) at >>= λ a. known (wire_of (k.0 % 16)) at >>= λ b. each_end (λ place. element a place >>= element b) count k.1)
    (types, from) (byte_only bytes at types from s)
    ∙ bind_from (known (wire_of (types / 16)) at)
    (λ a. known (wire_of (types % 16)) at >>= λ b. each_end (λ place. element a place >>= element b) count from) key (known_only (types / 16) at key first)
    ∙ bind_from (known (wire_of (types % 16)) at) (λ b. each_end (λ place. element key place >>= element b) count from) value (known_only (types % 16) at value second)
    ∙ each_fault_only bytes (λ place. element key place >>= element value) (SpellsPair (spells key) (spells value)) (PairFault bytes (spells key) (fails key) (fails value))
    (pair_taken bytes (element key) (element value) (spells key) (spells value) (takes key) (takes value))
    (pair_fault_only bytes (element key) (element value) (spells key) (fails key) (fails value) (takes key) (only key) (only value))
    count from fault (size_of bytes at (types ∷ []) from s).1 each

map_fault_found : (bytes : List ℕ) (element : Wire → ℕ → Result ℕ ThriftFault) (spells : Wire → List ℕ → Type 0) (fails : Wire → ℕ → ThriftFault → Type 0)
    → ((wire : Wire) → Finds bytes (element wire) (spells wire)) → ((wire : Wire) → FailsAsSaid bytes (element wire) (fails wire))
    → FailsAsSaid bytes (map_end element bytes) (MapFault bytes spells fails)
map_fault_found bytes element spells fails finds found at fault within e =
    elim (cases_fault (size_at bytes at) (λ size. cond (eqb size.0 0) (Ok size.1) (pairs_end element bytes size.0 size.1)) fault e) [
      | inl first ↦ size_fault (size_fault_found bytes at fault within first)
      | inr p ↦ behind_size p.0.0 p.0.1 (size_found bytes at p.0.0 p.0.1 within p.1) p.2
    ]
  where
    behind_size : (count from : ℕ) → ((text : List ℕ) × SpellsSize text count × Stands bytes at text from)
        → cond (eqb count 0) (Ok from) (pairs_end element bytes count from) ≡ Err fault → MapFault bytes spells fails at fault
    behind_size count from size h = elim (cases_eq count 0) [
      | inl none ↦ absurd (never from fault (rw (eq-eqb count 0 none) at h))
      | inr more ↦
          pairs_fault count size.0 from more size.1 size.2
          (pairs_fault_found bytes element spells fails finds found count from fault (size_of bytes at size.0 from size.2).1 (rw (ne_eqb count 0 more) at h))
    ]

map_fault_only : (bytes : List ℕ) (element : Wire → ℕ → Result ℕ ThriftFault) (spells : Wire → List ℕ → Type 0) (fails : Wire → ℕ → ThriftFault → Type 0)
    → ((wire : Wire) → Takes bytes (element wire) (spells wire)) → ((wire : Wire) → FailsWhereSaid bytes (element wire) (fails wire))
    → FailsWhereSaid bytes (map_end element bytes) (MapFault bytes spells fails)
map_fault_only bytes element spells fails takes only at fault within (size_fault h) =
    fault_from (size_at bytes at) (λ size. cond (eqb size.0 0) (Ok size.1) (pairs_end element bytes size.0 size.1)) fault (size_fault_only bytes at fault h)
map_fault_only bytes element spells fails takes only at fault within (pairs_fault count size from more sized s h) =
    bind_from (size_at bytes at) (λ k. cond (eqb k.0 0) (Ok k.1) (pairs_end element bytes k.0 k.1)) (count, from) (size_only bytes at count from size sized s)
    ∙ rw (ne_eqb count 0 more)
    (pairs_fault_only bytes element spells fails takes only count from fault (size_of bytes at size from s).1 h)

-- ---- structs

-- what follows a header: the value of a field, and more fields
rest_fault_found : (bytes : List ℕ) (value : Wire → ℕ → Result ℕ ThriftFault) (spells : Wire → List ℕ → Type 0) (fails : Wire → ℕ → ThriftFault → Type 0)
    → ((wire : Wire) → Finds bytes (value wire) (spells wire)) → ((wire : Wire) → FailsAsSaid bytes (value wire) (fails wire))
    → (others : ℤ → ℕ → Result ℕ ThriftFault) (most at : ℕ) (fault : ThriftFault) → length bytes < at + suc most
    → ((id : ℤ) (to : ℕ) → to ≤ length bytes → length bytes < to + most → others id to ≡ Err fault → FieldsFault bytes spells fails fault id to)
    → (last : ℤ) (field : Field) (from : ℕ) (head : List ℕ) → SpellsField last head field → Stands bytes at head from
    → field_end value others field from ≡ Err fault → FieldsFault bytes spells fails fault last at
rest_fault_found bytes value spells fails finds found others most at fault enough after last fields.Stop from head spelled s h = absurd (never from fault h)
rest_fault_found bytes value spells fails finds found others most at fault enough after last (fields.Next id wire) from head spelled s h =
    let size = size_of bytes at head from s in
    let some = header_some last id wire head spelled.0 in
    elim (cases_fault (value wire from) (others id) fault h) [
      | inl first ↦ inner_fault id wire head from spelled s (found wire from fault size.1 first)
      | inr p ↦
          let inner = finds wire from p.0 size.1 p.1 in
          let end = size_of bytes from inner.0 p.0 inner.2 in
          later_fault id wire head inner.0 from p.0 spelled s inner.1 inner.2 (after id p.0 end.1 (omega (arith, enough, size.0, end.0, some)) p.2)
    ]

fields_fault_found : (bytes : List ℕ) (value : Wire → ℕ → Result ℕ ThriftFault) (spells : Wire → List ℕ → Type 0) (fails : Wire → ℕ → ThriftFault → Type 0)
    → ((wire : Wire) → Finds bytes (value wire) (spells wire)) → ((wire : Wire) → FailsAsSaid bytes (value wire) (fails wire))
    → (fault : ThriftFault) (most : ℕ) (last : ℤ) (at : ℕ) → at ≤ length bytes → length bytes < at + most
    → fields_end value bytes most last at ≡ Err fault → FieldsFault bytes spells fails fault last at
unfolding fields_end
fields_fault_found bytes value spells fails finds found fault zero last at within enough e = absurd (omega arith)
fields_fault_found bytes value spells fails finds found fault (suc most) last at within enough e =
    elim (cases_fault (field_at bytes last at) (λ field. field_end value (fields_end value bytes most) field.0 field.1) fault e) [
      | inl first ↦ header_fault (field_fault_found bytes last at fault within first)
      | inr p ↦
          let head = field_found bytes last at p.0.0 p.0.1 p.1 in
          rest_fault_found bytes value spells fails finds found (fields_end value bytes most) most at fault enough
          (λ id to. fields_fault_found bytes value spells fails finds found fault most id to) last p.0.0 p.0.1 head.0 head.1 head.2 p.2
    ]

fields_fault_only : (bytes : List ℕ) (value : Wire → ℕ → Result ℕ ThriftFault) (spells : Wire → List ℕ → Type 0) (fails : Wire → ℕ → ThriftFault → Type 0)
    → ((wire : Wire) → Takes bytes (value wire) (spells wire)) → ((wire : Wire) → FailsWhereSaid bytes (value wire) (fails wire))
    → (most : ℕ) (last : ℤ) (at : ℕ) (fault : ThriftFault) → at ≤ length bytes → length bytes < at + most
    → FieldsFault bytes spells fails fault last at → fields_end value bytes most last at ≡ Err fault
unfolding fields_end
fields_fault_only bytes value spells fails takes only zero last at fault within enough h = absurd (omega arith)
fields_fault_only bytes value spells fails takes only (suc most) last at fault within enough (header_fault h) =
    fault_from (field_at bytes last at) (λ field. field_end value (fields_end value bytes most) field.0 field.1) fault (field_fault_only bytes last at fault h)
fields_fault_only bytes value spells fails takes only (suc most) last at fault within enough (inner_fault id wire head from spelled s h) =
    bind_from (field_at bytes last at) (λ field. field_end value (fields_end value bytes most) field.0 field.1) (fields.Next id wire, from)
    (field_only bytes last at (fields.Next id wire) from head spelled s)
    ∙ fault_from (value wire from) (fields_end value bytes most id) fault (only wire from fault (size_of bytes at head from s).1 h)
fields_fault_only bytes value spells fails takes only (suc most) last at fault within enough (later_fault id wire head inner from to spelled s inside t h) =
    let size = size_of bytes at head from s in
    let end = size_of bytes from inner to t in
    let some = header_some last id wire head spelled.0 in
    bind_from (field_at bytes last at) (λ field. field_end value (fields_end value bytes most) field.0 field.1) (fields.Next id wire, from)
    (field_only bytes last at (fields.Next id wire) from head spelled s)
    ∙ bind_from (value wire from) (fields_end value bytes most id) to (takes wire from to inner inside t)
    ∙ fields_fault_only bytes value spells fails takes only most id to fault end.1 (omega (arith, enough, size.0, end.0, some)) h

-- ---- values that hold others

container_fault_found : (bytes : List ℕ) (inner : Bool → Wire → ℕ → Result ℕ ThriftFault) (spells : Bool → Wire → List ℕ → Type 0) (fails : Bool → Wire → ℕ → ThriftFault → Type 0)
    → ((element : Bool) (wire : Wire) → Finds bytes (inner element wire) (spells element wire))
    → ((element : Bool) (wire : Wire) → FailsAsSaid bytes (inner element wire) (fails element wire))
    → (wire : Wire) → is_container wire ≡ true → FailsAsSaid bytes (container_end inner bytes wire) (ContainerFault bytes spells fails wire)
container_fault_found bytes inner spells fails finds found wires.True holds at fault within e = absurd cc
container_fault_found bytes inner spells fails finds found wires.False holds at fault within e = absurd cc
container_fault_found bytes inner spells fails finds found wires.Byte holds at fault within e = absurd cc
container_fault_found bytes inner spells fails finds found wires.I16 holds at fault within e = absurd cc
container_fault_found bytes inner spells fails finds found wires.I32 holds at fault within e = absurd cc
container_fault_found bytes inner spells fails finds found wires.I64 holds at fault within e = absurd cc
container_fault_found bytes inner spells fails finds found wires.Double holds at fault within e = absurd cc
container_fault_found bytes inner spells fails finds found wires.Binary holds at fault within e = absurd cc
container_fault_found bytes inner spells fails finds found wires.List holds at fault within e =
    elements_fault_found bytes (inner true) (spells true) (fails true) (finds true) (found true) at fault within e
container_fault_found bytes inner spells fails finds found wires.Set holds at fault within e =
    elements_fault_found bytes (inner true) (spells true) (fails true) (finds true) (found true) at fault within e
container_fault_found bytes inner spells fails finds found wires.Map holds at fault within e =
    map_fault_found bytes (inner true) (spells true) (fails true) (finds true) (found true) at fault within e
container_fault_found bytes inner spells fails finds found wires.Struct holds at fault within e =
    fields_fault_found bytes (inner false) (spells false) (fails false) (finds false) (found false) fault (suc (length bytes)) (pos 0) at within (omega arith) e

container_fault_only : (bytes : List ℕ) (inner : Bool → Wire → ℕ → Result ℕ ThriftFault) (spells : Bool → Wire → List ℕ → Type 0) (fails : Bool → Wire → ℕ → ThriftFault → Type 0)
    → ((element : Bool) (wire : Wire) → Takes bytes (inner element wire) (spells element wire))
    → ((element : Bool) (wire : Wire) → FailsWhereSaid bytes (inner element wire) (fails element wire))
    → (wire : Wire) → FailsWhereSaid bytes (container_end inner bytes wire) (ContainerFault bytes spells fails wire)
container_fault_only bytes inner spells fails takes only wires.True at fault within h = absurd h
container_fault_only bytes inner spells fails takes only wires.False at fault within h = absurd h
container_fault_only bytes inner spells fails takes only wires.Byte at fault within h = absurd h
container_fault_only bytes inner spells fails takes only wires.I16 at fault within h = absurd h
container_fault_only bytes inner spells fails takes only wires.I32 at fault within h = absurd h
container_fault_only bytes inner spells fails takes only wires.I64 at fault within h = absurd h
container_fault_only bytes inner spells fails takes only wires.Double at fault within h = absurd h
container_fault_only bytes inner spells fails takes only wires.Binary at fault within h = absurd h
container_fault_only bytes inner spells fails takes only wires.List at fault within h =
    elements_fault_only bytes (inner true) (spells true) (fails true) (takes true) (only true) at fault within h
container_fault_only bytes inner spells fails takes only wires.Set at fault within h =
    elements_fault_only bytes (inner true) (spells true) (fails true) (takes true) (only true) at fault within h
container_fault_only bytes inner spells fails takes only wires.Map at fault within h =
    map_fault_only bytes (inner true) (spells true) (fails true) (takes true) (only true) at fault within h
container_fault_only bytes inner spells fails takes only wires.Struct at fault within h =
    fields_fault_only bytes (inner false) (spells false) (fails false) (takes false) (only false) (suc (length bytes)) (pos 0) at fault within (omega arith) h

container_fault_kind : (bytes : List ℕ) (spells : Bool → Wire → List ℕ → Type 0) (fails : Bool → Wire → ℕ → ThriftFault → Type 0) (wire : Wire) (at : ℕ) (fault : ThriftFault)
    → ContainerFault bytes spells fails wire at fault → is_container wire ≡ true
container_fault_kind bytes spells fails wires.True at fault h = absurd h
container_fault_kind bytes spells fails wires.False at fault h = absurd h
container_fault_kind bytes spells fails wires.Byte at fault h = absurd h
container_fault_kind bytes spells fails wires.I16 at fault h = absurd h
container_fault_kind bytes spells fails wires.I32 at fault h = absurd h
container_fault_kind bytes spells fails wires.I64 at fault h = absurd h
container_fault_kind bytes spells fails wires.Double at fault h = absurd h
container_fault_kind bytes spells fails wires.Binary at fault h = absurd h
container_fault_kind bytes spells fails wires.List at fault h = refl
container_fault_kind bytes spells fails wires.Set at fault h = refl
container_fault_kind bytes spells fails wires.Map at fault h = refl
container_fault_kind bytes spells fails wires.Struct at fault h = refl

value_fault_found : (levels : ℕ) (bytes : List ℕ) (element : Bool) (wire : Wire) → FailsAsSaid bytes (value_end levels bytes element wire) (ValueFault levels bytes element wire)
unfolding value_end ValueFault
value_fault_found zero bytes element wire at fault within e = elim (cases_Bool (is_container wire)) [
  | inl holds ↦ inr (holds, sym (fault_inside {A = ℕ} (faults.Deep at) fault (rw holds at e)))
  | inr plain ↦ inl (plain_fault_found bytes element wire plain at fault within (rw plain at e))
]
value_fault_found (suc levels) bytes element wire at fault within e = elim (cases_Bool (is_container wire)) [
  | inl holds ↦
      inr (container_fault_found bytes (value_end levels bytes) (SpellsValue levels) (ValueFault levels bytes) (λ inner kind. value_found levels bytes inner kind)
      (λ inner kind. value_fault_found levels bytes inner kind) wire holds at fault within (rw holds at e))
  | inr plain ↦ inl (plain_fault_found bytes element wire plain at fault within (rw plain at e))
]

value_fault_only : (levels : ℕ) (bytes : List ℕ) (element : Bool) (wire : Wire) → FailsWhereSaid bytes (value_end levels bytes element wire) (ValueFault levels bytes element wire)
unfolding value_end ValueFault
value_fault_only zero bytes element wire at fault within (inl h) = rw (plain_fault_kind bytes element wire at fault h) (plain_fault_only bytes element wire at fault within h)
value_fault_only zero bytes element wire at fault within (inr h) = rw (h.0, h.1) refl
value_fault_only (suc levels) bytes element wire at fault within (inl h) = rw (plain_fault_kind bytes element wire at fault h) (plain_fault_only bytes element wire at fault within h)
value_fault_only (suc levels) bytes element wire at fault within (inr h) =
    rw (container_fault_kind bytes (SpellsValue levels) (ValueFault levels bytes) wire at fault h)
    (container_fault_only bytes (value_end levels bytes) (SpellsValue levels) (ValueFault levels bytes) (λ inner kind. value_taken levels bytes inner kind)
    (λ inner kind. value_fault_only levels bytes inner kind) wire at fault within h)

pub skip_fault_found : (levels : ℕ) (bytes : List ℕ) (wire : Wire) (at : ℕ) (fault : ThriftFault) → at ≤ length bytes
    → ◌>>=◌ {B = Unit {0} × ℕ} (value_end levels bytes false wire at) (λ to. Ok (tt, to)) ≡ Err fault → ValueFault levels bytes false wire at fault
skip_fault_found levels bytes wire at fault within e =
    value_fault_found levels bytes false wire at fault within (bind_fault {B = Unit {0} × ℕ} (value_end levels bytes false wire at) (λ to. (tt, to)) fault e)

pub skip_fault_only : (levels : ℕ) (bytes : List ℕ) (wire : Wire) (at : ℕ) (fault : ThriftFault) → at ≤ length bytes → ValueFault levels bytes false wire at fault
    → ◌>>=◌ {B = Unit {0} × ℕ} (value_end levels bytes false wire at) (λ to. Ok (tt, to)) ≡ Err fault
skip_fault_only levels bytes wire at fault within h =
    fault_from {B = Unit {0} × ℕ} (value_end levels bytes false wire at) (λ to. Ok (tt, to)) fault (value_fault_only levels bytes false wire at fault within h)
