-- Sizes, bytes and headers fail exactly where none stands.
use Rattle.std.proofs.Common.{◌≡◌, ◌⊎◌, ℕ, ◌+◌, ◌/◌, ◌%◌, ◌^◌, ◌≤◌, Bool, true, false, cond, eqb, ltb, List, [], ◌∷◌, length, take, drop, get_or, refl, sym, ap, ◌∙◌, subst, arith, inl, inr, Result, Ok, Err, Option, Some, None}
use Rattle.std.specs.Prelude.{ℤ, pos, ◌+ℤ◌}
use Rattle.std.proofs.lemmas.Bool.{cases_lt, cases_eq, lt-ltb, le-ltb, ltb-true, ltb-false, eq-eqb, ne_eqb}
use Rattle.thrift_compact.specs.declared.fault.ThriftFault.{ThriftFault}
use Rattle.thrift_compact.specs.declared.fault.ThriftFault.TheVariants as faults
use Rattle.thrift_compact.specs.declared.wire.Wire.{Wire}
use Rattle.thrift_compact.specs.declared.wire.Field.{Field}
use Rattle.thrift_compact.specs.declared.wire.Field.TheVariants as fields
use Rattle.thrift_compact.specs.declared.wire.ListHead.{ListHead}
use Rattle.row_base.specs.Faults.{◌>>=◌}
use Rattle.thrift_compact.specs.Values.{varint_at, size_at, number_at, behind, binary_at, byte_at, wire_of, known, fits_16, field_here, field_at, list_at}
use Rattle.thrift_compact.specs.Writing.{code_of}
use Rattle.thrift_compact.specs.Laws.{Stands, SizeFault, varint, large, BinaryFault, length_fault, content, IsUnknown, ListFault, FieldFault, past, unknown, sized, numbered, large_id, large_sum}
use Rattle.thrift_compact.proofs.Standing.{bind_from, size_of, byte_found, byte_only}
use Rattle.thrift_compact.proofs.ReadingLaws.{varint_at_found, varint_at_only, number_found, number_only, size_found, size_only}
use Rattle.thrift_compact.proofs.HeaderLaws.{code_small, wire_found, wire_again, known_found, list_rest, list_begins, field_rest, field_begins}
use Rattle.thrift_compact.proofs.FaultLaws.{fault_inside, narrow_fault, varint_fault_found, varint_fault_only, number_fault_found, number_fault_only}

-- ---- steps

-- a chain fails at its first call, or behind it
pub cases_fault : {A B : Type 0} (r : Result A ThriftFault) (f : A → Result B ThriftFault) (e : ThriftFault) → (r >>= f) ≡ Err e
    → (r ≡ Err e) ⊎ ((x : A) × (r ≡ Ok x) × (f x ≡ Err e))
cases_fault (Ok x) f e h = inr (x, refl, h)
cases_fault (Err d) f e h = inl (ap Err (fault_inside d e h))

pub fault_from : {A B : Type 0} (r : Result A ThriftFault) (f : A → Result B ThriftFault) (e : ThriftFault) → r ≡ Err e → (r >>= f) ≡ Err e
fault_from r f e h = rw h refl

pub short_fault : {A : Type 0} (b : Bool) (d e : ThriftFault) (x : A) → cond b (Err d) (Ok x) ≡ Err e → (b ≡ true) × (d ≡ e)
short_fault true d e x h = (refl, fault_inside d e h)
short_fault false d e x h = absurd cc

-- ---- sizes and bytes

pub size_fault_found : (bytes : List ℕ) (at : ℕ) (fault : ThriftFault) → at ≤ length bytes → size_at bytes at ≡ Err fault → SizeFault bytes at fault
unfolding size_at
size_fault_found bytes at fault within e =
    elim (cases_fault (varint_at bytes at) (λ n. cond (ltb n.0 (2 ^ 32)) (Ok n) (Err (faults.Long at))) fault e) [
      | inl first ↦ varint (varint_fault_found bytes at fault within first)
      | inr p ↦
          let q = narrow_fault (ltb p.0.0 (2 ^ 32)) p.0 (faults.Long at) fault p.2 in
          let found = varint_at_found bytes at p.0.0 p.0.1 within p.1 in
          subst (λ f. SizeFault bytes at f) q.1 (large found.0 p.0.1 p.0.0 found.1 (ltb-false p.0.0 (2 ^ 32) q.0) found.2)
    ]

pub size_fault_only : (bytes : List ℕ) (at : ℕ) (fault : ThriftFault) → SizeFault bytes at fault → size_at bytes at ≡ Err fault
unfolding size_at
size_fault_only bytes at fault (varint h) =
    fault_from (varint_at bytes at) (λ n. cond (ltb n.0 (2 ^ 32)) (Ok n) (Err (faults.Long at))) fault (varint_fault_only bytes at fault h)
size_fault_only bytes at fault (large text end size spelled wide s) =
    bind_from (varint_at bytes at) (λ n. cond (ltb n.0 (2 ^ 32)) (Ok n) (Err (faults.Long at))) (size, end) (varint_at_only bytes at size end text spelled s)
    ∙ rw (le-ltb size (2 ^ 32) wide) refl

pub binary_fault_found : (bytes : List ℕ) (at : ℕ) (fault : ThriftFault) → at ≤ length bytes → binary_at bytes at ≡ Err fault → BinaryFault bytes at fault
unfolding binary_at
binary_fault_found bytes at fault within e =
    elim (cases_fault (size_at bytes at) (λ n. behind bytes n.1 n.0 >>= λ to. Ok (take n.0 (drop n.1 bytes), to)) fault e) [
      | inl first ↦ length_fault (size_fault_found bytes at fault within first)
      | inr p ↦
          let size = size_found bytes at p.0.0 p.0.1 within p.1 in
          elim (cases_fault (behind bytes p.0.1 p.0.0) (λ to. Ok (take p.0.0 (drop p.0.1 bytes), to)) fault p.2) [
            | inl second ↦
                let q = short_fault (ltb (length bytes) (p.0.1 + p.0.0)) (faults.Short (length bytes)) fault (p.0.1 + p.0.0) second in
                subst (λ f. BinaryFault bytes at f) q.1 (content size.0 p.0.1 p.0.0 size.1 size.2 (ltb-true (length bytes) (p.0.1 + p.0.0) q.0))
            | inr q ↦ absurd (never q.0 q.2)
          ]
    ]
  where
    never : {A : Type 0} (x : ℕ) {y : A} → ◌≡◌ {A = Result A ThriftFault} (Ok y) (Err fault) → ⊥
    never x h = absurd cc

pub binary_fault_only : (bytes : List ℕ) (at : ℕ) (fault : ThriftFault) → BinaryFault bytes at fault → binary_at bytes at ≡ Err fault
unfolding binary_at
binary_fault_only bytes at fault (length_fault h) =
    fault_from (size_at bytes at) (λ n. behind bytes n.1 n.0 >>= λ to. Ok (take n.0 (drop n.1 bytes), to)) fault (size_fault_only bytes at fault h)
binary_fault_only bytes at fault (content text from size spelled s few) =
    bind_from (size_at bytes at) (λ n. behind bytes n.1 n.0 >>= λ to. Ok (take n.0 (drop n.1 bytes), to)) (size, from) (size_only bytes at size from text spelled s)
    ∙ rw (lt-ltb (length bytes) (from + size) few) refl

-- ---- single bytes and wire types

pub byte_fault_found : (bytes : List ℕ) (at : ℕ) (fault : ThriftFault) → at ≤ length bytes → byte_at bytes at ≡ Err fault
    → (at ≡ length bytes) × (faults.Short (length bytes) ≡ fault)
unfolding byte_at
byte_fault_found bytes at fault within e = elim (cases_fault (behind bytes at 1) (λ to. Ok (get_or bytes at 0, to)) fault e) [
  | inl first ↦
      let q = short_fault (ltb (length bytes) (at + 1)) (faults.Short (length bytes)) fault (at + 1) first in
      let few = ltb-true (length bytes) (at + 1) q.0 in
      (omega arith, q.1)
  | inr p ↦ absurd (never p.2)
]
  where
    never : {A : Type 0} {y : A} → ◌≡◌ {A = Result A ThriftFault} (Ok y) (Err fault) → ⊥
    never h = absurd cc

pub byte_past : (bytes : List ℕ) (at : ℕ) → at ≡ length bytes → byte_at bytes at ≡ Err (faults.Short (length bytes))
unfolding byte_at
byte_past bytes at e = rw (lt-ltb (length bytes) (at + 1) (omega arith)) refl

pub known_fault_found : (code at : ℕ) (fault : ThriftFault) → known (wire_of code) at ≡ Err fault → IsUnknown code × (faults.Wire at ≡ fault)
known_fault_found code at fault e = inside (wire_of code) refl e
  where
    apart : (wire : Wire) → ◌≡◌ {A = Option Wire} (Some wire) None → ⊥
    apart wire h = absurd cc

    inside : (o : Option Wire) → wire_of code ≡ o → known o at ≡ Err fault → IsUnknown code × (faults.Wire at ≡ fault)
    inside (Some w) is h = absurd cc
    inside None is h = (λ wire same. absurd (apart wire (sym (ap wire_of same ∙ wire_again wire) ∙ is)), fault_inside (faults.Wire at) fault h)

pub known_past : (code at : ℕ) → IsUnknown code → known (wire_of code) at ≡ Err (faults.Wire at)
known_past code at none = inside (wire_of code) refl
  where
    inside : (o : Option Wire) → wire_of code ≡ o → known o at ≡ Err (faults.Wire at)
    inside (Some w) is = absurd (none w (wire_found code w is))
    inside None is = refl

-- ---- lists

list_rest_fault : (bytes : List ℕ) (at byte from : ℕ) (wire : Wire) (fault : ThriftFault) → Stands bytes at (byte ∷ []) from → byte % 16 ≡ code_of wire
    → list_rest bytes byte from wire ≡ Err fault → ListFault bytes at fault
list_rest_fault bytes at byte from wire fault stands typed e = elim (cases_eq (byte / 16) 15) [
  | inl full ↦
      elim (cases_fault (size_at bytes from) (λ size. Ok (record { wire = wire; count = size.0 }, size.1)) fault (rw (eq-eqb (byte / 16) 15 full) at e)) [
        | inl first ↦ sized byte from wire stands typed full (size_fault_found bytes from fault (size_of bytes at (byte ∷ []) from stands).1 first)
        | inr p ↦ absurd (never (record { wire = wire; count = p.0.0 }, p.0.1) p.2)
      ]
  | inr few ↦ absurd (never (record { wire = wire; count = byte / 16 }, from) (rw (ne_eqb (byte / 16) 15 few) at e))
]
  where
    never : (y : ListHead × ℕ) → ◌≡◌ {A = Result (ListHead × ℕ) ThriftFault} (Ok y) (Err fault) → ⊥
    never y h = absurd cc

pub list_fault_found : (bytes : List ℕ) (at : ℕ) (fault : ThriftFault) → at ≤ length bytes → list_at bytes at ≡ Err fault → ListFault bytes at fault
unfolding list_at
list_fault_found bytes at fault within e =
    elim (cases_fault (byte_at bytes at) (λ head. known (wire_of (head.0 % 16)) at >>= λ wire. list_rest bytes head.0 head.1 wire) fault e) [
      | inl first ↦ let p = byte_fault_found bytes at fault within first in subst (λ f. ListFault bytes at f) p.1 (past p.0)
      | inr p ↦
          let stands = byte_found bytes at p.0.0 p.0.1 p.1 in
          elim (cases_fault (known (wire_of (p.0.0 % 16)) at) (λ wire. list_rest bytes p.0.0 p.0.1 wire) fault p.2) [
            | inl second ↦
                let q = known_fault_found (p.0.0 % 16) at fault second in
                subst (λ f. ListFault bytes at f) q.1 (unknown p.0.0 p.0.1 stands q.0)
            | inr q ↦ list_rest_fault bytes at p.0.0 p.0.1 q.0 fault stands (known_found (p.0.0 % 16) at q.0 q.1) q.2
          ]
    ]

pub list_fault_only : (bytes : List ℕ) (at : ℕ) (fault : ThriftFault) → ListFault bytes at fault → list_at bytes at ≡ Err fault
unfolding list_at
list_fault_only bytes at fault (past e) =
    fault_from (byte_at bytes at) (λ head. known (wire_of (head.0 % 16)) at >>= λ wire. list_rest bytes head.0 head.1 wire) fault (byte_past bytes at e)
list_fault_only bytes at fault (unknown byte from s none) =
    bind_from (byte_at bytes at) (λ head. known (wire_of (head.0 % 16)) at >>= λ wire. list_rest bytes head.0 head.1 wire) (byte, from) (byte_only bytes at byte from s)
    ∙ fault_from (known (wire_of (byte % 16)) at) (λ wire. list_rest bytes byte from wire) fault (known_past (byte % 16) at none)
list_fault_only bytes at fault (sized byte from wire s typed full h) =
    list_begins bytes at byte from wire s typed
    ∙ rw (eq-eqb (byte / 16) 15 full)
    (fault_from (size_at bytes from) (λ k. Ok (record { wire = wire; count = k.0 }, k.1)) fault (size_fault_only bytes from fault h))

-- ---- fields

field_rest_fault : (bytes : List ℕ) (last : ℤ) (at byte from : ℕ) (wire : Wire) (fault : ThriftFault) → Stands bytes at (byte ∷ []) from
    → byte % 16 ≡ code_of wire → field_rest bytes last at byte from wire ≡ Err fault → FieldFault bytes last at fault
field_rest_fault bytes last at byte from wire fault stands typed e = elim (cases_lt byte 16) [
  | inl none ↦
      let whole : byte ≡ code_of wire = omega (arith, typed) in
      let within = (size_of bytes at (byte ∷ []) from stands).1 in
      elim (cases_fault (number_at bytes from) (λ id. field_here at id.0 wire id.1) fault (rw (lt-ltb byte 16 none) at e)) [
        | inl first ↦ numbered byte from wire stands whole (number_fault_found bytes from fault within first)
        | inr p ↦
            let q = narrow_fault (fits_16 p.0.0) (fields.Next p.0.0 wire, p.0.1) (faults.Long at) fault p.2 in
            let id = number_found bytes from p.0.0 p.0.1 within p.1 in
            subst (λ f. FieldFault bytes last at f) q.1 (large_id byte from p.0.1 wire id.0 p.0.0 stands whole id.1 id.2 q.0)
      ]
  | inr some ↦
      let q = narrow_fault (fits_16 (last +ℤ pos (byte / 16))) (fields.Next (last +ℤ pos (byte / 16)) wire, from) (faults.Long at) fault (rw (le-ltb byte 16 some) at e) in
      subst (λ f. FieldFault bytes last at f) q.1 (large_sum byte from wire stands typed some q.0)
]

pub field_fault_found : (bytes : List ℕ) (last : ℤ) (at : ℕ) (fault : ThriftFault) → at ≤ length bytes → field_at bytes last at ≡ Err fault → FieldFault bytes last at fault
unfolding field_at
field_fault_found bytes last at fault within e =
    elim (cases_fault (byte_at bytes at)
    (λ head. cond (eqb head.0 0) (Ok (fields.Stop, head.1)) (known (wire_of (head.0 % 16)) at >>= λ wire. field_rest bytes last at head.0 head.1 wire)) fault e) [
      | inl first ↦ let p = byte_fault_found bytes at fault within first in subst (λ f. FieldFault bytes last at f) p.1 (past p.0)
      | inr p ↦ behind_byte p.0.0 p.0.1 (byte_found bytes at p.0.0 p.0.1 p.1) p.2
    ]
  where
    never : (y : Field × ℕ) → ◌≡◌ {A = Result (Field × ℕ) ThriftFault} (Ok y) (Err fault) → ⊥
    never y h = absurd cc

    behind_byte : (byte from : ℕ) → Stands bytes at (byte ∷ []) from
        → cond (eqb byte 0) (Ok (fields.Stop, from)) (known (wire_of (byte % 16)) at >>= λ wire. field_rest bytes last at byte from wire) ≡ Err fault → FieldFault bytes last at fault
    behind_byte byte from stands h = elim (cases_eq byte 0) [
      | inl none ↦ absurd (never (fields.Stop, from) (rw (eq-eqb byte 0 none) at h))
      | inr some ↦
          elim (cases_fault (known (wire_of (byte % 16)) at) (λ wire. field_rest bytes last at byte from wire) fault (rw (ne_eqb byte 0 some) at h)) [
            | inl second ↦
                let q = known_fault_found (byte % 16) at fault second in
                subst (λ f. FieldFault bytes last at f) q.1 (unknown byte from stands some q.0)
            | inr q ↦ field_rest_fault bytes last at byte from q.0 fault stands (known_found (byte % 16) at q.0 q.1) q.2
          ]
    ]

pub field_fault_only : (bytes : List ℕ) (last : ℤ) (at : ℕ) (fault : ThriftFault) → FieldFault bytes last at fault → field_at bytes last at ≡ Err fault
unfolding field_at
field_fault_only bytes last at fault (past e) =
    fault_from (byte_at bytes at)
    (λ head. cond (eqb head.0 0) (Ok (fields.Stop, head.1)) (known (wire_of (head.0 % 16)) at >>= λ wire. field_rest bytes last at head.0 head.1 wire))
    fault (byte_past bytes at e)
field_fault_only bytes last at fault (unknown byte from s some none) =
    bind_from (byte_at bytes at)
    (λ head. cond (eqb head.0 0) (Ok (fields.Stop, head.1)) (known (wire_of (head.0 % 16)) at >>= λ wire. field_rest bytes last at head.0 head.1 wire))
    (byte, from) (byte_only bytes at byte from s)
    ∙ rw (ne_eqb byte 0 some)
    (fault_from (known (wire_of (byte % 16)) at) (λ wire. field_rest bytes last at byte from wire) fault (known_past (byte % 16) at none))
field_fault_only bytes last at fault (numbered byte from wire s whole h) =
    let small = code_small wire in
    let low : byte % 16 ≡ code_of wire = omega (arith, whole, small.1) in
    field_begins bytes last at byte from wire s low
    ∙ rw (lt-ltb byte 16 (omega (arith, whole, small.1)))
    (fault_from (number_at bytes from) (λ id. field_here at id.0 wire id.1) fault (number_fault_only bytes from fault h))
field_fault_only bytes last at fault (large_id byte from end wire number id s whole spelled second wide) =
    let small = code_small wire in
    let low : byte % 16 ≡ code_of wire = omega (arith, whole, small.1) in
    field_begins bytes last at byte from wire s low
    ∙ rw (lt-ltb byte 16 (omega (arith, whole, small.1)))
    (bind_from (number_at bytes from) (λ k. field_here at k.0 wire k.1) (id, end) (number_only bytes from id end number spelled second)
    ∙ rw wide refl)
field_fault_only bytes last at fault (large_sum byte from wire s typed some wide) =
    field_begins bytes last at byte from wire s typed
    ∙ rw (le-ltb byte 16 some, wide) refl
