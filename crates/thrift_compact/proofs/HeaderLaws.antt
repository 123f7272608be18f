-- Reading headers gives exactly the headers whose texts stand in the bytes.
use Rattle.std.proofs.Common.{◌≡◌, ◌⊎◌, ℕ, ◌+◌, ◌/◌, ◌%◌, ◌<◌, true, cond, eqb, ltb, List, [], ◌∷◌, refl, sym, ap, ◌∙◌, subst, arith, inl, inr, Result, Ok, Option, Some, None}
use Rattle.std.specs.Prelude.{ℤ, pos, ◌+ℤ◌}
use Rattle.std.proofs.lemmas.Bool.{cases_lt, cases_eq, lt-ltb, le-ltb, eq-eqb, ne_eqb}
use Rattle.thrift_compact.specs.declared.fault.ThriftFault.{ThriftFault}
use Rattle.thrift_compact.specs.declared.fault.ThriftFault.TheVariants as faults
use Rattle.thrift_compact.specs.declared.wire.Wire.{Wire}
use Rattle.thrift_compact.specs.declared.wire.Wire.TheVariants as wires
use Rattle.thrift_compact.specs.declared.wire.Field.{Field}
use Rattle.thrift_compact.specs.declared.wire.Field.TheVariants as fields
use Rattle.thrift_compact.specs.declared.wire.ListHead.{ListHead}
use Rattle.row_base.specs.Faults.{◌>>=◌}
use Rattle.thrift_compact.specs.Values.{size_at, number_at, byte_at, wire_of, known, fits_16, field_here, field_at, list_at}
use Rattle.thrift_compact.specs.Writing.{code_of}
use Rattle.thrift_compact.specs.Spelled.{SpellsSize, SpellsList, short, long, SpellsNext, SpellsField}
use Rattle.thrift_compact.specs.Laws.{Stands}
use Rattle.thrift_compact.proofs.Standing.{bind_ok, bind_from, ok_inside, holds_ok, size_of, stands_first, stands_second, stands_join, byte_found, byte_only}
use Rattle.thrift_compact.proofs.ReadingLaws.{number_found, number_only, size_found, size_only}

-- ---- wire types

pick : (code k : ℕ) (one wire : Wire) (others : Option Wire) → cond (eqb code k) (Some one) others ≡ Some wire
    → ((code ≡ k) × (one ≡ wire)) ⊎ (others ≡ Some wire)
pick code k one wire others e = elim (cases_eq code k) [
  | inl same ↦ let first : Some one ≡ Some wire = rw (eq-eqb code k same) at e in inl (same, cc)
  | inr apart ↦ inr (rw (ne_eqb code k apart) at e)
]

pub wire_found : (code : ℕ) (wire : Wire) → wire_of code ≡ Some wire → code ≡ code_of wire
wire_found code wire e = elim (pick code 1 wires.True wire _ e) [
  | inl p ↦ p.0 ∙ ap code_of p.1
  | inr e1 ↦
      elim (pick code 2 wires.False wire _ e1) [
        | inl p ↦ p.0 ∙ ap code_of p.1
        | inr e2 ↦
            elim (pick code 3 wires.Byte wire _ e2) [
              | inl p ↦ p.0 ∙ ap code_of p.1
              | inr e3 ↦
                  elim (pick code 4 wires.I16 wire _ e3) [
                    | inl p ↦ p.0 ∙ ap code_of p.1
                    | inr e4 ↦
                        elim (pick code 5 wires.I32 wire _ e4) [
                          | inl p ↦ p.0 ∙ ap code_of p.1
                          | inr e5 ↦
                              elim (pick code 6 wires.I64 wire _ e5) [
                                | inl p ↦ p.0 ∙ ap code_of p.1
                                | inr e6 ↦
                                    elim (pick code 7 wires.Double wire _ e6) [
                                      | inl p ↦ p.0 ∙ ap code_of p.1
                                      | inr e7 ↦
                                          elim (pick code 8 wires.Binary wire _ e7) [
                                            | inl p ↦ p.0 ∙ ap code_of p.1
                                            | inr e8 ↦
                                                elim (pick code 9 wires.List wire _ e8) [
                                                  | inl p ↦ p.0 ∙ ap code_of p.1
                                                  | inr e9 ↦
                                                      elim (pick code 10 wires.Set wire _ e9) [
                                                        | inl p ↦ p.0 ∙ ap code_of p.1
                                                        | inr e10 ↦
                                                            elim (pick code 11 wires.Map wire _ e10) [
                                                              | inl p ↦ p.0 ∙ ap code_of p.1
                                                              | inr e11 ↦
                                                                  elim (pick code 12 wires.Struct wire _ e11) [ inl p ↦ p.0 ∙ ap code_of p.1 | inr e12 ↦ absurd cc ]
                                                            ]
                                                      ]
                                                ]
                                          ]
                                    ]
                              ]
                        ]
                  ]
            ]
      ]
]

pub wire_again : (wire : Wire) → wire_of (code_of wire) ≡ Some wire
wire_again wires.True = refl
wire_again wires.False = refl
wire_again wires.Byte = refl
wire_again wires.I16 = refl
wire_again wires.I32 = refl
wire_again wires.I64 = refl
wire_again wires.Double = refl
wire_again wires.Binary = refl
wire_again wires.List = refl
wire_again wires.Set = refl
wire_again wires.Map = refl
wire_again wires.Struct = refl

pub code_small : (wire : Wire) → (0 < code_of wire) × (code_of wire < 16)
code_small wires.True = (omega arith, omega arith)
code_small wires.False = (omega arith, omega arith)
code_small wires.Byte = (omega arith, omega arith)
code_small wires.I16 = (omega arith, omega arith)
code_small wires.I32 = (omega arith, omega arith)
code_small wires.I64 = (omega arith, omega arith)
code_small wires.Double = (omega arith, omega arith)
code_small wires.Binary = (omega arith, omega arith)
code_small wires.List = (omega arith, omega arith)
code_small wires.Set = (omega arith, omega arith)
code_small wires.Map = (omega arith, omega arith)
code_small wires.Struct = (omega arith, omega arith)

pub known_found : (code at : ℕ) (wire : Wire) → known (wire_of code) at ≡ Ok wire → code ≡ code_of wire
known_found code at wire e = wire_found code wire (inside (wire_of code) e)
  where
    inside : (o : Option Wire) → known o at ≡ Ok wire → o ≡ Some wire
    inside (Some w) h = ap Some (ok_inside w wire h)
    inside None h = absurd cc

pub known_only : (code at : ℕ) (wire : Wire) → code ≡ code_of wire → known (wire_of code) at ≡ Ok wire
known_only code at wire e = ap (λ k. known (wire_of k) at) e ∙ ap (λ o. known o at) (wire_again wire)

-- ---- lists

-- what stands behind the byte of a list's header
abbrev pub list_rest : List ℕ → ℕ → ℕ → Wire → Result (ListHead × ℕ) ThriftFault
list_rest bytes byte from wire =
    cond (eqb (byte / 16) 15) (size_at bytes from >>= λ size. Ok (record { wire = wire; count = size.0 }, size.1))
    (Ok (record { wire = wire; count = byte / 16 }, from))

list_rest_found : (bytes : List ℕ) (at byte from : ℕ) (wire : Wire) (value : ListHead) (end : ℕ) → Stands bytes at (byte ∷ []) from
    → byte % 16 ≡ code_of wire → list_rest bytes byte from wire ≡ Ok (value, end) → (text : List ℕ) × SpellsList value text × Stands bytes at text end
list_rest_found bytes at byte from wire value end stands typed e = elim (cases_eq (byte / 16) 15) [
  | inl full ↦
      let all = rw (eq-eqb (byte / 16) 15 full) at e in
      let p = bind_ok (size_at bytes from) (λ size. Ok (record { wire = wire; count = size.0 }, size.1)) (value, end) all in
      let same = ok_inside (record { wire = wire; count = p.0.0 }, p.0.1) (value, end) p.2 in
      let size = size_found bytes from p.0.0 p.0.1 (size_of bytes at (byte ∷ []) from stands).1 p.1 in
      let kind : wire ≡ value.wire = ap (λ (k : ListHead × ℕ). k.0.wire) same in
      let count : p.0.0 ≡ value.count = ap (λ (k : ListHead × ℕ). k.0.count) same in
      let last : p.0.1 ≡ end = ap (λ (k : ListHead × ℕ). k.1) same in (
        byte ∷ size.0,
        long byte size.0 (typed ∙ ap code_of kind) full (subst (λ k. SpellsSize size.0 k) count size.1),
        stands_join bytes at from end (byte ∷ []) size.0 stands (subst (λ k. Stands bytes from size.0 k) last size.2),
      )
  | inr few ↦
      let all = rw (ne_eqb (byte / 16) 15 few) at e in
      let same = ok_inside (record { wire = wire; count = byte / 16 }, from) (value, end) all in
      let kind : wire ≡ value.wire = ap (λ (k : ListHead × ℕ). k.0.wire) same in
      let count : byte / 16 ≡ value.count = ap (λ (k : ListHead × ℕ). k.0.count) same in
      let last : from ≡ end = ap (λ (k : ListHead × ℕ). k.1) same in (
        byte ∷ [],
        short byte (typed ∙ ap code_of kind) count (λ full. few (count ∙ full)),
        subst (λ k. Stands bytes at (byte ∷ []) k) last stands,
      )
]

pub list_found : (bytes : List ℕ) (at : ℕ) (value : ListHead) (end : ℕ) → list_at bytes at ≡ Ok (value, end)
    → (text : List ℕ) × SpellsList value text × Stands bytes at text end
unfolding list_at
list_found bytes at value end e =
    let p = bind_ok (byte_at bytes at) (λ head. known (wire_of (head.0 % 16)) at >>= λ wire. list_rest bytes head.0 head.1 wire) (value, end) e in
    let q = bind_ok (known (wire_of (p.0.0 % 16)) at) (λ wire. list_rest bytes p.0.0 p.0.1 wire) (value, end) p.2 in
    list_rest_found bytes at p.0.0 p.0.1 q.0 value end (byte_found bytes at p.0.0 p.0.1 p.1) (known_found (p.0.0 % 16) at q.0 q.1) q.2

-- the byte of a list's header is read
pub list_begins : (bytes : List ℕ) (at byte from : ℕ) (wire : Wire) → Stands bytes at (byte ∷ []) from → byte % 16 ≡ code_of wire
    → list_at bytes at ≡ list_rest bytes byte from wire
unfolding list_at
list_begins bytes at byte from wire stands typed =
    bind_from (byte_at bytes at) (λ head. known (wire_of (head.0 % 16)) at >>= λ w. list_rest bytes head.0 head.1 w) (byte, from) (byte_only bytes at byte from stands)
    ∙ bind_from (known (wire_of (byte % 16)) at) (λ w. list_rest bytes byte from w) wire (known_only (byte % 16) at wire typed)

pub list_only : (bytes : List ℕ) (at : ℕ) (value : ListHead) (end : ℕ) (text : List ℕ) → SpellsList value text → Stands bytes at text end
    → list_at bytes at ≡ Ok (value, end)
list_only bytes at value end text (short byte typed count few) s =
    let apart : byte / 16 ≡ 15 → ⊥ = λ e. few (sym count ∙ e) in
    list_begins bytes at byte end value.wire s typed
    ∙ rw (ne_eqb (byte / 16) 15 apart, count) refl
list_only bytes at value end text (long byte size typed full counted) s =
    let from = at + 1 in
    list_begins bytes at byte from value.wire (stands_first bytes at (byte ∷ []) size end s) typed
    ∙ rw (eq-eqb (byte / 16) 15 full) (bind_from (size_at bytes from) (λ k. Ok (record { wire = value.wire; count = k.0 }, k.1)) (value.count, end)
    (size_only bytes from value.count end size counted (stands_second bytes at (byte ∷ []) size end s)))

-- ---- fields

-- what stands behind the byte of a field's header
abbrev pub field_rest : List ℕ → ℤ → ℕ → ℕ → ℕ → Wire → Result (Field × ℕ) ThriftFault
field_rest bytes last at byte from wire =
    cond (ltb byte 16) (number_at bytes from >>= λ id. field_here at id.0 wire id.1) (field_here at (last +ℤ pos (byte / 16)) wire from)

field_here_found : (at : ℕ) (id : ℤ) (wire : Wire) (from : ℕ) (value : Field) (end : ℕ) → field_here at id wire from ≡ Ok (value, end)
    → (fits_16 id ≡ true) × (fields.Next id wire ≡ value) × (from ≡ end)
field_here_found at id wire from value end e =
    let p = holds_ok (fits_16 id) (fields.Next id wire, from) (faults.Long at) (value, end) e in
    (p.0, ap (λ (k : Field × ℕ). k.0) p.1, ap (λ (k : Field × ℕ). k.1) p.1)

field_rest_found : (bytes : List ℕ) (last : ℤ) (at byte from : ℕ) (wire : Wire) (value : Field) (end : ℕ) → Stands bytes at (byte ∷ []) from
    → byte % 16 ≡ code_of wire → field_rest bytes last at byte from wire ≡ Ok (value, end)
    → (text : List ℕ) × SpellsField last text value × Stands bytes at text end
field_rest_found bytes last at byte from wire value end stands typed e = elim (cases_lt byte 16) [
  | inl none ↦
      let all = rw (lt-ltb byte 16 none) at e in
      let p = bind_ok (number_at bytes from) (λ id. field_here at id.0 wire id.1) (value, end) all in
      let q = field_here_found at p.0.0 wire p.0.1 value end p.2 in
      let id = number_found bytes from p.0.0 p.0.1 (size_of bytes at (byte ∷ []) from stands).1 p.1 in
      let whole : byte ≡ code_of wire = omega (arith, typed) in (
        byte ∷ id.0,
        subst (λ f. SpellsField last (byte ∷ id.0) f) q.1 (long byte id.0 whole id.1, q.0),
        stands_join bytes at from end (byte ∷ []) id.0 stands (subst (λ k. Stands bytes from id.0 k) q.2 id.2),
      )
  | inr some ↦
      let all = rw (le-ltb byte 16 some) at e in
      let q = field_here_found at (last +ℤ pos (byte / 16)) wire from value end all in (
        byte ∷ [],
        subst (λ f. SpellsField last (byte ∷ []) f) q.1 (short byte typed some refl, q.0),
        subst (λ k. Stands bytes at (byte ∷ []) k) q.2 stands,
      )
]

pub field_found : (bytes : List ℕ) (last : ℤ) (at : ℕ) (value : Field) (end : ℕ) → field_at bytes last at ≡ Ok (value, end)
    → (text : List ℕ) × SpellsField last text value × Stands bytes at text end
unfolding field_at
field_found bytes last at value end e =
    let p = bind_ok (byte_at bytes at)
    (λ head. cond (eqb head.0 0) (Ok (fields.Stop, head.1)) (known (wire_of (head.0 % 16)) at >>= λ wire. field_rest bytes last at head.0 head.1 wire))
    (value, end) e in
    let byte = p.0.0 in
    let from = p.0.1 in
    let stands = byte_found bytes at byte from p.1 in
    elim (cases_eq byte 0) [
      | inl none ↦
          let all = rw (eq-eqb byte 0 none) at p.2 in
          let same = ok_inside (fields.Stop, from) (value, end) all in (
            byte ∷ [],
            subst (λ f. SpellsField last (byte ∷ []) f) (ap (λ (k : Field × ℕ). k.0) same) (ap (λ (k : ℕ). k ∷ []) none),
            subst (λ k. Stands bytes at (byte ∷ []) k) (ap (λ (k : Field × ℕ). k.1) same) stands,
          )
      | inr some ↦
          let all = rw (ne_eqb byte 0 some) at p.2 in
          let q = bind_ok (known (wire_of (byte % 16)) at) (λ wire. field_rest bytes last at byte from wire) (value, end) all in
          field_rest_found bytes last at byte from q.0 value end stands (known_found (byte % 16) at q.0 q.1) q.2
    ]

-- the byte of a field's header is read
pub field_begins : (bytes : List ℕ) (last : ℤ) (at byte from : ℕ) (wire : Wire) → Stands bytes at (byte ∷ []) from → byte % 16 ≡ code_of wire
    → field_at bytes last at ≡ field_rest bytes last at byte from wire
unfolding field_at
field_begins bytes last at byte from wire stands typed =
    let some : byte ≡ 0 → ⊥ = λ none. omega (arith, typed, (code_small wire).0) in
    bind_from (byte_at bytes at)
    (λ head. cond (eqb head.0 0) (Ok (fields.Stop, head.1)) (known (wire_of (head.0 % 16)) at >>= λ w. field_rest bytes last at head.0 head.1 w))
    (byte, from) (byte_only bytes at byte from stands)
    ∙ rw (ne_eqb byte 0 some) (bind_from (known (wire_of (byte % 16)) at) (λ w. field_rest bytes last at byte from w) wire (known_only (byte % 16) at wire typed))

pub next_only : (bytes : List ℕ) (last : ℤ) (at : ℕ) (id : ℤ) (wire : Wire) (end : ℕ) (text : List ℕ) → SpellsNext last id wire text → fits_16 id ≡ true
    → Stands bytes at text end → field_at bytes last at ≡ Ok (fields.Next id wire, end)
next_only bytes last at id wire end text (short byte typed some sum) fits s =
    field_begins bytes last at byte end wire s typed
    ∙ rw (le-ltb byte 16 some, ← sum, fits) refl
next_only bytes last at id wire end text (long byte number typed spelled) fits s =
    let from = at + 1 in
    let small : byte < 16 = omega (arith, typed, (code_small wire).1) in
    let low : byte % 16 ≡ code_of wire = omega (arith, typed) in
    field_begins bytes last at byte from wire (stands_first bytes at (byte ∷ []) number end s) low
    ∙ rw (lt-ltb byte 16 small)
    (bind_from (number_at bytes from) (λ k. field_here at k.0 wire k.1) (id, end)
    (number_only bytes from id end number spelled (stands_second bytes at (byte ∷ []) number end s))
    ∙ rw fits refl)

pub field_only : (bytes : List ℕ) (last : ℤ) (at : ℕ) (value : Field) (end : ℕ) (text : List ℕ) → SpellsField last text value → Stands bytes at text end
    → field_at bytes last at ≡ Ok (value, end)
unfolding field_at
field_only bytes last at fields.Stop end text h s =
    let stop : Stands bytes at (0 ∷ []) end = subst (λ (bs : List ℕ). Stands bytes at bs end) h s in
    rw (byte_only bytes at 0 end stop) refl
field_only bytes last at (fields.Next id wire) end text h s = next_only bytes last at id wire end text h.0 h.1 s
