-- Skipping passes over exactly the values whose texts stand in the bytes.
use Rattle.std.proofs.Common.{◌≡◌, ◌≢◌, ℕ, zero, suc, ◌+◌, ◌/◌, ◌%◌, ◌<◌, ◌≤◌, Bool, true, false, cond, eqb, List, [], ◌∷◌, ◌++◌, length, refl, ap, ◌∙◌, subst, arith, inl, inr, Result, Ok}
use Rattle.std.specs.Prelude.{ℤ, pos}
use Rattle.std.proofs.lemmas.Bool.{cases_eq, cases_Bool, eq-eqb, ne_eqb}
use Rattle.std.proofs.lemmas.List.{length-append}
use Rattle.thrift_compact.specs.declared.fault.ThriftFault.{ThriftFault}
use Rattle.thrift_compact.specs.declared.fault.ThriftFault.TheVariants as faults
use Rattle.thrift_compact.specs.declared.wire.Wire.{Wire}
use Rattle.thrift_compact.specs.declared.wire.Wire.TheVariants as wires
use Rattle.thrift_compact.specs.declared.wire.Field.{Field}
use Rattle.thrift_compact.specs.declared.wire.Field.TheVariants as fields
use Rattle.row_base.specs.Faults.{◌>>=◌}
use Rattle.thrift_compact.specs.Values.{varint_at, size_at, binary_at, byte_at, behind, wire_of, known, field_at, list_at}
use Rattle.thrift_compact.specs.Skipped.{each_end, field_end, fields_end, is_container, plain_end, list_end, pairs_end, map_end, container_end, value_end}
use Rattle.thrift_compact.specs.Writing.{code_of}
use Rattle.thrift_compact.specs.Spelled.{SpellsNext, short, long, SpellsField, SpellsSize, SpellsPlain, SpellsEach, SpellsElements, SpellsPair, SpellsMap, empty, some, SpellsFields, stop, next, SpellsContainer, SpellsValue}
use Rattle.thrift_compact.specs.Laws.{Stands}
use Rattle.thrift_compact.proofs.Standing.{bind_ok, bind_from, ok_inside, guard_ok, size_of, stands_nothing, stands_first, stands_second, stands_join, behind_found, behind_only, byte_found, byte_only}
use Rattle.thrift_compact.proofs.ReadingLaws.{varint_at_found, varint_at_only, size_found, size_only, binary_found, binary_only}
use Rattle.thrift_compact.proofs.HeaderLaws.{known_found, known_only, list_found, list_only, field_found, field_only}

-- what stands from a place up to another
abbrev pub Found : List ℕ → (List ℕ → Type 0) → ℕ → ℕ → Type 0
Found bytes spells at end = (text : List ℕ) × spells text × Stands bytes at text end

-- what is passed over is spelled so
abbrev pub Finds : List ℕ → (ℕ → Result ℕ ThriftFault) → (List ℕ → Type 0) → Type 0
Finds bytes one spells = (at end : ℕ) → at ≤ length bytes → one at ≡ Ok end → Found bytes spells at end

-- what is spelled so is passed over
abbrev pub Takes : List ℕ → (ℕ → Result ℕ ThriftFault) → (List ℕ → Type 0) → Type 0
Takes bytes one spells = (at end : ℕ) (text : List ℕ) → spells text → Stands bytes at text end → one at ≡ Ok end

-- ---- values that hold no others

passed : (bytes : List ℕ) (at count end : ℕ) → behind bytes at count ≡ Ok end → Found bytes (λ text. length text ≡ count) at end
passed bytes at count end e = let p = behind_found bytes at count end e in (_, p.0, p.1)

nothing_passed : (bytes : List ℕ) (at end : ℕ) → at ≤ length bytes → ◌≡◌ {A = Result ℕ ThriftFault} (Ok at) (Ok end) → Found bytes (λ text. text ≡ []) at end
nothing_passed bytes at end within e = ([], refl, subst (λ k. Stands bytes at [] k) (ok_inside at end e) (stands_nothing bytes at within))

varint_passed : (bytes : List ℕ) (at end : ℕ) → at ≤ length bytes → (varint_at bytes at >>= λ n. Ok n.1) ≡ Ok end → Found bytes (SpellsPlain true wires.I64) at end
varint_passed bytes at end within e =
    let p = bind_ok (varint_at bytes at) (λ n. Ok n.1) end e in
    let found = varint_at_found bytes at p.0.0 p.0.1 within p.1 in
    (found.0, (p.0.0, found.1), subst (λ k. Stands bytes at found.0 k) (ok_inside p.0.1 end p.2) found.2)

binary_passed : (bytes : List ℕ) (at end : ℕ) → at ≤ length bytes → (binary_at bytes at >>= λ n. Ok n.1) ≡ Ok end → Found bytes (SpellsPlain true wires.Binary) at end
binary_passed bytes at end within e =
    let p = bind_ok (binary_at bytes at) (λ n. Ok n.1) end e in
    let found = binary_found bytes at p.0.0 p.0.1 within p.1 in
    (found.0, (p.0.0, found.1), subst (λ k. Stands bytes at found.0 k) (ok_inside p.0.1 end p.2) found.2)

plain_found : (bytes : List ℕ) (element : Bool) (wire : Wire) → is_container wire ≡ false → Finds bytes (plain_end bytes element wire) (SpellsPlain element wire)
plain_found bytes true wires.True plain at end within e = passed bytes at 1 end e
plain_found bytes false wires.True plain at end within e = nothing_passed bytes at end within e
plain_found bytes true wires.False plain at end within e = passed bytes at 1 end e
plain_found bytes false wires.False plain at end within e = nothing_passed bytes at end within e
plain_found bytes element wires.Byte plain at end within e = passed bytes at 1 end e
plain_found bytes element wires.I16 plain at end within e = varint_passed bytes at end within e
plain_found bytes element wires.I32 plain at end within e = varint_passed bytes at end within e
plain_found bytes element wires.I64 plain at end within e = varint_passed bytes at end within e
plain_found bytes element wires.Double plain at end within e = passed bytes at 8 end e
plain_found bytes element wires.Binary plain at end within e = binary_passed bytes at end within e
plain_found bytes element wires.List plain at end within e = absurd cc
plain_found bytes element wires.Set plain at end within e = absurd cc
plain_found bytes element wires.Map plain at end within e = absurd cc
plain_found bytes element wires.Struct plain at end within e = absurd cc

varint_taken : (bytes : List ℕ) → Takes bytes (λ at. varint_at bytes at >>= λ n. Ok n.1) (SpellsPlain true wires.I64)
varint_taken bytes at end text h s = bind_from (varint_at bytes at) (λ n. Ok n.1) (h.0, end) (varint_at_only bytes at h.0 end text h.1 s)

nothing_taken : (bytes : List ℕ) (at end : ℕ) (text : List ℕ) → text ≡ [] → Stands bytes at text end → ◌≡◌ {A = Result ℕ ThriftFault} (Ok at) (Ok end)
nothing_taken bytes at end text none s = let same : at ≡ end = omega (arith, ap length none, s.ends) in ap Ok same

plain_taken : (bytes : List ℕ) (element : Bool) (wire : Wire) → Takes bytes (plain_end bytes element wire) (SpellsPlain element wire)
plain_taken bytes true wires.True at end text h s = behind_only bytes at 1 end text h s
plain_taken bytes false wires.True at end text h s = nothing_taken bytes at end text h s
plain_taken bytes true wires.False at end text h s = behind_only bytes at 1 end text h s
plain_taken bytes false wires.False at end text h s = nothing_taken bytes at end text h s
plain_taken bytes element wires.Byte at end text h s = behind_only bytes at 1 end text h s
plain_taken bytes element wires.I16 at end text h s = varint_taken bytes at end text h s
plain_taken bytes element wires.I32 at end text h s = varint_taken bytes at end text h s
plain_taken bytes element wires.I64 at end text h s = varint_taken bytes at end text h s
plain_taken bytes element wires.Double at end text h s = behind_only bytes at 8 end text h s
plain_taken bytes element wires.Binary at end text h s = bind_from (binary_at bytes at) (λ n. Ok n.1) (h.0, end) (binary_only bytes at h.0 end text h.1 s)
plain_taken bytes element wires.List at end text h s = absurd h
plain_taken bytes element wires.Set at end text h s = absurd h
plain_taken bytes element wires.Map at end text h s = absurd h
plain_taken bytes element wires.Struct at end text h s = absurd h

plain_kind : (element : Bool) (wire : Wire) (text : List ℕ) → SpellsPlain element wire text → is_container wire ≡ false
plain_kind element wires.True text h = refl
plain_kind element wires.False text h = refl
plain_kind element wires.Byte text h = refl
plain_kind element wires.I16 text h = refl
plain_kind element wires.I32 text h = refl
plain_kind element wires.I64 text h = refl
plain_kind element wires.Double text h = refl
plain_kind element wires.Binary text h = refl
plain_kind element wires.List text h = absurd h
plain_kind element wires.Set text h = absurd h
plain_kind element wires.Map text h = absurd h
plain_kind element wires.Struct text h = absurd h

-- ---- values one behind the other

each_found : (bytes : List ℕ) (one : ℕ → Result ℕ ThriftFault) (spells : List ℕ → Type 0) → Finds bytes one spells
    → (count : ℕ) → Finds bytes (each_end one count) (SpellsEach spells count)
unfolding each_end SpellsEach
each_found bytes one spells finds zero at end within e = nothing_passed bytes at end within e
each_found bytes one spells finds (suc count) at end within e =
    let p = bind_ok (one at) (each_end one count) end e in
    let first = finds at p.0 within p.1 in
    let others = each_found bytes one spells finds count p.0 end (size_of bytes at first.0 p.0 first.2).1 p.2 in (
      first.0 ++ others.0,
      (first.0, others.0, first.1, others.1, refl),
      stands_join bytes at p.0 end first.0 others.0 first.2 others.2,
    )

each_taken : (bytes : List ℕ) (one : ℕ → Result ℕ ThriftFault) (spells : List ℕ → Type 0) → Takes bytes one spells
    → (count : ℕ) → Takes bytes (each_end one count) (SpellsEach spells count)
unfolding each_end SpellsEach
each_taken bytes one spells takes zero at end text none s = nothing_taken bytes at end text none s
each_taken bytes one spells takes (suc count) at end text h s =
    let first = h.0 in
    let others = h.1 in
    let from = at + length first in
    let split : Stands bytes at (first ++ others) end = subst (λ (bs : List ℕ). Stands bytes at bs end) h.4 s in
    bind_from (one at) (each_end one count) from (takes at from first h.2 (stands_first bytes at first others end split))
    ∙ each_taken bytes one spells takes count from end others h.3 (stands_second bytes at first others end split)

-- ---- lists and sets

elements_found : (bytes : List ℕ) (element : Wire → ℕ → Result ℕ ThriftFault) (spells : Wire → List ℕ → Type 0)
    → ((wire : Wire) → Finds bytes (element wire) (spells wire)) → Finds bytes (list_end element bytes) (SpellsElements spells)
elements_found bytes element spells finds at end within e =
    let p = bind_ok (list_at bytes at) (λ head. each_end (element head.0.wire) head.0.count head.1) end e in
    let head = list_found bytes at p.0.0 p.0.1 p.1 in
    let rest = each_found bytes (element p.0.0.wire) (spells p.0.0.wire) (finds p.0.0.wire) p.0.0.count p.0.1 end (size_of bytes at head.0 p.0.1 head.2).1 p.2 in (
      head.0 ++ rest.0,
      record { head = p.0.0; front = head.0; rest = rest.0; headed = head.1; each = rest.1; all = refl },
      stands_join bytes at p.0.1 end head.0 rest.0 head.2 rest.2,
    )

elements_taken : (bytes : List ℕ) (element : Wire → ℕ → Result ℕ ThriftFault) (spells : Wire → List ℕ → Type 0)
    → ((wire : Wire) → Takes bytes (element wire) (spells wire)) → Takes bytes (list_end element bytes) (SpellsElements spells)
elements_taken bytes element spells takes at end text h s =
    let from = at + length h.front in
    let split : Stands bytes at (h.front ++ h.rest) end = subst (λ (bs : List ℕ). Stands bytes at bs end) h.all s in
    bind_from (list_at bytes at) (λ head. each_end (element head.0.wire) head.0.count head.1) (h.head, from)
    (list_only bytes at h.head from h.front h.headed (stands_first bytes at h.front h.rest end split))
    ∙ each_taken bytes (element h.head.wire) (spells h.head.wire) (takes h.head.wire) h.head.count from end h.rest h.each (stands_second bytes at h.front h.rest end split)

-- ---- maps

pub pair_found : (bytes : List ℕ) (key value : ℕ → Result ℕ ThriftFault) (first second : List ℕ → Type 0) → Finds bytes key first → Finds bytes value second
    → Finds bytes (λ from. key from >>= value) (SpellsPair first second)
pair_found bytes key value first second keys values at end within e =
    let p = bind_ok (key at) value end e in
    let k = keys at p.0 within p.1 in
    let v = values p.0 end (size_of bytes at k.0 p.0 k.2).1 p.2 in
    (k.0 ++ v.0, (k.0, v.0, k.1, v.1, refl), stands_join bytes at p.0 end k.0 v.0 k.2 v.2)

pub pair_taken : (bytes : List ℕ) (key value : ℕ → Result ℕ ThriftFault) (first second : List ℕ → Type 0) → Takes bytes key first → Takes bytes value second
    → Takes bytes (λ from. key from >>= value) (SpellsPair first second)
pair_taken bytes key value first second keys values at end text h s =
    let from = at + length h.0 in
    let split : Stands bytes at (h.0 ++ h.1) end = subst (λ (bs : List ℕ). Stands bytes at bs end) h.4 s in
    bind_from (key at) value from (keys at from h.0 h.2 (stands_first bytes at h.0 h.1 end split))
    ∙ values from end h.1 h.3 (stands_second bytes at h.0 h.1 end split)

pairs_found : (bytes : List ℕ) (element : Wire → ℕ → Result ℕ ThriftFault) (spells : Wire → List ℕ → Type 0)
    → ((wire : Wire) → Finds bytes (element wire) (spells wire)) → (count : ℕ) (size : List ℕ) → count ≢ 0 → SpellsSize size count
    → (at from end : ℕ) → Stands bytes at size from → pairs_end element bytes count from ≡ Ok end → Found bytes (SpellsMap spells) at end
pairs_found bytes element spells finds count size more sized at from end counted all =
    let p = bind_ok (byte_at bytes from)
    (λ types. known (wire_of (types.0 / 16)) from >>= λ key. known (wire_of (types.0 % 16)) from >>= λ value.
    each_end (λ place. element key place >>= element value) count types.1)
    end all in
    let types = p.0.0 in
    let q = bind_ok (known (wire_of (types / 16)) from)
    (λ key. known (wire_of (types % 16)) from >>= λ value. each_end (λ place. element key place >>= element value) count p.0.1)
    end p.2 in
    let r = bind_ok (known (wire_of (types % 16)) from) (λ value. each_end (λ place. element q.0 place >>= element value) count p.0.1) end q.2 in
    let stands = byte_found bytes from types p.0.1 p.1 in
    let pairs = each_found bytes (λ place. element q.0 place >>= element r.0) (SpellsPair (spells q.0) (spells r.0))
    (pair_found bytes (element q.0) (element r.0) (spells q.0) (spells r.0) (finds q.0) (finds r.0))
    count p.0.1 end (size_of bytes from (types ∷ []) p.0.1 stands).1 r.2 in
    pairs_text types q.0 r.0 pairs.0 (known_found (types / 16) from q.0 q.1) (known_found (types % 16) from r.0 r.1) pairs.1
    (stands_join bytes at from end size (types ∷ pairs.0) counted (stands_join bytes from p.0.1 end (types ∷ []) pairs.0 stands pairs.2))
  where
    pairs_text : (types : ℕ) (key value : Wire) (pairs : List ℕ) → types / 16 ≡ code_of key → types % 16 ≡ code_of value
        → SpellsEach (SpellsPair (spells key) (spells value)) count pairs → Stands bytes at (size ++ (types ∷ pairs)) end → Found bytes (SpellsMap spells) at end
    pairs_text types key value pairs first second each stands =
        (size ++ (types ∷ pairs), some count size types key value pairs more sized first second each refl, stands)

map_found : (bytes : List ℕ) (element : Wire → ℕ → Result ℕ ThriftFault) (spells : Wire → List ℕ → Type 0)
    → ((wire : Wire) → Finds bytes (element wire) (spells wire)) → Finds bytes (map_end element bytes) (SpellsMap spells)
map_found bytes element spells finds at end within e =
    let p = bind_ok (size_at bytes at) (λ size. cond (eqb size.0 0) (Ok size.1) (pairs_end element bytes size.0 size.1)) end e in
    let size = size_found bytes at p.0.0 p.0.1 within p.1 in
    elim (cases_eq p.0.0 0) [
      | inl none ↦
          let last = ok_inside p.0.1 end (rw (eq-eqb p.0.0 0 none) at p.2) in
          (size.0, empty (subst (λ k. SpellsSize size.0 k) none size.1), subst (λ k. Stands bytes at size.0 k) last size.2)
      | inr more ↦
          pairs_found bytes element spells finds p.0.0 size.0 more size.1 at p.0.1 end size.2 (rw (ne_eqb p.0.0 0 more) at p.2)
    ]

map_taken : (bytes : List ℕ) (element : Wire → ℕ → Result ℕ ThriftFault) (spells : Wire → List ℕ → Type 0)
    → ((wire : Wire) → Takes bytes (element wire) (spells wire)) → Takes bytes (map_end element bytes) (SpellsMap spells)
map_taken bytes element spells takes at end text (empty sized) s =
    bind_from (size_at bytes at) (λ size. cond (eqb size.0 0) (Ok size.1) (pairs_end element bytes size.0 size.1)) (0, end) (size_only bytes at 0 end text sized s)
map_taken bytes element spells takes at end text (some count size types key value pairs more sized first second each all) s =
    let from = at + length size in
    let split : Stands bytes at (size ++ (types ∷ pairs)) end = subst (λ (bs : List ℕ). Stands bytes at bs end) all s in
    let rest : Stands bytes from (types ∷ pairs) end = stands_second bytes at size (types ∷ pairs) end split in
    let typed : Stands bytes from (types ∷ []) (from + 1) = stands_first bytes from (types ∷ []) pairs end rest in
    bind_from (size_at bytes at) (λ k. cond (eqb k.0 0) (Ok k.1) (pairs_end element bytes k.0 k.1)) (count, from)
    (size_only bytes at count from size sized (stands_first bytes at size (types ∷ pairs) end split))
    ∙ rw (ne_eqb count 0 more)
    (bind_from (byte_at bytes from)
    (λ k. known (wire_of (k.0 / 16)) from >>= λ a. known (wire_of (k.0 % 16)) from >>= λ b. each_end (λ place. element a place >>= element b) count k.1)
    (types, from + 1) (byte_only bytes from types (from + 1) typed)
    ∙ bind_from (known (wire_of (types / 16)) from)
    (λ a. known (wire_of (types % 16)) from >>= λ b. each_end (λ place. element a place >>= element b) count (from + 1)) key
    (known_only (types / 16) from key first)
    ∙ bind_from (known (wire_of (types % 16)) from) (λ b. each_end (λ place. element key place >>= element b) count (from + 1)) value
    (known_only (types % 16) from value second)
    ∙ each_taken bytes (λ place. element key place >>= element value) (SpellsPair (spells key) (spells value))
    (pair_taken bytes (element key) (element value) (spells key) (spells value) (takes key) (takes value))
    count (from + 1) end pairs each (stands_second bytes from (types ∷ []) pairs end rest))

-- ---- structs

field_end_found : (bytes : List ℕ) (value : Wire → ℕ → Result ℕ ThriftFault) (spells : Wire → List ℕ → Type 0) (others : ℤ → ℕ → Result ℕ ThriftFault)
    → ((wire : Wire) → Finds bytes (value wire) (spells wire)) → ((id : ℤ) → Finds bytes (others id) (SpellsFields spells id))
    → (last : ℤ) (head : List ℕ) (field : Field) (at from end : ℕ) → SpellsField last head field → Stands bytes at head from
    → field_end value others field from ≡ Ok end → Found bytes (SpellsFields spells last) at end
field_end_found bytes value spells others finds after last head fields.Stop at from end spelled stands e =
    (head, stop spelled, subst (λ k. Stands bytes at head k) (ok_inside from end e) stands)
field_end_found bytes value spells others finds after last head (fields.Next id wire) at from end spelled stands e =
    let p = bind_ok (value wire from) (others id) end e in
    let inner = finds wire from p.0 (size_of bytes at head from stands).1 p.1 in
    let rest = after id p.0 end (size_of bytes from inner.0 p.0 inner.2).1 p.2 in (
      head ++ (inner.0 ++ rest.0),
      next id wire head inner.0 rest.0 spelled inner.1 rest.1 refl,
      stands_join bytes at from end head (inner.0 ++ rest.0) stands (stands_join bytes from p.0 end inner.0 rest.0 inner.2 rest.2),
    )

fields_found : (bytes : List ℕ) (value : Wire → ℕ → Result ℕ ThriftFault) (spells : Wire → List ℕ → Type 0)
    → ((wire : Wire) → Finds bytes (value wire) (spells wire)) → (most : ℕ) (last : ℤ) → Finds bytes (fields_end value bytes most last) (SpellsFields spells last)
unfolding fields_end
fields_found bytes value spells finds zero last at end within e = absurd cc
fields_found bytes value spells finds (suc most) last at end within e =
    let p = bind_ok (field_at bytes last at) (λ field. field_end value (fields_end value bytes most) field.0 field.1) end e in
    let head = field_found bytes last at p.0.0 p.0.1 p.1 in
    field_end_found bytes value spells (fields_end value bytes most) finds (λ id. fields_found bytes value spells finds most id)
    last head.0 p.0.0 at p.0.1 end head.1 head.2 p.2

pub header_some : (last id : ℤ) (wire : Wire) (text : List ℕ) → SpellsNext last id wire text → 0 < length text
header_some last id wire text (short byte typed above sum) = omega arith
header_some last id wire text (long byte number typed spelled) = omega arith

fields_taken : (bytes : List ℕ) (value : Wire → ℕ → Result ℕ ThriftFault) (spells : Wire → List ℕ → Type 0)
    → ((wire : Wire) → Takes bytes (value wire) (spells wire)) → (most : ℕ) (last : ℤ) (at end : ℕ) (text : List ℕ) → length text < most
    → SpellsFields spells last text → Stands bytes at text end → fields_end value bytes most last at ≡ Ok end
unfolding fields_end
fields_taken bytes value spells takes zero last at end text few h s = absurd (omega arith)
fields_taken bytes value spells takes (suc most) last at end text few (stop spelled) s =
    bind_from (field_at bytes last at) (λ field. field_end value (fields_end value bytes most) field.0 field.1) (fields.Stop, end)
    (field_only bytes last at fields.Stop end text spelled s)
fields_taken bytes value spells takes (suc most) last at end text few (next id wire head inner others spelled within after all) s =
    let from = at + length head in
    let middle = from + length inner in
    let split : Stands bytes at (head ++ (inner ++ others)) end = subst (λ (bs : List ℕ). Stands bytes at bs end) all s in
    let rest : Stands bytes from (inner ++ others) end = stands_second bytes at head (inner ++ others) end split in
    let outer = length-append head (inner ++ others) in
    let second = length-append inner others in
    let fewer : length others < most = omega (arith, ap length all, outer, second, header_some last id wire head spelled.0) in
    bind_from (field_at bytes last at) (λ field. field_end value (fields_end value bytes most) field.0 field.1) (fields.Next id wire, from)
    (field_only bytes last at (fields.Next id wire) from head spelled (stands_first bytes at head (inner ++ others) end split))
    ∙ bind_from (value wire from) (fields_end value bytes most id) middle (takes wire from middle inner within (stands_first bytes from inner others end rest))
    ∙ fields_taken bytes value spells takes most id middle end others fewer after (stands_second bytes from inner others end rest)

-- ---- values that hold others

container_found : (bytes : List ℕ) (inner : Bool → Wire → ℕ → Result ℕ ThriftFault) (spells : Bool → Wire → List ℕ → Type 0)
    → ((element : Bool) (wire : Wire) → Finds bytes (inner element wire) (spells element wire)) → (wire : Wire) → is_container wire ≡ true
    → Finds bytes (container_end inner bytes wire) (SpellsContainer spells wire)
container_found bytes inner spells finds wires.True holds at end within e = absurd cc
container_found bytes inner spells finds wires.False holds at end within e = absurd cc
container_found bytes inner spells finds wires.Byte holds at end within e = absurd cc
container_found bytes inner spells finds wires.I16 holds at end within e = absurd cc
container_found bytes inner spells finds wires.I32 holds at end within e = absurd cc
container_found bytes inner spells finds wires.I64 holds at end within e = absurd cc
container_found bytes inner spells finds wires.Double holds at end within e = absurd cc
container_found bytes inner spells finds wires.Binary holds at end within e = absurd cc
container_found bytes inner spells finds wires.List holds at end within e = elements_found bytes (inner true) (spells true) (finds true) at end within e
container_found bytes inner spells finds wires.Set holds at end within e = elements_found bytes (inner true) (spells true) (finds true) at end within e
container_found bytes inner spells finds wires.Map holds at end within e = map_found bytes (inner true) (spells true) (finds true) at end within e
container_found bytes inner spells finds wires.Struct holds at end within e =
    fields_found bytes (inner false) (spells false) (finds false) (suc (length bytes)) (pos 0) at end within e

container_taken : (bytes : List ℕ) (inner : Bool → Wire → ℕ → Result ℕ ThriftFault) (spells : Bool → Wire → List ℕ → Type 0)
    → ((element : Bool) (wire : Wire) → Takes bytes (inner element wire) (spells element wire)) → (wire : Wire)
    → Takes bytes (container_end inner bytes wire) (SpellsContainer spells wire)
container_taken bytes inner spells takes wires.True at end text h s = absurd h
container_taken bytes inner spells takes wires.False at end text h s = absurd h
container_taken bytes inner spells takes wires.Byte at end text h s = absurd h
container_taken bytes inner spells takes wires.I16 at end text h s = absurd h
container_taken bytes inner spells takes wires.I32 at end text h s = absurd h
container_taken bytes inner spells takes wires.I64 at end text h s = absurd h
container_taken bytes inner spells takes wires.Double at end text h s = absurd h
container_taken bytes inner spells takes wires.Binary at end text h s = absurd h
container_taken bytes inner spells takes wires.List at end text h s = elements_taken bytes (inner true) (spells true) (takes true) at end text h s
container_taken bytes inner spells takes wires.Set at end text h s = elements_taken bytes (inner true) (spells true) (takes true) at end text h s
container_taken bytes inner spells takes wires.Map at end text h s = map_taken bytes (inner true) (spells true) (takes true) at end text h s
container_taken bytes inner spells takes wires.Struct at end text h s =
    let size = size_of bytes at text end s in
    let few : length text < suc (length bytes) = omega (arith, size.0, size.1) in
    fields_taken bytes (inner false) (spells false) (takes false) (suc (length bytes)) (pos 0) at end text few h s

container_kind : (spells : Bool → Wire → List ℕ → Type 0) (wire : Wire) (text : List ℕ) → SpellsContainer spells wire text → is_container wire ≡ true
container_kind spells wires.True text h = absurd h
container_kind spells wires.False text h = absurd h
container_kind spells wires.Byte text h = absurd h
container_kind spells wires.I16 text h = absurd h
container_kind spells wires.I32 text h = absurd h
container_kind spells wires.I64 text h = absurd h
container_kind spells wires.Double text h = absurd h
container_kind spells wires.Binary text h = absurd h
container_kind spells wires.List text h = refl
container_kind spells wires.Set text h = refl
container_kind spells wires.Map text h = refl
container_kind spells wires.Struct text h = refl

pub value_found : (levels : ℕ) (bytes : List ℕ) (element : Bool) (wire : Wire) → Finds bytes (value_end levels bytes element wire) (SpellsValue levels element wire)
unfolding value_end SpellsValue
value_found zero bytes element wire at end within e =
    let p = guard_ok (is_container wire) (faults.Deep at) (plain_end bytes element wire at) end e in
    plain_found bytes element wire p.0 at end within p.1
value_found (suc levels) bytes element wire at end within e = elim (cases_Bool (is_container wire)) [
  | inl holds ↦
      let found = container_found bytes (value_end levels bytes) (SpellsValue levels) (λ inner kind. value_found levels bytes inner kind) wire holds at end within (rw holds at e) in
      (found.0, inr found.1, found.2)
  | inr plain ↦
      let found = plain_found bytes element wire plain at end within (rw plain at e) in
      (found.0, inl found.1, found.2)
]

pub value_taken : (levels : ℕ) (bytes : List ℕ) (element : Bool) (wire : Wire) → Takes bytes (value_end levels bytes element wire) (SpellsValue levels element wire)
unfolding value_end SpellsValue
value_taken zero bytes element wire at end text h s = rw (plain_kind element wire text h) (plain_taken bytes element wire at end text h s)
value_taken (suc levels) bytes element wire at end text (inl h) s = rw (plain_kind element wire text h) (plain_taken bytes element wire at end text h s)
value_taken (suc levels) bytes element wire at end text (inr h) s =
    rw (container_kind (SpellsValue levels) wire text h)
    (container_taken bytes (value_end levels bytes) (SpellsValue levels) (λ inner kind. value_taken levels bytes inner kind) wire at end text h s)

pub skipped_found : (levels : ℕ) (bytes : List ℕ) (wire : Wire) (at : ℕ) (value : Unit {0}) (end : ℕ) → at ≤ length bytes
    → ◌>>=◌ {B = Unit {0} × ℕ} (value_end levels bytes false wire at) (λ to. Ok (tt, to)) ≡ Ok (value, end) → Found bytes (SpellsValue levels false wire) at end
skipped_found levels bytes wire at value end within e =
    let p = bind_ok {B = Unit {0} × ℕ} (value_end levels bytes false wire at) (λ to. Ok (tt, to)) (value, end) e in
    let same = ok_inside {A = Unit {0} × ℕ} (tt, p.0) (value, end) p.2 in
    let last : p.0 ≡ end = ap (λ (k : Unit {0} × ℕ). k.1) same in
    value_found levels bytes false wire at end within (p.1 ∙ ap Ok last)

pub skipped_taken : (levels : ℕ) (bytes : List ℕ) (wire : Wire) (at : ℕ) (value : Unit {0}) (end : ℕ) (text : List ℕ) → SpellsValue levels false wire text
    → Stands bytes at text end → ◌>>=◌ {B = Unit {0} × ℕ} (value_end levels bytes false wire at) (λ to. Ok (tt, to)) ≡ Ok (value, end)
skipped_taken levels bytes wire at value end text h s =
    bind_from {B = Unit {0} × ℕ} (value_end levels bytes false wire at) (λ to. Ok (tt, to)) end (value_taken levels bytes false wire at end text h s)
