-- What is read stands there, and what stands there is read: single values, lists, fields and structs.
use Rattle.std.proofs.Common.{◌≡◌, ℕ, zero, suc, ◌+◌, ◌<◌, ◌≤◌, Bool, true, false, cond, List, [], ◌∷◌, ◌++◌, length, refl, sym, ap, ◌∙◌, subst, arith, Result, Ok, Err, Some}
use Rattle.std.specs.Prelude.{ℤ, pos}
use Rattle.std.specs.Bool.{MatchBool}
use Rattle.std.specs.Str.{is_utf8}
use Rattle.std.proofs.lemmas.Bool.{eqb-true, eq-eqb}
use Rattle.std.proofs.lemmas.List.{length-append}
use Rattle.std.proofs.lemmas.Str.{IsUtf8-from_is_utf8, is_utf8-from_IsUtf8}
use Rattle.thrift_compact.specs.declared.fault.ThriftFault.{ThriftFault}
use Rattle.thrift_compact.specs.declared.wire.Wire.{Wire}
use Rattle.thrift_compact.specs.declared.wire.Wire.TheVariants as wires
use Rattle.thrift_compact.specs.declared.wire.Field.{Field}
use Rattle.thrift_compact.specs.declared.wire.Field.TheVariants as fields
use Rattle.thrift_compact.specs.declared.wire.ListHead.{ListHead}
use Rattle.thrift_compact.specs.Values.{wire_of, number_at, binary_at, list_at, field_at}
use Rattle.thrift_compact.specs.Skipped.{skipped_at}
use Rattle.thrift_compact.specs.Writing.{code_of}
use Rattle.thrift_compact.specs.Spelled.{SpellsNumber, SpellsList, SpellsField, SpellsNext, short, long, SpellsValue}
use Rattle.thrift_compact.specs.Laws.{Stands}
use Rattle.thrift_compact.proofs.Standing.{size_of, stands_nothing, stands_first, stands_second, stands_join}
use Rattle.thrift_compact.proofs.ReadingLaws.{number_found, number_only, binary_found, binary_only}
use Rattle.thrift_compact.proofs.HeaderLaws.{list_found, list_only, field_found, field_only}
use Rattle.thrift_compact.proofs.SkippingLaws.{skipped_found, skipped_taken}
use Rattle.parquet_meta.specs.declared.fault.FileFault.{FileFault}
use Rattle.parquet_meta.specs.declared.fault.FileFault.TheVariants as faults
use Rattle.row_base.specs.Faults.{◌>>=◌}
use Rattle.parquet_meta.specs.Faults.{located}
use Rattle.parquet_meta.specs.Pieces.{Piece}
use Rattle.parquet_meta.specs.Values.{field_in, number_in, binary_in, head_in, skipped_in, is_wire, typed, text_in, elements_from, list_in, number_of, put, passed}
use Rattle.parquet_meta.specs.Structs.{field_then, fields_from, fields_of, struct_of}
use Rattle.parquet_meta.specs.Grammar.{SpellsText, SpellsAll, SpellsElements, Holds, Unused, SpellsStruct, stop, next}

-- ---- steps

pub bind_ok : {A B : Type 0} (r : Result A FileFault) (f : A → Result B FileFault) (y : B) → (r >>= f) ≡ Ok y → (x : A) × (r ≡ Ok x) × (f x ≡ Ok y)
bind_ok (Ok x) f y e = (x, refl, e)
bind_ok (Err d) f y e = absurd cc

pub bind_from : {A B : Type 0} (r : Result A FileFault) (f : A → Result B FileFault) (x : A) → r ≡ Ok x → (r >>= f) ≡ f x
bind_from r f x e = rw e refl

pub ok_inside : {A : Type 0} (x y : A) → ◌≡◌ {A = Result A FileFault} (Ok x) (Ok y) → x ≡ y
ok_inside x y e = cc

pub holds_ok : {A : Type 0} (b : Bool) (r : Result A FileFault) (d : FileFault) (y : A) → cond b r (Err d) ≡ Ok y → (b ≡ true) × (r ≡ Ok y)
holds_ok true r d y e = (refl, e)
holds_ok false r d y e = absurd cc

pub guard_ok : {A : Type 0} (b : Bool) (d : FileFault) (r : Result A FileFault) (y : A) → cond b (Err d) r ≡ Ok y → (b ≡ false) × (r ≡ Ok y)
guard_ok true d r y e = absurd cc
guard_ok false d r y e = (refl, e)

located_ok : {A : Type 0} (start : ℕ) (r : Result A ThriftFault) (x : A) → located start r ≡ Ok x → r ≡ Ok x
located_ok start (Ok y) x e = ap Ok (ok_inside y x e)
located_ok start (Err f) x e = absurd cc

-- ---- readers

abbrev pub Reader : Type 0 → Type 0
Reader A = Piece → ℕ → ℕ → Result (A × ℕ) FileFault

-- what is read stands there
abbrev pub Finds : {A : Type 0} → Reader A → (List ℕ → A → Type 0) → Type 0
Finds {A} one spells = (piece : Piece) (place at : ℕ) (value : A) (end : ℕ) → at ≤ length piece.bytes → one piece place at ≡ Ok (value, end)
    → (text : List ℕ) × spells text value × Stands piece.bytes at text end

-- what stands there is read
abbrev pub Takes : {A : Type 0} → Reader A → (List ℕ → A → Type 0) → Type 0
Takes {A} one spells = (piece : Piece) (place at : ℕ) (value : A) (end : ℕ) (text : List ℕ) → spells text value → Stands piece.bytes at text end
    → one piece place at ≡ Ok (value, end)

pub number_finds : Finds number_of SpellsNumber
unfolding number_in
number_finds piece place at value end within e = number_found piece.bytes at value end within (located_ok piece.start (number_at piece.bytes at) (value, end) e)

pub number_takes : Takes number_of SpellsNumber
unfolding number_in
number_takes piece place at value end text h s = ap (located piece.start) (number_only piece.bytes at value end text h s)

pub text_finds : Finds text_in SpellsText
unfolding text_in binary_in
text_finds piece place at value end within e =
    let p = bind_ok (binary_in piece at) (λ text. cond (is_utf8 text.0) (Ok text) (Err (faults.Thrift place))) (value, end) e in
    let q = holds_ok (is_utf8 p.0.0) (Ok p.0) (faults.Thrift place) (value, end) p.2 in
    let same : p.0 ≡ (value, end) = ok_inside p.0 (value, end) q.1 in
    let utf8 : is_utf8 value ≡ true = ap (λ (k : List ℕ × ℕ). is_utf8 k.0) (sym same) ∙ q.0 in
    let found = binary_found piece.bytes at value end within (located_ok piece.start (binary_at piece.bytes at) (value, end) (p.1 ∙ ap Ok same)) in
    (found.0, record { binary = found.1; utf8 = IsUtf8-from_is_utf8 value utf8 }, found.2)

pub text_takes : Takes text_in SpellsText
unfolding text_in binary_in
text_takes piece place at value end text h s =
    bind_from (binary_in piece at) (λ t. cond (is_utf8 t.0) (Ok t) (Err (faults.Thrift place))) (value, end) (ap (located piece.start) (binary_only piece.bytes at value end text h.binary s))
    ∙ rw (is_utf8-from_IsUtf8 value h.utf8) refl

-- ---- wire types

wire_of-code : (wire : Wire) → wire_of (code_of wire) ≡ Some wire
wire_of-code wires.True = refl
wire_of-code wires.False = refl
wire_of-code wires.Byte = refl
wire_of-code wires.I16 = refl
wire_of-code wires.I32 = refl
wire_of-code wires.I64 = refl
wire_of-code wires.Double = refl
wire_of-code wires.Binary = refl
wire_of-code wires.List = refl
wire_of-code wires.Set = refl
wire_of-code wires.Map = refl
wire_of-code wires.Struct = refl

some_inside : {A : Type 0} (x y : A) → Some x ≡ Some y → x ≡ y
some_inside x y e = cc

same_wire : (found wanted : Wire) → is_wire found wanted ≡ true → found ≡ wanted
same_wire found wanted e =
    some_inside found wanted (sym (wire_of-code found) ∙ ap wire_of (eqb-true (code_of found) (code_of wanted) e) ∙ wire_of-code wanted)

its_wire : (wire : Wire) → is_wire wire wire ≡ true
its_wire wire = eq-eqb (code_of wire) (code_of wire) refl

pub typed_ok : {A : Type 0} (wanted found : Wire) (place : ℕ) (read : Result A FileFault) (x : A) → typed wanted found place read ≡ Ok x → (found ≡ wanted) × (read ≡ Ok x)
typed_ok wanted found place read x e =
    let p = holds_ok (is_wire found wanted) read (faults.Thrift place) x e in
    (same_wire found wanted p.0, p.1)

pub typed_from : {A : Type 0} (wanted found : Wire) (place : ℕ) (read : Result A FileFault) → found ≡ wanted → typed wanted found place read ≡ read
typed_from wanted found place read same = rw (same, its_wire wanted) refl

-- ---- lists

elements_found : {A : Type 0} (bytes : List ℕ) (one : ℕ → Result (A × ℕ) FileFault) (spells : List ℕ → A → Type 0)
    → ((at : ℕ) (value : A) (end : ℕ) → at ≤ length bytes → one at ≡ Ok (value, end) → (text : List ℕ) × spells text value × Stands bytes at text end)
    → (count at : ℕ) (values : List A) (end : ℕ) → at ≤ length bytes → elements_from one count at ≡ Ok (values, end)
    → (text : List ℕ) × SpellsAll spells values text × Stands bytes at text end × (length values ≡ count)
unfolding elements_from SpellsAll
elements_found {A} bytes one spells finds zero at values end within e =
    let same : ◌≡◌ {A = List A × ℕ} ([], at) (values, end) = ok_inside ([], at) (values, end) e in
    let none : [] ≡ values = ap (λ (k : List A × ℕ). k.0) same in
    let here : at ≡ end = ap (λ (k : List A × ℕ). k.1) same in
    ([], subst (λ (vs : List A). SpellsAll spells vs []) none refl, subst (λ k. Stands bytes at [] k) here (stands_nothing bytes at within), ap length (sym none))
elements_found {A} bytes one spells finds (suc count) at values end within e =
    let p = bind_ok (one at) (λ first. elements_from one count first.1 >>= λ others. Ok (first.0 ∷ others.0, others.1)) (values, end) e in
    let q = bind_ok (elements_from one count p.0.1) (λ others. Ok (p.0.0 ∷ others.0, others.1)) (values, end) p.2 in
    let same : ◌≡◌ {A = List A × ℕ} (p.0.0 ∷ q.0.0, q.0.1) (values, end) = ok_inside (p.0.0 ∷ q.0.0, q.0.1) (values, end) q.2 in
    let all : p.0.0 ∷ q.0.0 ≡ values = ap (λ (k : List A × ℕ). k.0) same in
    let last : q.0.1 ≡ end = ap (λ (k : List A × ℕ). k.1) same in
    let first = finds at p.0.0 p.0.1 within p.1 in
    let others = elements_found bytes one spells finds count p.0.1 q.0.0 q.0.1 (size_of bytes at first.0 p.0.1 first.2).1 q.1 in
    let whole : SpellsAll spells (p.0.0 ∷ q.0.0) (first.0 ++ others.0) = (first.0, others.0, first.1, others.1, refl) in
    let ends : length (p.0.0 ∷ q.0.0) ≡ suc count = omega (arith, others.3) in (
      first.0 ++ others.0,
      subst (λ (vs : List A). SpellsAll spells vs (first.0 ++ others.0)) all whole,
      subst (λ k. Stands bytes at (first.0 ++ others.0) k) last (stands_join bytes at p.0.1 q.0.1 first.0 others.0 first.2 others.2),
      subst (λ (vs : List A). length vs ≡ suc count) all ends,
    )

elements_taken : {A : Type 0} (bytes : List ℕ) (one : ℕ → Result (A × ℕ) FileFault) (spells : List ℕ → A → Type 0)
    → ((at : ℕ) (value : A) (end : ℕ) (text : List ℕ) → spells text value → Stands bytes at text end → one at ≡ Ok (value, end))
    → (values : List A) (at end : ℕ) (text : List ℕ) → SpellsAll spells values text → Stands bytes at text end → elements_from one (length values) at ≡ Ok (values, end)
unfolding elements_from SpellsAll
elements_taken {A} bytes one spells takes [] at end text h s =
    let here : at ≡ end = omega (arith, ap length h, s.ends) in
    ap (λ k. let r : Result (List A × ℕ) FileFault = Ok ([], k) in r) here
elements_taken bytes one spells takes (value ∷ values) at end text h s =
    let split : Stands bytes at (h.0 ++ h.1) end = subst (λ (bs : List ℕ). Stands bytes at bs end) h.4 s in
    let middle = at + length h.0 in
    bind_from (one at) (λ first. elements_from one (length values) first.1 >>= λ others. Ok (first.0 ∷ others.0, others.1)) (value, middle)
    (takes at value middle h.0 h.2 (stands_first bytes at h.0 h.1 end split))
    ∙ bind_from (elements_from one (length values) middle) (λ others. Ok (value ∷ others.0, others.1)) (values, end)
    (elements_taken bytes one spells takes values middle end h.1 h.3 (stands_second bytes at h.0 h.1 end split))

pub list_finds : {A : Type 0} (wanted : Wire) (one : Reader A) (spells : List ℕ → A → Type 0) → Finds one spells → Finds (list_in wanted one) (SpellsElements wanted spells)
unfolding list_in head_in
list_finds {A} wanted one spells finds piece place at values end within e =
    let p = bind_ok (head_in piece at) (λ head. typed wanted head.0.wire place (elements_from (one piece place) head.0.count head.1)) (values, end) e in
    let q = typed_ok wanted p.0.0.wire place (elements_from (one piece place) p.0.0.count p.0.1) (values, end) p.2 in
    let front = list_found piece.bytes at p.0.0 p.0.1 (located_ok piece.start (list_at piece.bytes at) p.0 p.1) in
    let rest = elements_found piece.bytes (one piece place) spells (finds piece place) p.0.0.count p.0.1 values end (size_of piece.bytes at front.0 p.0.1 front.2).1 q.1 in
    let same : p.0.0 ≡ record { wire = wanted; count = length values }
    = ap (λ (w : Wire). let h : ListHead = record { wire = w; count = p.0.0.count } in h) q.0 ∙ ap (λ k. let h : ListHead = record { wire = wanted; count = k } in h) (sym rest.3) in (
      front.0 ++ rest.0,
      record { front = front.0; rest = rest.0; headed = subst (λ (h : ListHead). SpellsList h front.0) same front.1; each = rest.1; all = refl },
      stands_join piece.bytes at p.0.1 end front.0 rest.0 front.2 rest.2,
    )

pub list_takes : {A : Type 0} (wanted : Wire) (one : Reader A) (spells : List ℕ → A → Type 0) → Takes one spells → Takes (list_in wanted one) (SpellsElements wanted spells)
unfolding list_in head_in
list_takes wanted one spells takes piece place at values end text h s =
    let split : Stands piece.bytes at (h.front ++ h.rest) end = subst (λ (bs : List ℕ). Stands piece.bytes at bs end) h.all s in
    let middle = at + length h.front in
    bind_from (head_in piece at) (λ head. typed wanted head.0.wire place (elements_from (one piece place) head.0.count head.1)) (record { wire = wanted; count = length values }, middle)
    (ap (located piece.start) (list_only piece.bytes at (record { wire = wanted; count = length values }) middle h.front h.headed (stands_first piece.bytes at h.front h.rest end split)))
    ∙ typed_from wanted wanted place (elements_from (one piece place) (length values) middle) refl
    ∙ elements_taken piece.bytes (one piece place) spells (takes piece place) values middle end h.rest h.each (stands_second piece.bytes at h.front h.rest end split)

-- ---- fields

pub holds_found : {A D : Type 0} (one : Reader A) (spells : List ℕ → A → Type 0) → Finds one spells → (wanted found : Wire) (piece : Piece) (place at : ℕ) (into : A → D) (after : D) (end : ℕ)
    → at ≤ length piece.bytes → put into (typed wanted found place (one piece place at)) ≡ Ok (after, end)
    → (text : List ℕ) × Holds wanted spells into found text after × Stands piece.bytes at text end
holds_found {A} {D} one spells finds wanted found piece place at into after end within e =
    let p = bind_ok (typed wanted found place (one piece place at)) (λ value. Ok (into value.0, value.1)) (after, end) e in
    let q = typed_ok wanted found place (one piece place at) p.0 p.1 in
    let same = ok_inside (into p.0.0, p.0.1) (after, end) p.2 in
    let last : p.0.1 ≡ end = ap (λ (k : D × ℕ). k.1) same in
    let known : after ≡ into p.0.0 = ap (λ (k : D × ℕ). k.0) (sym same) in
    let h = finds piece place at p.0.0 p.0.1 within q.1 in
    (h.0, record { typed = q.0; value = p.0.0; spelled = h.1; known = known }, subst (λ k. Stands piece.bytes at h.0 k) last h.2)

pub holds_taken : {A D : Type 0} (one : Reader A) (spells : List ℕ → A → Type 0) → Takes one spells → (wanted found : Wire) (piece : Piece) (place at : ℕ) (into : A → D) (after : D) (end : ℕ) (text : List ℕ)
    → Stands piece.bytes at text end → Holds wanted spells into found text after → put into (typed wanted found place (one piece place at)) ≡ Ok (after, end)
holds_taken {A} {D} one spells takes wanted found piece place at into after end text s h =
    bind_from (typed wanted found place (one piece place at)) (λ value. Ok (into value.0, value.1)) (h.value, end)
    (typed_from wanted found place (one piece place at) h.typed ∙ takes piece place at h.value end text h.spelled s)
    ∙ ap (λ (k : D). let r : Result (D × ℕ) FileFault = Ok (k, end) in r) (sym h.known)

pub skip_finds : (wire : Wire) → Finds (λ piece place at. skipped_in piece wire at) (λ text nothing. SpellsValue 16 false wire text)
unfolding skipped_in
skip_finds wire piece place at value end within e = skipped_found 16 piece.bytes wire at value end within (located_ok piece.start (skipped_at piece.bytes wire at) (value, end) e)

pub skip_takes : (wire : Wire) → Takes (λ piece place at. skipped_in piece wire at) (λ text nothing. SpellsValue 16 false wire text)
unfolding skipped_in
skip_takes wire piece place at value end text h s = ap (located piece.start) (skipped_taken 16 piece.bytes wire at value end text h s)

pub unused_found : {D : Type 0} (found : Wire) (piece : Piece) (at : ℕ) (known after : D) (end : ℕ) → at ≤ length piece.bytes → passed piece found at known ≡ Ok (after, end)
    → (text : List ℕ) × Unused found text known after × Stands piece.bytes at text end
unused_found {D} found piece at known after end within e =
    let p = bind_ok (skipped_in piece found at) (λ value. Ok (known, value.1)) (after, end) e in
    let same = ok_inside (known, p.0.1) (after, end) p.2 in
    let last : p.0.1 ≡ end = ap (λ (k : D × ℕ). k.1) same in
    let h = skip_finds found piece 0 at p.0.0 p.0.1 within p.1 in
    (h.0, record { spelled = h.1; known = ap (λ (k : D × ℕ). k.0) (sym same) }, subst (λ k. Stands piece.bytes at h.0 k) last h.2)

pub unused_taken : {D : Type 0} (found : Wire) (piece : Piece) (at : ℕ) (known after : D) (end : ℕ) (text : List ℕ) → Stands piece.bytes at text end → Unused found text known after
    → passed piece found at known ≡ Ok (after, end)
unused_taken {D} found piece at known after end text s h =
    bind_from (skipped_in piece found at) (λ value. Ok (known, value.1)) (tt, end) (skip_takes found piece 0 at tt end text h.spelled s)
    ∙ ap (λ (k : D). let r : Result (D × ℕ) FileFault = Ok (k, end) in r) (sym h.known)

-- by the field's id
pub choose_found : {A : Type 0} (b : Bool) (x y r : Result A FileFault) (P Q S : List ℕ → Type 0) → (x ≡ r → (text : List ℕ) × P text × S text) → (y ≡ r → (text : List ℕ) × Q text × S text)
    → cond b x y ≡ r → (text : List ℕ) × MatchBool b (P text) (Q text) × S text
choose_found true x y r P Q S f g e = f e
choose_found false x y r P Q S f g e = g e

pub choose_taken : {A : Type 0} (b : Bool) (x y r : Result A FileFault) (P Q : Type 0) → (P → x ≡ r) → (Q → y ≡ r) → MatchBool b P Q → cond b x y ≡ r
choose_taken true x y r P Q f g h = f h
choose_taken false x y r P Q f g h = g h

-- ---- structs

abbrev pub Step : Type 0 → Type 0
Step D = Piece → ℤ → Wire → ℕ → ℕ → D → Result (D × ℕ) FileFault

abbrev pub StepFinds : {D : Type 0} → Step D → (ℤ → Wire → List ℕ → D → D → Type 0) → Type 0
StepFinds {D} step field = (piece : Piece) (id : ℤ) (wire : Wire) (place at : ℕ) (known after : D) (end : ℕ) → at ≤ length piece.bytes → step piece id wire place at known ≡ Ok (after, end)
    → (text : List ℕ) × field id wire text known after × Stands piece.bytes at text end

abbrev pub StepTakes : {D : Type 0} → Step D → (ℤ → Wire → List ℕ → D → D → Type 0) → Type 0
StepTakes {D} step field = (piece : Piece) (id : ℤ) (wire : Wire) (place at : ℕ) (known after : D) (end : ℕ) (text : List ℕ) → Stands piece.bytes at text end → field id wire text known after
    → step piece id wire place at known ≡ Ok (after, end)

field_then_found : {D : Type 0} (step : Step D) (field : ℤ → Wire → List ℕ → D → D → Type 0) (piece : Piece) (others : ℤ → D → ℕ → Result ((D × ℕ) × ℕ) FileFault) → StepFinds step field
    → ((id : ℤ) (known whole : D) (at place end : ℕ) → at ≤ length piece.bytes → others id known at ≡ Ok ((whole, place), end) → (text : List ℕ) × SpellsStruct field id known text whole × Stands piece.bytes at text end)
    → (last : ℤ) (head : List ℕ) (read : Field) (known whole : D) (at from here place end : ℕ) → SpellsField last head read → Stands piece.bytes at head from
    → field_then (step piece) others read here from known ≡ Ok ((whole, place), end) → (text : List ℕ) × SpellsStruct field last known text whole × Stands piece.bytes at text end
field_then_found {D} step field piece others finds rest last head fields.Stop known whole at from here place end spelled stands e =
    let same = ok_inside ((known, here), from) ((whole, place), end) e in
    let known_is : known ≡ whole = ap (λ (k : (D × ℕ) × ℕ). k.0.0) same in
    let last_is : from ≡ end = ap (λ (k : (D × ℕ) × ℕ). k.1) same in
    (head, subst (λ (k : D). SpellsStruct field last known head k) known_is (stop spelled), subst (λ k. Stands piece.bytes at head k) last_is stands)
field_then_found step field piece others finds rest last head (fields.Next id wire) known whole at from here place end spelled stands e =
    let p = bind_ok (step piece id wire here from known) (λ k. others id k.0 k.1) ((whole, place), end) e in
    let inner = finds piece id wire here from known p.0.0 p.0.1 (size_of piece.bytes at head from stands).1 p.1 in
    let more = rest id p.0.0 whole p.0.1 place end (size_of piece.bytes from inner.0 p.0.1 inner.2).1 p.2 in (
      head ++ (inner.0 ++ more.0),
      next id wire p.0.0 head inner.0 more.0 spelled inner.1 more.1 refl,
      stands_join piece.bytes at from end head (inner.0 ++ more.0) stands (stands_join piece.bytes from p.0.1 end inner.0 more.0 inner.2 more.2),
    )

fields_found : {D : Type 0} (step : Step D) (field : ℤ → Wire → List ℕ → D → D → Type 0) → StepFinds step field → (piece : Piece) (most : ℕ) (last : ℤ) (known whole : D) (at place end : ℕ)
    → at ≤ length piece.bytes → fields_from step piece most last known at ≡ Ok ((whole, place), end) → (text : List ℕ) × SpellsStruct field last known text whole × Stands piece.bytes at text end
unfolding fields_from field_in
fields_found step field finds piece zero last known whole at place end within e = absurd cc
fields_found step field finds piece (suc most) last known whole at place end within e =
    let p = bind_ok (field_in piece last at) (λ f. field_then (step piece) (λ id k to. fields_from step piece most id k to) f.0 (piece.start + at) f.1 known) ((whole, place), end) e in
    let head = field_found piece.bytes last at p.0.0 p.0.1 (located_ok piece.start (field_at piece.bytes last at) p.0 p.1) in
    field_then_found step field piece (λ id k to. fields_from step piece most id k to) finds
    (λ id before after from stop_at to inside read. fields_found step field finds piece most id before after from stop_at to inside read)
    last head.0 p.0.0 known whole at p.0.1 (piece.start + at) place end head.1 head.2 p.2

header_some : (last id : ℤ) (wire : Wire) (text : List ℕ) → SpellsNext last id wire text → 0 < length text
header_some last id wire text (short byte typed above sum) = omega arith
header_some last id wire text (long byte number typed spelled) = omega arith

fields_taken : {D : Type 0} (step : Step D) (field : ℤ → Wire → List ℕ → D → D → Type 0) → StepTakes step field → (piece : Piece) (most : ℕ) (last : ℤ) (known whole : D) (at end : ℕ) (text : List ℕ)
    → length text < most → SpellsStruct field last known text whole → Stands piece.bytes at text end → (place : ℕ) × (fields_from step piece most last known at ≡ Ok ((whole, place), end))
unfolding fields_from field_in
fields_taken step field takes piece zero last known whole at end text few h s = absurd (omega arith)
fields_taken step field takes piece (suc most) last known whole at end text few (stop spelled) s = (
  piece.start + at,
  bind_from (field_in piece last at) (λ f. field_then (step piece) (λ id k to. fields_from step piece most id k to) f.0 (piece.start + at) f.1 known) (fields.Stop, end)
      (ap (located piece.start) (field_only piece.bytes last at fields.Stop end text spelled s)),
)
fields_taken step field takes piece (suc most) last known whole at end text few (next id wire after head inner others spelled here more all) s =
    let from = at + length head in
    let middle = from + length inner in
    let split : Stands piece.bytes at (head ++ (inner ++ others)) end = subst (λ (bs : List ℕ). Stands piece.bytes at bs end) all s in
    let rest : Stands piece.bytes from (inner ++ others) end = stands_second piece.bytes at head (inner ++ others) end split in
    let outer = length-append head (inner ++ others) in
    let second = length-append inner others in
    let fewer : length others < most = omega (arith, ap length all, outer, second, header_some last id wire head spelled.0) in
    let go = fields_taken step field takes piece most id after whole middle end others fewer more (stands_second piece.bytes from inner others end rest) in (
      go.0,
      bind_from (field_in piece last at) (λ f. field_then (step piece) (λ i k to. fields_from step piece most i k to) f.0 (piece.start + at) f.1 known) (fields.Next id wire, from)
          (ap (located piece.start) (field_only piece.bytes last at (fields.Next id wire) from head spelled (stands_first piece.bytes at head (inner ++ others) end split)))
          ∙ bind_from (step piece id wire (piece.start + at) from known) (λ k. fields_from step piece most id k.0 k.1) (after, middle)
          (takes piece id wire (piece.start + at) from known after middle inner (stands_first piece.bytes from inner others end rest) here)
          ∙ go.1,
    )

pub struct_finds : {A D : Type 0} (step : Step D) (field : ℤ → Wire → List ℕ → D → D → Type 0) (none : D) (made : ℕ → D → Result A FileFault) (known_of : A → D) (P : A → Type 0) → StepFinds step field
    → ((place : ℕ) (known : D) (value : A) → made place known ≡ Ok value → (known ≡ known_of value) × P value)
    → Finds (struct_of step none made) (λ text value. SpellsStruct field (pos 0) none text (known_of value) × P value)
struct_finds {A} {D} step field none made known_of P finds makes piece place at value end within e =
    let p = bind_ok (fields_of step none piece at) (λ known. made known.0.1 known.0.0 >>= λ x. Ok (x, known.1)) (value, end) e in
    let q = bind_ok (made p.0.0.1 p.0.0.0) (λ x. Ok (x, p.0.1)) (value, end) p.2 in
    let same = ok_inside (q.0, p.0.1) (value, end) q.2 in
    let last : p.0.1 ≡ end = ap (λ (k : A × ℕ). k.1) same in
    let is : q.0 ≡ value = ap (λ (k : A × ℕ). k.0) same in
    let means = makes p.0.0.1 p.0.0.0 q.0 q.1 in
    let known : p.0.0.0 ≡ known_of value = means.0 ∙ ap known_of is in
    let h = fields_found step field finds piece (suc (length piece.bytes)) (pos 0) none p.0.0.0 at p.0.0.1 p.0.1 within p.1 in
    (h.0, (subst (λ (k : D). SpellsStruct field (pos 0) none h.0 k) known h.1, subst P is means.1), subst (λ k. Stands piece.bytes at h.0 k) last h.2)

pub struct_finds_all : {A D : Type 0} (step : Step D) (field : ℤ → Wire → List ℕ → D → D → Type 0) (none : D) (made : ℕ → D → Result A FileFault) (known_of : A → D) → StepFinds step field
    → ((place : ℕ) (known : D) (value : A) → made place known ≡ Ok value → known ≡ known_of value) → Finds (struct_of step none made) (λ text value. SpellsStruct field (pos 0) none text (known_of value))
struct_finds_all step field none made known_of finds makes piece place at value end within e =
    let h = struct_finds step field none made known_of (λ _. Unit {0}) finds (λ stop_at known x is. (makes stop_at known x is, tt)) piece place at value end within e in
    (h.0, h.1.0, h.2)

pub struct_takes : {A D : Type 0} (step : Step D) (field : ℤ → Wire → List ℕ → D → D → Type 0) (none : D) (made : ℕ → D → Result A FileFault) (known_of : A → D) (P : A → Type 0) → StepTakes step field
    → ((place : ℕ) (value : A) → P value → made place (known_of value) ≡ Ok value) → Takes (struct_of step none made) (λ text value. SpellsStruct field (pos 0) none text (known_of value) × P value)
struct_takes step field none made known_of P takes makes piece place at value end text h s =
    let size = size_of piece.bytes at text end s in
    let few : length text < suc (length piece.bytes) = omega (arith, size.0, size.1) in
    let p = fields_taken step field takes piece (suc (length piece.bytes)) (pos 0) none (known_of value) at end text few h.0 s in
    bind_from (fields_of step none piece at) (λ known. made known.0.1 known.0.0 >>= λ x. Ok (x, known.1)) ((known_of value, p.0), end) p.1
    ∙ bind_from (made p.0 (known_of value)) (λ x. Ok (x, end)) value (makes p.0 value h.1)

pub struct_takes_all : {A D : Type 0} (step : Step D) (field : ℤ → Wire → List ℕ → D → D → Type 0) (none : D) (made : ℕ → D → Result A FileFault) (known_of : A → D) → StepTakes step field
    → ((place : ℕ) (value : A) → made place (known_of value) ≡ Ok value) → Takes (struct_of step none made) (λ text value. SpellsStruct field (pos 0) none text (known_of value))
struct_takes_all step field none made known_of takes makes piece place at value end text h s =
    struct_takes step field none made known_of (λ _. Unit {0}) takes (λ stop_at x _. makes stop_at x) piece place at value end text (h, tt) s
