-- Steps of the loops over elements and over fields.
use Rattle.std.proofs.Common.{◌≡◌, ℕ, suc, ◌+◌, ◌-◌, ◌<◌, Bool, true, false, List, [], ◌∷◌, ◌++◌, refl, sym, ap, ◌∙◌, subst, arith, Result, Ok, Err}
use Rattle.std.specs.Prelude.{ℤ}
use Rattle.std.specs.Bool.{MatchBool}
use Rattle.std.proofs.lemmas.List.{append_assoc}
use Rattle.thrift_compact.specs.declared.wire.Wire.{Wire}
use Rattle.thrift_compact.specs.declared.wire.Field.TheVariants as fields
use Rattle.parquet_meta.specs.declared.fault.FileFault.{FileFault}
use Rattle.row_base.specs.Faults.{◌>>=◌}
use Rattle.parquet_meta.specs.Faults.{is_memory, FaultOf}
use Rattle.parquet_meta.specs.Pieces.{Piece, Reading, Moves, Puts}
use Rattle.parquet_meta.specs.Values.{elements_from, field_in, skipped_in, passed}
use Rattle.parquet_meta.specs.Structs.{field_then, fields_from}

-- ---- faults

-- where each fault of one reading is one of another, a fault that a call answered is too
pub fault_carried : {A B : Type 0} (f : FileFault) (r : Result A FileFault) (s : Result B FileFault) → ((g : FileFault) → r ≡ Err g → s ≡ Err g) → FaultOf f r → FaultOf f s
fault_carried f r s h e = inside (is_memory f) e
  where
    inside : (b : Bool) → MatchBool b (Unit {0}) (r ≡ Err f) → MatchBool b (Unit {0}) (s ≡ Err f)
    inside true e = tt
    inside false e = h f e

-- ---- elements

abbrev Before : {A : Type 0} → List A → Result (List A × ℕ) FileFault → Result (List A × ℕ) FileFault
Before found read = read >>= λ others. Ok (found ++ others.0, others.1)

pub element_fault : {A : Type 0} (element : Piece → ℕ → ℕ → Result (A × ℕ) FileFault) (piece now : Piece) (place count counter at : ℕ) (found : List A) (whole : Result (List A × ℕ) FileFault) (f : FileFault)
    → now ≡ piece → counter < count → Before found (elements_from (element piece place) (count - counter) at) ≡ whole → FaultOf f (element now place at) → FaultOf f whole
unfolding elements_from
element_fault element piece now place count counter at found whole f same more rest fault =
    fault_carried f (element now place at) whole (λ g e.
    let left : count - counter ≡ suc (count - (counter + 1)) = omega arith in
    let here : element piece place at ≡ Err g = subst (λ (p : Piece). element p place at ≡ Err g) same e in
    sym rest ∙ ap (λ k. Before found (elements_from (element piece place) k at)) left ∙ rw here refl)
    fault

joined : {A : Type 0} (found : List A) (x : A) (r : Result (List A × ℕ) FileFault)
    → Before found (r >>= λ others. Ok (x ∷ others.0, others.1)) ≡ Before (found ++ x ∷ []) r
joined {A} found x (Ok others) = ap (λ (xs : List A). let r : Result (List A × ℕ) FileFault = Ok (xs, others.1) in r) (sym (append_assoc found (x ∷ []) others.0))
joined found x (Err f) = refl

pub element_next : {A : Type 0} (element : Piece → ℕ → ℕ → Result (A × ℕ) FileFault) (piece now : Piece) (place count counter at to : ℕ) (found : List A) (x : A) (whole : Result (List A × ℕ) FileFault)
    → now ≡ piece → counter < count → Before found (elements_from (element piece place) (count - counter) at) ≡ whole → element now place at ≡ Ok (x, to)
    → Before (found ++ x ∷ []) (elements_from (element piece place) (count - (counter + 1)) to) ≡ whole
unfolding elements_from
element_next {A} element piece now place count counter at to found x whole same more rest e =
    let left : count - counter ≡ suc (count - (counter + 1)) = omega arith in
    let here : element piece place at ≡ Ok (x, to) = subst (λ (p : Piece). element p place at ≡ Ok (x, to)) same e in
    let step : Before found (elements_from (element piece place) (suc (count - (counter + 1))) at) ≡ Before (found ++ x ∷ []) (elements_from (element piece place) (count - (counter + 1)) to)
    = rw here (joined found x (elements_from (element piece place) (count - (counter + 1)) to)) in
    sym step ∙ ap (λ k. Before found (elements_from (element piece place) k at)) (sym left) ∙ rest

-- ---- fields

abbrev pub Step : Type 0 → Type 0
Step D = Piece → ℤ → Wire → ℕ → ℕ → D → Result (D × ℕ) FileFault

fields_open : {D : Type 0} (step : Step D) (piece now : Piece) (most : ℕ) (last : ℤ) (known : D) (at : ℕ) (whole : Result ((D × ℕ) × ℕ) FileFault)
    → now ≡ piece → 0 < most → fields_from step piece most last known at ≡ whole
    → (field_in now last at >>= λ field. field_then (step piece) (λ id k to. fields_from step piece (most - 1) id k to) field.0 (piece.start + at) field.1 known) ≡ whole
unfolding fields_from
fields_open step piece now most last known at whole same some rest =
    let left : most ≡ suc (most - 1) = omega arith in
    let opened : fields_from step piece (suc (most - 1)) last known at ≡ whole = subst (λ k. fields_from step piece k last known at ≡ whole) left rest in
    subst (λ (p : Piece). (field_in p last at >>= λ field. field_then (step piece) (λ id k to. fields_from step piece (most - 1) id k to) field.0 (piece.start + at) field.1 known) ≡ whole) (sym same) opened

pub field_fault : {D : Type 0} (step : Step D) (piece now : Piece) (most : ℕ) (last : ℤ) (known : D) (at : ℕ) (whole : Result ((D × ℕ) × ℕ) FileFault) (f : FileFault)
    → now ≡ piece → 0 < most → fields_from step piece most last known at ≡ whole → FaultOf f (field_in now last at) → FaultOf f whole
field_fault step piece now most last known at whole f same some rest fault =
    fault_carried f (field_in now last at) whole (λ g e.
    sym (fields_open step piece now most last known at whole same some rest) ∙ rw e refl)
    fault

pub put_next : {D : Type 0} (step : Step D) (piece now after : Piece) (most : ℕ) (last id : ℤ) (wire : Wire) (known then : D) (at place from to : ℕ) (whole : Result ((D × ℕ) × ℕ) FileFault)
    → now ≡ piece → after ≡ now → 0 < most → fields_from step piece most last known at ≡ whole → field_in now last at ≡ Ok (fields.Next id wire, from)
    → place ≡ now.start + at → step after id wire place from known ≡ Ok (then, to) → fields_from step piece (most - 1) id then to ≡ whole
put_next step piece now after most last id wire known then at place from to whole same again some rest head here e =
    let open_rest = fields_open step piece now most last known at whole same some rest in
    let there : piece.start + at ≡ place = ap (λ (p : Piece). p.start + at) (sym same) ∙ sym here in
    let read : step piece id wire place from known ≡ Ok (then, to) = subst (λ (p : Piece). step p id wire place from known ≡ Ok (then, to)) (again ∙ same) e in
    rw (head, there, read) at open_rest

pub put_fault : {D : Type 0} (step : Step D) (piece now after : Piece) (most : ℕ) (last id : ℤ) (wire : Wire) (known : D) (at place from : ℕ) (whole : Result ((D × ℕ) × ℕ) FileFault) (f : FileFault)
    → now ≡ piece → after ≡ now → 0 < most → fields_from step piece most last known at ≡ whole → field_in now last at ≡ Ok (fields.Next id wire, from)
    → place ≡ now.start + at → FaultOf f (step after id wire place from known) → FaultOf f whole
put_fault step piece now after most last id wire known at place from whole f same again some rest head here fault =
    fault_carried f (step after id wire place from known) whole (λ g e.
    let there : piece.start + at ≡ place = ap (λ (p : Piece). p.start + at) (sym same) ∙ sym here in
    let read : step piece id wire place from known ≡ Err g = subst (λ (p : Piece). step p id wire place from known ≡ Err g) (again ∙ same) e in
    sym (fields_open step piece now most last known at whole same some rest) ∙ rw (head, there, read) refl)
    fault

-- ---- a field that isn't used

pub skip_puts : {D : Type 0} (old new : Reading) (known : D) (wire : Wire) (r : Result (Unit {0}) FileFault) → Moves old new r (skipped_in old.piece wire old.at)
    → Puts old new known r (passed old.piece wire old.at known)
skip_puts old new known wire (Ok x) moves = (rw moves.0 refl, moves.1, moves.2, moves.3)
skip_puts old new known wire (Err f) moves = fault_carried f (skipped_in old.piece wire old.at) (passed old.piece wire old.at known) (λ g e. rw e refl) moves
