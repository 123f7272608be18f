-- A whole line: reading is the inverse of spelling, and a refusal says that nothing is spelled so.
use Rattle.std.proofs.Common.{◌≡◌, ◌==◌, Bool, true, false, cond, [], length, Some, None, Result, Ok, Err, refl, ap, subst, ◌∙◌}
use Rattle.std.specs.Prelude.{MatchResult, IfOk}
use Rattle.std.proofs.lemmas.List.{nil_from_length}
use Rattle.std.proofs.lemmas.Bool.{eqb-true}
use Rattle.script_grammar.specs.Shape.{Shape, Value, read, Spells, whole, ended}
use Rattle.script_tokens.specs.Gives.{Gives}
use Rattle.script_tokens.specs.declared.fault.ParseError.{ParseError}
use Rattle.script_tokens.specs.declared.fault.ParseError.TheVariants as errors
use Rattle.script_grammar.proofs.Laws.{Tokens, bind_some, law}

guard : {A : Type 0} (b : Bool) (x y : A) → cond b (Some x) None ≡ Some y → (b ≡ true) × (x ≡ y)
guard true x y e = (refl, cc)
guard false x y e = absurd cc

pub whole_is : (s : Shape) (ts : Tokens) (v : Value s) → whole s ts ≡ Some v → Spells s ts v []
unfolding whole
whole_is s ts v e =
    let a = bind_some (read s ts) (λ x. ended x) v e in
    let g = guard (length a.0.1 == 0) a.0.0 v a.2 in
    let none : a.0.1 ≡ [] = nil_from_length a.0.1 (eqb-true _ _ g.0) in
    let t = (law s).takes ts a.0 a.1 in
    subst (λ (y : Value s). Spells s ts y []) g.1 (subst (λ (u : Tokens). Spells s ts a.0.0 u) none (record { parts = t.0; fits = t.1 }))

pub whole_again : (s : Shape) (ts : Tokens) (v : Value s) → Spells s ts v [] → whole s ts ≡ Some v
unfolding whole
whole_again s ts v h =
    let r : read s ts ≡ Some (v, []) = ap (read s) h.parts ∙ (law s).again v [] h.fits in
    rw r refl

pub found : {X : Type 0} (s : Shape) (view : X → Value s) (ts : Tokens) (r : Result X ParseError) → Gives view r (whole s ts) → IfOk r (λ l. Spells s ts (view l) [])
found s view ts (Ok x) h = whole_is s ts (view x) h
found s view ts (Err e) h = tt

pub only : {X : Type 0} (s : Shape) (view : X → Value s) (ts : Tokens) (r : Result X ParseError) → Gives view r (whole s ts) → (v : Value s) → Spells s ts v [] → MatchResult r (λ l. view l ≡ v) (λ e. e ≡ errors.NoMemory)
only s view ts (Ok x) h v k = let e = whole_again s ts v k in cc
only s view ts (Err errors.NoMemory) h v k = refl
only s view ts (Err errors.Form) h v k = absurd (let e = whole_again s ts v k in cc)

pub form : {X : Type 0} (s : Shape) (view : X → Value s) (ts : Tokens) (r : Result X ParseError) → Gives view r (whole s ts) → r ≡ Err errors.Form → (v : Value s) → Spells s ts v [] → ⊥
form s view ts (Ok x) h is v k = absurd cc
form s view ts (Err errors.NoMemory) h is v k = absurd cc
form s view ts (Err errors.Form) h is v k = let e = whole_again s ts v k in cc
