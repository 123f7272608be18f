-- A script is read exactly where the bytes spell it, and the least bad line is named exactly where there is one.
use Rattle.std.proofs.Common.{◌≡◌, ℕ, ◌+◌, true, false, List, [], ◌∷◌, ◌++◌, length, Option, Some, None, Result, Ok, Err, refl, sym, ap, subst, ◌∙◌, arith, inl, inr}
use Rattle.std.specs.Prelude.{◌⊎◌, MatchResult, IfOk, IfErr}
use Rattle.std.specs.Str.{IsUtf8, is_utf8}
use Rattle.std.proofs.lemmas.Str.{is_utf8-from_IsUtf8, IsUtf8-from_is_utf8}
use Rattle.std.proofs.lemmas.List.{append-nil}
use Rattle.script_tokens.proofs.Runs.{Bool_tells}
use Rattle.script_forms.specs.declared.script.Script.{Script}
use Rattle.script_forms.specs.declared.script.ScriptFault.{ScriptFault}
use Rattle.script_forms.specs.declared.script.ScriptFaultKind.{ScriptFaultKind}
use Rattle.script_forms.specs.declared.script.ScriptFaultKind.TheVariants as kinds
use Rattle.script_forms.specs.declared.place.Place.{Place}
use Rattle.script_forms.specs.declared.place.Place.TheVariants.{Start, Headed, Session, Items}
use Rattle.script_forms.specs.declared.place.Entry.{Entry}
use Rattle.script_forms.specs.Places.{Stands, entry_at, is_known, is_within, after}
use Rattle.script_forms.specs.Scripts.{pieces, is_passed, Takes, passed, entered, Follows, here, next, Refuses, utf8, form, session, limit, script_of, SpellsScript, FailsFrom, refused, no_header, FailsScript, judged, judged_some, judge, finished, script_from, FaultIs, GivesScript, Judges}
use Rattle.script_forms.specs.Fit.{IsFit}
use Rattle.script_forms.proofs.Places.{entry_is, entry_again}
use Rattle.script_forms.proofs.Fits.{spelled_fit}

pub no_utf8 : (l : List ℕ) → (IsUtf8 l → ⊥) → is_utf8 l ≡ false
no_utf8 l h = elim (Bool_tells (is_utf8 l)) [
  | inl u ↦ absurd (h (IsUtf8-from_is_utf8 l u))
  | inr u ↦ u
]

utf8_not : (l : List ℕ) → is_utf8 l ≡ false → IsUtf8 l → ⊥
utf8_not l h u = let k = is_utf8-from_IsUtf8 l u in cc

-- ---- one line

judge_bytes : (p : Place) (l : List ℕ) → is_utf8 l ≡ false → judge p l ≡ Err kinds.Utf8
unfolding judge
judge_bytes p l u = rw u refl

judge_passed : (p : Place) (l : List ℕ) → is_utf8 l ≡ true → is_passed l ≡ true → judge p l ≡ Ok p
unfolding judge
judge_passed p l u k = rw (u, k) refl

judge_other : (p : Place) (l : List ℕ) (o : Option Entry) → is_utf8 l ≡ true → is_passed l ≡ false → entry_at p l ≡ o → judge p l ≡ judged_some p o
unfolding judge
judge_other p l o u k h = rw (u, k, h) refl

-- what judging gives, in the words of the grammar
abbrev Verdict : Place → List ℕ → Result Place ScriptFaultKind → Type 0
Verdict p l (Ok q) = Takes p l q
Verdict p l (Err k) = Refuses p l k

entry_verdict : (p : Place) (l : List ℕ) (e : Entry) → IsUtf8 l → is_passed l ≡ false → Stands p l e → Verdict p l (judged p e)
entry_verdict p l e u k s = elim (Bool_tells (is_known p e)) [
  | inl n ↦ elim (Bool_tells (is_within p e)) [
    | inl w ↦ rw (n, w) (entered p l e u k s n w)
    | inr w ↦ rw (n, w) (limit p l e u k s n w)
  ]
  | inr n ↦ rw n (session p l e u k s n)
]

other_verdict : (p : Place) (l : List ℕ) (o : Option Entry) → IsUtf8 l → is_passed l ≡ false → entry_at p l ≡ o → Verdict p l (judged_some p o)
other_verdict p l None u k h = form p l u k (λ e s. let a = entry_again p l e s in cc)
other_verdict p l (Some e) u k h = entry_verdict p l e u k (entry_is p l e h)

pub verdict : (p : Place) (l : List ℕ) → Verdict p l (judge p l)
verdict p l = elim (Bool_tells (is_utf8 l)) [
  | inl u ↦ elim (Bool_tells (is_passed l)) [
    | inl k ↦ subst (Verdict p l) (sym (judge_passed p l u k)) (passed p l (IsUtf8-from_is_utf8 l u) k)
    | inr k ↦ subst (Verdict p l) (sym (judge_other p l (entry_at p l) u k refl)) (other_verdict p l (entry_at p l) (IsUtf8-from_is_utf8 l u) k refl)
  ]
  | inr u ↦ subst (Verdict p l) (sym (judge_bytes p l u)) (utf8 p l (utf8_not l u))
]

judged_ok : (p : Place) (e : Entry) → is_known p e ≡ true → is_within p e ≡ true → judged p e ≡ Ok (after p e)
judged_ok p e n w = rw (n, w) refl

judged_limit : (p : Place) (e : Entry) → is_known p e ≡ true → is_within p e ≡ false → judged p e ≡ Err kinds.Limit
judged_limit p e n w = rw (n, w) refl

judged_session : (p : Place) (e : Entry) → is_known p e ≡ false → judged p e ≡ Err kinds.Session
judged_session p e n = rw n refl

pub takes_again : (p : Place) (l : List ℕ) (q : Place) → Takes p l q → judge p l ≡ Ok q
takes_again _ _ _ (passed p l u k) = judge_passed p l (is_utf8-from_IsUtf8 l u) k
takes_again _ _ _ (entered p l e u k s n w) = judge_other p l (Some e) (is_utf8-from_IsUtf8 l u) k (entry_again p l e s) ∙ judged_ok p e n w

none_stands : (p : Place) (l : List ℕ) (o : Option Entry) → ((e : Entry) → Stands p l e → ⊥) → entry_at p l ≡ o → o ≡ None
none_stands p l None h e = refl
none_stands p l (Some x) h e = absurd (h x (entry_is p l x e))

pub refuses_again : (p : Place) (l : List ℕ) (k : ScriptFaultKind) → Refuses p l k → judge p l ≡ Err k
refuses_again _ _ _ (utf8 p l u) = judge_bytes p l (no_utf8 l u)
refuses_again _ _ _ (form p l u k h) = judge_other p l None (is_utf8-from_IsUtf8 l u) k (none_stands p l (entry_at p l) h refl)
refuses_again _ _ _ (session p l e u k s n) = judge_other p l (Some e) (is_utf8-from_IsUtf8 l u) k (entry_again p l e s) ∙ judged_session p e n
refuses_again _ _ _ (limit p l e u k s n w) = judge_other p l (Some e) (is_utf8-from_IsUtf8 l u) k (entry_again p l e s) ∙ judged_limit p e n w

-- ---- all lines

taken_on : (n : ℕ) (p : Place) (l : List ℕ) (q : Place) (ls : List (List ℕ)) → judge p l ≡ Ok q → script_from n p (l ∷ ls) ≡ script_from (n + 1) q ls
unfolding script_from
taken_on n p l q ls h = rw h refl

refused_at : (n : ℕ) (p : Place) (l : List ℕ) (k : ScriptFaultKind) (ls : List (List ℕ)) → judge p l ≡ Err k → script_from n p (l ∷ ls) ≡ Err (n, k)
unfolding script_from
refused_at n p l k ls h = rw h refl

pub at_end : (n : ℕ) (p : Place) → script_from n p [] ≡ finished n p
unfolding script_from
at_end n p = refl

from_number : (m n : ℕ) (p : Place) (ls : List (List ℕ)) → m ≡ n → script_from m p ls ≡ script_from n p ls
from_number m n p ls e = ap (λ (k : ℕ). script_from k p ls) e

follows_on : (n : ℕ) (p : Place) (ls : List (List ℕ)) (q : Place) (rest : List (List ℕ)) → Follows p ls q → script_from n p (ls ++ rest) ≡ script_from (n + length ls) q rest
follows_on n _ _ _ rest (here p) = from_number n (n + 0) p rest (omega arith)
follows_on n _ _ _ rest (next p l q ls r t f) =
    taken_on n p l q (ls ++ rest) (takes_again p l q t) ∙ follows_on (n + 1) q ls r rest f ∙ from_number (n + 1 + length ls) (n + length (l ∷ ls)) r rest (omega arith)

finished_ok : (n : ℕ) (p : Place) (s : Script) → script_of p ≡ Some s → finished n p ≡ Ok s
finished_ok n (Start a) s h = absurd cc
finished_ok n (Headed c) s h = cc
finished_ok n (Session c current) s h = cc
finished_ok n (Items c) s h = cc

pub script_again : (bytes : List ℕ) (s : Script) → SpellsScript bytes s → script_from 1 (Start None) (pieces bytes) ≡ Ok s
script_again bytes s h =
    let whole : script_from 1 (Start None) (pieces bytes ++ []) ≡ script_from (1 + length (pieces bytes)) h.place [] = follows_on 1 (Start None) (pieces bytes) h.place [] h.taken in
    ap (script_from 1 (Start None)) (sym (append-nil (pieces bytes))) ∙ whole ∙ at_end (1 + length (pieces bytes)) h.place ∙ finished_ok (1 + length (pieces bytes)) h.place s h.script

record Ends (p : Place) (ls : List (List ℕ)) (s : Script) : Type 0 where
  place : Place
  taken : Follows p ls place
  script : script_of place ≡ Some s

ends_here : (n : ℕ) (p : Place) (s : Script) → finished n p ≡ Ok s → Ends p [] s
ends_here n (Start a) s h = absurd cc
ends_here n (Headed c) s h = record { place = Headed c; taken = here (Headed c); script = cc }
ends_here n (Session c current) s h = record { place = Session c current; taken = here (Session c current); script = cc }
ends_here n (Items c) s h = record { place = Items c; taken = here (Items c); script = cc }

ends_by : (n : ℕ) (p : Place) (l : List ℕ) (ls : List (List ℕ)) (s : Script) → ((q : Place) → script_from (n + 1) q ls ≡ Ok s → Ends q ls s) → (r : Result Place ScriptFaultKind) → judge p l ≡ r → Verdict p l r → script_from n p (l ∷ ls) ≡ Ok s → Ends p (l ∷ ls) s
ends_by n p l ls s more (Ok q) e v h =
    let d = more q (sym (taken_on n p l q ls e) ∙ h) in
    record { place = d.place; taken = next p l q ls d.place v d.taken; script = d.script }
ends_by n p l ls s more (Err k) e v h = absurd (let c = refused_at n p l k ls e in cc)

ends : (n : ℕ) (p : Place) (ls : List (List ℕ)) (s : Script) → script_from n p ls ≡ Ok s → Ends p ls s
ends n p [] s h = ends_here n p s (sym (at_end n p) ∙ h)
ends n p (l ∷ ls) s h = ends_by n p l ls s (λ q e. ends (n + 1) q ls s e) (judge p l) refl (verdict p l) h

pub script_found : (bytes : List ℕ) (s : Script) → script_from 1 (Start None) (pieces bytes) ≡ Ok s → SpellsScript bytes s
script_found bytes s h = let d = ends 1 (Start None) (pieces bytes) s h in record { place = d.place; taken = d.taken; script = d.script }

-- ---- the least bad line

one_line_more : (n first : ℕ) (p : Place) (l : List ℕ) (q : Place) (ls : List (List ℕ)) (m : ℕ) (k : ScriptFaultKind) → first ≡ n + 1 → Takes p l q → FailsFrom first q ls m k → FailsFrom n p (l ∷ ls) m k
one_line_more n _ p l _ _ _ _ e t (refused first q before r bad behind k f refusing) =
    let same : n + length (l ∷ before) ≡ first + length before = omega arith in
    subst (λ (i : ℕ). FailsFrom n p (l ∷ (before ++ bad ∷ behind)) i k) same (refused n p (l ∷ before) r bad behind k (next p l q before r t f) refusing)
one_line_more n _ p l _ _ _ _ e t (no_header first q ls a f) =
    let same : n + length (l ∷ ls) ≡ first + length ls = omega arith in
    subst (λ (i : ℕ). FailsFrom n p (l ∷ ls) i kinds.Header) same (no_header n p (l ∷ ls) a (next p l q ls (Start a) t f))

renamed : (n : ℕ) (p : Place) (ls : List (List ℕ)) (i : ℕ) (j : ScriptFaultKind) (m : ℕ) (k : ScriptFaultKind) → FailsFrom n p ls i j → i ≡ m → j ≡ k → FailsFrom n p ls m k
renamed n p ls i j m k h e f = subst (λ (u : ℕ). FailsFrom n p ls u k) e (subst (λ (v : ScriptFaultKind). FailsFrom n p ls i v) f h)

abbrev fault : {A : Type 0} → ℕ × ScriptFaultKind → Result A (ℕ × ScriptFaultKind)
fault x = Err x

pair_is : (x y : ℕ × ScriptFaultKind) → fault {A = Script} x ≡ fault {A = Script} y → x ≡ y
pair_is x y e = cc

fails_here : (n : ℕ) (p : Place) (m : ℕ) (k : ScriptFaultKind) → finished n p ≡ Err (m, k) → FailsFrom n p [] m k
fails_here n (Start a) m k h =
    let e = pair_is (n, kinds.Header) (m, k) h in
    renamed n (Start a) [] (n + 0) kinds.Header m k (no_header n (Start a) [] a (here (Start a))) (let f = ap (λ (x : ℕ × ScriptFaultKind). x.0) e in omega (arith, f)) (ap (λ (x : ℕ × ScriptFaultKind). x.1) e)
fails_here n (Headed c) m k h = absurd cc
fails_here n (Session c current) m k h = absurd cc
fails_here n (Items c) m k h = absurd cc

fails_by : (n : ℕ) (p : Place) (l : List ℕ) (ls : List (List ℕ)) (m : ℕ) (k : ScriptFaultKind) → ((q : Place) → script_from (n + 1) q ls ≡ Err (m, k) → FailsFrom (n + 1) q ls m k) → (r : Result Place ScriptFaultKind) → judge p l ≡ r → Verdict p l r → script_from n p (l ∷ ls) ≡ Err (m, k) → FailsFrom n p (l ∷ ls) m k
fails_by n p l ls m k more (Ok q) e v h = one_line_more n (n + 1) p l q ls m k refl v (more q (sym (taken_on n p l q ls e) ∙ h))
fails_by n p l ls m k more (Err j) e v h =
    let c = pair_is (n, j) (m, k) (sym (refused_at n p l j ls e) ∙ h) in
    renamed n p (l ∷ ls) (n + 0) j m k (refused n p [] p l ls j (here p) v) (let f = ap (λ (x : ℕ × ScriptFaultKind). x.0) c in omega (arith, f)) (ap (λ (x : ℕ × ScriptFaultKind). x.1) c)

pub fails : (n : ℕ) (p : Place) (ls : List (List ℕ)) (m : ℕ) (k : ScriptFaultKind) → script_from n p ls ≡ Err (m, k) → FailsFrom n p ls m k
fails n p [] m k h = fails_here n p m k (sym (at_end n p) ∙ h)
fails n p (l ∷ ls) m k h = fails_by n p l ls m k (λ q e. fails (n + 1) q ls m k e) (judge p l) refl (verdict p l) h

pub fails_again : (n : ℕ) (p : Place) (ls : List (List ℕ)) (m : ℕ) (k : ScriptFaultKind) → FailsFrom n p ls m k → script_from n p ls ≡ Err (m, k)
fails_again _ _ _ _ _ (refused n p before q l behind k f r) = follows_on n p before q (l ∷ behind) f ∙ refused_at (n + length before) q l k behind (refuses_again q l k r)
fails_again _ _ _ _ _ (no_header n p ls a f) = ap (script_from n p) (sym (append-nil ls)) ∙ follows_on n p ls (Start a) [] f ∙ at_end (n + length ls) (Start a)

-- ---- what was returned

pub step_ok : (n : ℕ) (p : Place) (l : List ℕ) (q : Place) → judge p l ≡ Ok q → (ls : List (List ℕ)) → script_from n p (l ∷ ls) ≡ script_from (n + 1) q ls
step_ok n p l q h ls = taken_on n p l q ls h

abbrev refusal : ScriptFaultKind → Result Place ScriptFaultKind
refusal k = Err k

abbrev at_line : ℕ → ScriptFaultKind → ScriptFault
at_line n k = record { line = n; kind = k }

pub step_err : (n : ℕ) (p : Place) (l : List ℕ) (k : ScriptFaultKind) → Judges (refusal k) (judge p l) → (ls : List (List ℕ)) → FaultIs (at_line n k) k (script_from n p (l ∷ ls))
step_err n p l kinds.Utf8 h ls = refused_at n p l kinds.Utf8 ls h
step_err n p l kinds.Header h ls = refused_at n p l kinds.Header ls h
step_err n p l kinds.Form h ls = refused_at n p l kinds.Form ls h
step_err n p l kinds.Session h ls = refused_at n p l kinds.Session ls h
step_err n p l kinds.Limit h ls = refused_at n p l kinds.Limit ls h
step_err n p l kinds.NoMemory h ls = tt

pub found : (bytes : List ℕ) (r : Result Script ScriptFault) → GivesScript r (script_from 1 (Start None) (pieces bytes)) → IfOk r (SpellsScript bytes)
found bytes (Ok s) h = script_found bytes s h
found bytes (Err f) h = tt

pub fit : (bytes : List ℕ) (r : Result Script ScriptFault) → GivesScript r (script_from 1 (Start None) (pieces bytes)) → IfOk r IsFit
fit bytes (Ok s) h = spelled_fit bytes s (script_found bytes s h)
fit bytes (Err f) h = tt

abbrev OutOfMemory : ScriptFault → Type 0
OutOfMemory f = f.kind ≡ kinds.NoMemory

no_fault : (f : ScriptFault) (k : ScriptFaultKind) (s : Script) (x : Result Script (ℕ × ScriptFaultKind)) → FaultIs f k x → x ≡ Ok s → k ≡ kinds.NoMemory
no_fault f kinds.Utf8 s x h e = absurd cc
no_fault f kinds.Header s x h e = absurd cc
no_fault f kinds.Form s x h e = absurd cc
no_fault f kinds.Session s x h e = absurd cc
no_fault f kinds.Limit s x h e = absurd cc
no_fault f kinds.NoMemory s x h e = refl

pub only : (bytes : List ℕ) (r : Result Script ScriptFault) → GivesScript r (script_from 1 (Start None) (pieces bytes)) → (s : Script) → SpellsScript bytes s → MatchResult r (λ x. x ≡ s) OutOfMemory
only bytes (Ok x) h s k = let e = script_again bytes s k in cc
only bytes (Err f) h s k = no_fault f f.kind s _ h (script_again bytes s k)

fault_gives : (f : ScriptFault) (k : ScriptFaultKind) (x : Result Script (ℕ × ScriptFaultKind)) → FaultIs f k x → (k ≡ kinds.NoMemory) ⊎ (x ≡ Err (f.line, k))
fault_gives f kinds.Utf8 x h = inr h
fault_gives f kinds.Header x h = inr h
fault_gives f kinds.Form x h = inr h
fault_gives f kinds.Session x h = inr h
fault_gives f kinds.Limit x h = inr h
fault_gives f kinds.NoMemory x h = inl refl

pub bad_line : (bytes : List ℕ) (r : Result Script ScriptFault) → GivesScript r (script_from 1 (Start None) (pieces bytes)) → IfErr r (λ f. (f.kind ≡ kinds.NoMemory) ⊎ FailsScript bytes f.line f.kind)
bad_line bytes (Ok s) h = tt
bad_line bytes (Err f) h = elim (fault_gives f f.kind _ h) [
  | inl m ↦ inl m
  | inr e ↦ inr (fails 1 (Start None) (pieces bytes) f.line f.kind e)
]

same_fault : (f : ScriptFault) (n : ℕ) (k : ScriptFaultKind) (x : Result Script (ℕ × ScriptFaultKind)) → x ≡ Err (f.line, f.kind) → x ≡ Err (n, k) → (f.line ≡ n) × (f.kind ≡ k)
same_fault f n k x e h =
    let p = pair_is (f.line, f.kind) (n, k) (sym e ∙ h) in
    (ap (λ (y : ℕ × ScriptFaultKind). y.0) p, ap (λ (y : ℕ × ScriptFaultKind). y.1) p)

pub least : (bytes : List ℕ) (r : Result Script ScriptFault) → GivesScript r (script_from 1 (Start None) (pieces bytes)) → (n : ℕ) (k : ScriptFaultKind) → FailsScript bytes n k → MatchResult r (λ _. ⊥) (λ f. (f.kind ≡ kinds.NoMemory) ⊎ ((f.line ≡ n) × (f.kind ≡ k)))
least bytes (Ok s) h n k b = let e = fails_again 1 (Start None) (pieces bytes) n k b in cc
least bytes (Err f) h n k b = elim (fault_gives f f.kind _ h) [
  | inl m ↦ inl m
  | inr e ↦ inr (same_fault f n k _ e (fails_again 1 (Start None) (pieces bytes) n k b))
]
