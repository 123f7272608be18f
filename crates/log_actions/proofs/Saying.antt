-- The lines of a text say what reading them one after another gives.
use Rattle.std.proofs.Common.{◌≡◌, ◌≤◌, ℕ, ◌+◌, Bool, true, false, if◌then◌else◌, nat_lt, List, [], ◌∷◌, ◌++◌, length, Result, Ok, Err, Vec, Global, inl, inr, refl, sym, ap, ◌∙◌, subst, append_assoc, arith}
use Rattle.std.specs.Result.{IfOk, IfErr, MatchResult}
use Rattle.std.proofs.lemmas.Bool.{ltb-true, ltb-false}
use Rattle.std.proofs.lemmas.List.{append-nil}
use Rattle.json_lines.specs.Lines.{lines, is_blank}
use Rattle.log_actions.specs.declared.action.Action.{Action}
use Rattle.log_actions.specs.declared.fault.LogFault.{LogFault}
use Rattle.log_actions.specs.declared.fault.LogFaultKind.{LogFaultKind}
use Rattle.log_actions.specs.declared.fault.LogFaultKind.TheVariants as kinds
use Rattle.log_actions.specs.Commit.{judged, onward, actions_from, actions_of, max_bytes, IsKind, FaultOf}
use Rattle.log_actions.specs.Grammar.{Says, nothing, blank, line, Commit, WrongLine, FirstWrong}

abbrev Read : Type 0
Read = Result (List Action) LogFault

all_in : Read → List Action → List Action
all_in (Ok all) d = all
all_in (Err f) d = d

line_in : Read → ℕ → ℕ
line_in (Ok all) d = d
line_in (Err f) d = f.line

kind_in : Read → LogFaultKind → LogFaultKind
kind_in (Ok all) d = d
kind_in (Err f) d = f.kind

same_all : (xs ys : List Action) → (let r : Read = Ok xs in r) ≡ Ok ys → xs ≡ ys
unfolding all_in
same_all xs ys e = ap (λ r. all_in r []) e

-- what a reading that ended well found
record Found (done : List Action) (ls : List (List ℕ)) (all : List Action) : Type 0 where
  rest : List Action
  parts : all ≡ done ++ rest
  says : Says done ls rest

found_line : (b : Bool) (r : Result Action LogFaultKind) (n : ℕ) (done : List Action) (l : List ℕ) (ls : List (List ℕ)) (all : List Action)
    → ((m : ℕ) (some : List Action) → actions_from m some ls ≡ Ok all → Found some ls all) → is_blank l ≡ b → judged done l ≡ r
    → (if b then actions_from (n + 1) done ls else onward n r (λ a. actions_from (n + 1) (done ++ a ∷ []) ls)) ≡ Ok all → Found done (l ∷ ls) all
found_line true r n done l ls all again is says e =
    let x = again (n + 1) done e in
    record { rest = x.rest; parts = x.parts; says = blank done l ls x.rest is x.says }
found_line false (Ok a) n done l ls all again is says e =
    let x = again (n + 1) (done ++ a ∷ []) e in
    record { rest = a ∷ x.rest; parts = x.parts ∙ append_assoc done (a ∷ []) x.rest; says = line done l ls a x.rest is says x.says }
found_line false (Err k) n done l ls all again is says e = cc

found : (ls : List (List ℕ)) (n : ℕ) (done all : List Action) → actions_from n done ls ≡ Ok all → Found done ls all
unfolding actions_from
found [] n done all e = record { rest = []; parts = sym (same_all done all e) ∙ sym (append-nil done); says = nothing done }
found (l ∷ ls) n done all e = found_line (is_blank l) (judged done l) n done l ls all (λ m some h. found ls m some all h) refl refl e

-- reading gives what the lines say
only : (earlier : List Action) (ls : List (List ℕ)) (actions : List Action) → Says earlier ls actions → (n : ℕ) → actions_from n earlier ls ≡ Ok (earlier ++ actions)
unfolding actions_from
only _ _ _ (nothing earlier) n = ap Ok (sym (append-nil earlier))
only _ _ _ (blank earlier l ls actions is says) n =
    ap (λ b. if b then actions_from (n + 1) earlier ls else onward n (judged earlier l) (λ a. actions_from (n + 1) (earlier ++ a ∷ []) ls)) is ∙ only earlier ls actions says (n + 1)
only _ _ _ (line earlier l ls a actions is reads says) n =
    ap (λ b. if b then actions_from (n + 1) earlier ls else onward n (judged earlier l) (λ x. actions_from (n + 1) (earlier ++ x ∷ []) ls)) is
    ∙ ap (λ r. onward n r (λ x. actions_from (n + 1) (earlier ++ x ∷ []) ls)) reads
    ∙ only (earlier ++ a ∷ []) ls actions says (n + 1) ∙ ap Ok (append_assoc earlier (a ∷ []) actions)

-- the first wrong line
wrong_line : (b : Bool) (r : Result Action LogFaultKind) (n : ℕ) (done : List Action) (l : List ℕ) (ls : List (List ℕ)) (f : LogFault)
    → ((m : ℕ) (some : List Action) → actions_from m some ls ≡ Err f → WrongLine m some ls f) → is_blank l ≡ b → judged done l ≡ r
    → (if b then actions_from (n + 1) done ls else onward n r (λ a. actions_from (n + 1) (done ++ a ∷ []) ls)) ≡ Err f → WrongLine n done (l ∷ ls) f
unfolding line_in kind_in
wrong_line true r n done l ls f again is says e =
    let x = again (n + 1) done e in
    record {
      before = l ∷ x.before;
      wrong = x.wrong;
      after = x.after;
      actions = x.actions;
      parts = ap (λ ks. l ∷ ks) x.parts;
      place = x.place ∙ omega arith;
      says = blank done l x.before x.actions is x.says;
      not_blank = x.not_blank;
      kind = x.kind;
    }
wrong_line false (Ok a) n done l ls f again is says e =
    let x = again (n + 1) (done ++ a ∷ []) e in
    record {
      before = l ∷ x.before;
      wrong = x.wrong;
      after = x.after;
      actions = a ∷ x.actions;
      parts = ap (λ ks. l ∷ ks) x.parts;
      place = x.place ∙ omega arith;
      says = line done l x.before a x.actions is says x.says;
      not_blank = x.not_blank;
      kind = ap (λ some. judged some x.wrong) (sym (append_assoc done (a ∷ []) x.actions)) ∙ x.kind;
    }
wrong_line false (Err k) n done l ls f again is says e =
    record {
      before = [];
      wrong = l;
      after = ls;
      actions = [];
      parts = refl;
      place = sym (ap (λ r. line_in r 0) e) ∙ omega arith;
      says = nothing done;
      not_blank = is;
      kind = ap (λ some. judged some l) (append-nil done) ∙ says ∙ ap Err (ap (λ r. kind_in r k) e);
    }

wrong : (ls : List (List ℕ)) (n : ℕ) (done : List Action) (f : LogFault) → actions_from n done ls ≡ Err f → WrongLine n done ls f
unfolding actions_from
wrong [] n done f e = cc
wrong (l ∷ ls) n done f e = wrong_line (is_blank l) (judged done l) n done l ls f (λ m some h. wrong ls m some f h) refl refl e

-- whole texts
says_at : (b : Bool) (bytes : List ℕ) (all : List Action) → nat_lt max_bytes (length bytes) ≡ b
    → (if b then (let r : Read = Err (record { line = 1; kind = kinds.Shape }) in r) else actions_from 1 [] (lines bytes)) ≡ Ok all → Commit bytes all
says_at true bytes all is e = cc
says_at false bytes all is e =
    let x = found (lines bytes) 1 [] all e in
    record { short = ltb-false max_bytes (length bytes) is; says = subst (Says [] (lines bytes)) (sym x.parts) x.says }

says_all : (bytes : List ℕ) (all : List Action) → actions_of bytes ≡ Ok all → Commit bytes all
unfolding actions_of
says_all bytes all e = says_at (nat_lt max_bytes (length bytes)) bytes all refl e

not_long : (bytes : List ℕ) (b : Bool) → nat_lt max_bytes (length bytes) ≡ b → length bytes ≤ max_bytes → b ≡ false
not_long bytes true is h = absurd (omega (arith, ltb-true max_bytes (length bytes) is))
not_long bytes false is h = refl

-- what a text says is what it is read as
pub reads_all : (bytes : List ℕ) (all : List Action) → Commit bytes all → actions_of bytes ≡ Ok all
unfolding actions_of
reads_all bytes all c =
    ap (λ b. if b then (let r : Read = Err (record { line = 1; kind = kinds.Shape }) in r) else actions_from 1 [] (lines bytes)) (not_long bytes (nat_lt max_bytes (length bytes)) refl c.short)
    ∙ only [] (lines bytes) all c.says 1

wrong_at : (b : Bool) (bytes : List ℕ) (f : LogFault) → nat_lt max_bytes (length bytes) ≡ b
    → (if b then (let r : Read = Err (record { line = 1; kind = kinds.Shape }) in r) else actions_from 1 [] (lines bytes)) ≡ Err f → FirstWrong bytes f
unfolding line_in kind_in
wrong_at true bytes f is e =
    inl (record { long = ltb-true max_bytes (length bytes) is; place = sym (ap (λ r. line_in r 0) e); kind = sym (ap (λ r. kind_in r kinds.Json) e) })
wrong_at false bytes f is e = inr (ltb-false max_bytes (length bytes) is, wrong (lines bytes) 1 [] f e)

wrong_all : (bytes : List ℕ) (f : LogFault) → actions_of bytes ≡ Err f → FirstWrong bytes f
unfolding actions_of
wrong_all bytes f e = wrong_at (nat_lt max_bytes (length bytes)) bytes f refl e

-- what was returned
abbrev Returned : Type 0
Returned = Result (Vec Action Global) LogFault

abbrev pub Exact : List ℕ → Returned → Type 0
Exact bytes r = MatchResult r (λ v. actions_of bytes ≡ Ok v.items) (λ f. FaultOf f (actions_of bytes))

pub says_what : (bytes : List ℕ) (r : Returned) → Exact bytes r → IfOk r (λ v. Commit bytes v.items)
says_what bytes (Ok v) h = says_all bytes v.items h
says_what bytes (Err f) h = tt

-- no text with a fault says actions
only_memory : (bytes : List ℕ) (all : List Action) (f : LogFault) (k : LogFaultKind) → actions_of bytes ≡ Ok all → IsKind k (actions_of bytes ≡ Err f) → k ≡ kinds.NoMemory
only_memory bytes all f kinds.Json e h = cc
only_memory bytes all f kinds.Shape e h = cc
only_memory bytes all f kinds.Twice e h = cc
only_memory bytes all f (kinds.Unsupported x) e h = cc
only_memory bytes all f kinds.NoMemory e h = refl

pub only_what : (bytes : List ℕ) (r : Returned) → Exact bytes r → (all : List Action) → Commit bytes all → MatchResult r (λ v. v.items ≡ all) (λ f. f.kind ≡ kinds.NoMemory)
only_what bytes (Ok v) h all c = same_all v.items all (sym h ∙ reads_all bytes all c)
only_what bytes (Err f) h all c = only_memory bytes all f f.kind (reads_all bytes all c) h

wrong_kind : (bytes : List ℕ) (f : LogFault) (k : LogFaultKind) → IsKind k (actions_of bytes ≡ Err f) → IsKind k (FirstWrong bytes f)
wrong_kind bytes f kinds.Json h = wrong_all bytes f h
wrong_kind bytes f kinds.Shape h = wrong_all bytes f h
wrong_kind bytes f kinds.Twice h = wrong_all bytes f h
wrong_kind bytes f (kinds.Unsupported x) h = wrong_all bytes f h
wrong_kind bytes f kinds.NoMemory h = tt

pub wrong_what : (bytes : List ℕ) (r : Returned) → Exact bytes r → IfErr r (λ f. IsKind f.kind (FirstWrong bytes f))
wrong_what bytes (Ok v) h = tt
wrong_what bytes (Err f) h = wrong_kind bytes f f.kind h

-- what the lines of a short text read as is what it says
pub says_short : (bytes : List ℕ) (all : List Action) → length bytes ≤ max_bytes → actions_from 1 [] (lines bytes) ≡ Ok all → Commit bytes all
says_short bytes all short e =
    let x = found (lines bytes) 1 [] all e in
    record { short = short; says = subst (Says [] (lines bytes)) (sym x.parts) x.says }
