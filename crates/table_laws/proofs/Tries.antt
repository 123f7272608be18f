-- The versions whose commits a statement puts, in the order of the journal.
use Rattle.std.proofs.Common.{◌≡◌, ℕ, zero, suc, ◌+◌, Bool, true, false, List, [], ◌∷◌, ◌++◌, refl, sym, ◌∙◌, ap, arith}
use Rattle.std.proofs.lemmas.List.{append-nil, append_assoc}
use Rattle.std.specs.Prelude.{Option, Some, None, if◌then◌else◌}
use Rattle.std.specs.Str.{bytes_eq}
use Rattle.std.proofs.lemmas.Slice.Eq.{bytes_eq-Decides}
use Rattle.edge_api.specs.declared.call.Tag.{Tag}
use Rattle.call_phases.specs.Phases.{Entries}
use Rattle.edge_api.specs.Journal.{same_tag}
use Rattle.actor_core.specs.Entries.{own}
use Rattle.table_laws.specs.History.{Put, put_under, body_of}
use Rattle.table_laws.specs.Runs.{version_put, with_version, versions_put}
use Rattle.table_laws.specs.Laws.{versions_from}
use Rattle.table_laws.proofs.Lawful.{versions_down}
use Rattle.table_laws.proofs.Shown.{InPut, backwards, put_of_body}

-- the first list from its end, before the second
abbrev pub onto : List ℕ → List ℕ → List ℕ
onto [] ys = ys
onto (x ∷ xs) ys = onto xs (x ∷ ys)

onto_twice : (xs ys zs : List ℕ) → onto (onto xs ys) zs ≡ onto ys (xs ++ zs)
onto_twice [] ys zs = refl
onto_twice (x ∷ xs) ys zs = onto_twice xs (x ∷ ys) zs

from_last : (v n : ℕ) → versions_from v (suc n) ≡ versions_from v n ++ (v + n) ∷ []
from_last v zero = let same : v ≡ v + 0 = omega arith in ap (λ (m : ℕ). m ∷ []) same
from_last v (suc n) =
    let same : suc v + n ≡ v + suc n = omega arith in
    ap (λ (l : List ℕ). v ∷ l) (from_last (suc v) n) ∙ ap (λ (m : ℕ). v ∷ (versions_from (suc v) n ++ m ∷ [])) same

down_up : (read n : ℕ) (ys : List ℕ) → onto (versions_down read n) ys ≡ versions_from (read + 1) n ++ ys
down_up read zero ys = refl
down_up read (suc n) ys =
    let same : read + suc n ≡ read + 1 + n = omega arith in
    down_up read n ((read + suc n) ∷ ys) ∙ ap (λ (m : ℕ). versions_from (read + 1) n ++ m ∷ ys) same
    ∙ sym (ap (λ (l : List ℕ). l ++ ys) (from_last (read + 1) n) ∙ append_assoc (versions_from (read + 1) n) ((read + 1 + n) ∷ []) ys)

versions_back : (t : Tag) (past es : Entries) → versions_put (own t (backwards past es)) ≡ onto (versions_put (own t es)) (versions_put (own t past))
versions_back t past [] = refl
versions_back t past (e ∷ es) = versions_back t (e ∷ past) es ∙ by (same_tag t e.tag)
  where
    one : (o : Option ℕ) → onto (versions_put (own t es)) (with_version o (versions_put (own t past))) ≡ onto (with_version o (versions_put (own t es))) (versions_put (own t past))
    one None = refl
    one (Some v) = refl

    by : (c : Bool) → onto (versions_put (own t es)) (versions_put (if c then e ∷ own t past else own t past)) ≡ onto (versions_put (if c then e ∷ own t es else own t es)) (versions_put (own t past))
    by true = one (version_put e.call)
    by false = refl

-- the newest first says what the oldest first says
pub put_turned : (t : Tag) (past es : Entries) (vs : List ℕ) → past ≡ backwards [] es → versions_put (own t past) ≡ vs → versions_put (own t es) ≡ onto vs []
put_turned t past es vs is put =
    let whole : onto (versions_put (own t es)) [] ≡ vs = sym (versions_back t [] es) ∙ ap (λ (l : Entries). versions_put (own t l)) (sym is) ∙ put in
    let back : onto (onto (versions_put (own t es)) []) [] ≡ versions_put (own t es) = onto_twice (versions_put (own t es)) [] [] ∙ append-nil (versions_put (own t es)) in
    sym back ∙ ap (λ (l : List ℕ). onto l []) whole

pub put_in_order : (t : Tag) (past es : Entries) (read n : ℕ) → past ≡ backwards [] es → versions_put (own t past) ≡ versions_down read n → versions_put (own t es) ≡ versions_from (read + 1) n
put_in_order t past es read n is down = put_turned t past es (versions_down read n) is down ∙ down_up read n [] ∙ append-nil (versions_from (read + 1) n)

-- a put among more is found
pub put_under-front : (xs ys : List Put) (n : List ℕ) (q : Put) → put_under xs n ≡ Some q → put_under (xs ++ ys) n ≡ Some q
put_under-front [] ys n q h = cc
put_under-front (p ∷ xs) ys n q h = by (bytes_eq p.name n) h (put_under-front xs ys n q)
  where
    by : (b : Bool) → (if b then Some p else put_under xs n) ≡ Some q → (put_under xs n ≡ Some q → put_under (xs ++ ys) n ≡ Some q) → (if b then Some p else put_under (xs ++ ys) n) ≡ Some q
    by true h rest = h
    by false h rest = rest h

-- and so is its body
pub in_front : (xs ys : List Put) (n b : List ℕ) → InPut xs n b → InPut (xs ++ ys) n b
in_front xs ys n b h = let q = put_of_body (put_under xs n) b h in ap body_of (put_under-front xs ys n q.0 q.1 ∙ sym q.1) ∙ h

-- a put behind others is found under its name where no other is there
pub put_under-behind : (xs ys : List Put) (p : Put) (n : List ℕ) → p.name ≡ n → put_under xs n ≡ None → put_under (xs ++ p ∷ ys) n ≡ Some p
put_under-behind [] ys p n is none = ap (λ (b : Bool). if b then Some p else put_under ys n) ((bytes_eq-Decides p.name n).1 is)
put_under-behind (x ∷ xs) ys p n is none = by (bytes_eq x.name n) none (put_under-behind xs ys p n is)
  where
    by : (b : Bool) → (if b then Some x else put_under xs n) ≡ None → (put_under xs n ≡ None → put_under (xs ++ p ∷ ys) n ≡ Some p) → (if b then Some x else put_under (xs ++ p ∷ ys) n) ≡ Some p
    by true h rest = cc
    by false h rest = rest h
