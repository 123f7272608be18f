-- What entries show that are listed the newest first, and what was put.
use Rattle.std.proofs.Common.{◌≡◌, ◌⊎◌, inl, inr, ℕ, suc, ◌≤◌, Bool, true, false, List, [], ◌∷◌, ◌++◌, refl, sym, ◌∙◌, ap, subst, arith}
use Rattle.std.proofs.lemmas.List.{append_assoc}
use Rattle.std.specs.Prelude.{Option, Some, None, if◌then◌else◌}
use Rattle.std.specs.Str.{bytes_eq}
use Rattle.std.proofs.lemmas.Slice.Eq.{bytes_eq-Decides}
use Rattle.edge_api.specs.declared.call.Tag.{Tag}
use Rattle.edge_api.specs.declared.call.Call.{Call}
use Rattle.edge_api.specs.declared.call.Call.TheVariants.{Get, PutNew}
use Rattle.edge_api.specs.declared.call.Answer.{Answer}
use Rattle.edge_api.specs.declared.call.Answer.TheVariants.{Fault, Body, Missing, Stored, Taken, Names, Gone, Time, Waited}
use Rattle.edge_api.specs.declared.call.JournalEntry.{JournalEntry}
use Rattle.edge_api.specs.declared.call.Object.{Object}
use Rattle.edge_api.specs.Journal.{Objects, same_tag, after_answer}
use Rattle.call_phases.specs.Phases.{Entries}
use Rattle.actor_core.specs.Entries.{own}
use Rattle.actor_core.proofs.Owners.{same_tag-refl, same_tag_is}
use Rattle.table_laws.specs.History.{Put, put_under, body_of, if_done}
use Rattle.table_laws.specs.Runs.{or_first, version_put, with_version, versions_put, first_given}
use Rattle.table_laws.proofs.Sessions.{GotIn, StoredIn}
use Rattle.table_laws.proofs.Lawful.{PutIn, FoundMissing, first_past}
use Rattle.table_laws.proofs.Puts.{or_else}

-- the entries, the newest first
abbrev pub backwards : Entries → Entries → Entries
backwards past [] = past
backwards past (e ∷ es) = backwards (e ∷ past) es

-- this body was put under the name
abbrev pub InPut : List Put → List ℕ → List ℕ → Type 0
InPut ps n b = body_of (put_under ps n) ≡ Some b

-- it was put no later than this clock, or at this clock
abbrev pub PutBefore : List Put → ℕ → List ℕ → List ℕ → Type 0
PutBefore ps time n b = (p : Put) × (put_under ps n ≡ Some p) × (p.body ≡ b) × (p.at ≤ time)

abbrev pub PutAt : List Put → List ℕ → ℕ → Type 0
PutAt ps n at = (p : Put) × (put_under ps n ≡ Some p) × (p.at ≡ at)

-- an object is what was put under its name
pub record PutAs (ps : List Put) (n : List ℕ) (o : Object) : Type 0 where
  pub put : Put
  pub is : put_under ps n ≡ Some put
  pub body : put.body ≡ o.body
  pub at : put.at ≡ o.put_at

-- its session knows it, or it was put
abbrev pub Sure : (Tag → List ℕ → List ℕ → Type 0) → Tag → List Put → List ℕ → List ℕ → Type 0
Sure K tag ps n b = K tag n b ⊎ InPut ps n b

-- the statement of a put made it
pub record IsMadeIn (past : Entries) (n : List ℕ) (p : Put) : Type 0 where
  pub answer : Answer
  pub made : PutIn (own p.tag past) n p.body answer
  pub landed : answer ≡ Taken → ⊥

-- a statement stored it
pub record IsPutBy (ps : List Put) (t : Tag) (n b : List ℕ) : Type 0 where
  pub put : Put
  pub is : put_under ps n ≡ Some put
  pub body : put.body ≡ b
  pub tag : put.tag ≡ t

pub sure_more : (K : Tag → List ℕ → List ℕ → Type 0) (tag : Tag) (ps qs : List Put) → ((n b : List ℕ) → InPut ps n b → InPut qs n b) → (n b : List ℕ) → Sure K tag ps n b → Sure K tag qs n b
sure_more K tag ps qs more n b (inl before) = inl before
sure_more K tag ps qs more n b (inr put) = inr (more n b put)

-- what a statement's own entries show, all entries show
pub own_got : (t : Tag) (past : Entries) (n b : List ℕ) → GotIn (own t past) n b → GotIn past n b
own_got t [] n b h = h
own_got t (e ∷ past) n b h = by (same_tag t e.tag) h (own_got t past n b)
  where
    by : (c : Bool) → GotIn (if c then e ∷ own t past else own t past) n b → (GotIn (own t past) n b → GotIn past n b) → GotIn (e ∷ past) n b
    by true (inl here) rest = inl here
    by true (inr there) rest = inr (rest there)
    by false there rest = inr (rest there)

-- a statement's newest entry, or an earlier one, stored it
pub stored_now : (t : Tag) (e : JournalEntry) (past : Entries) (n b : List ℕ) → StoredIn (own t (e ∷ past)) n b → ((e.tag ≡ t) × (e.call ≡ PutNew n b) × (e.answer ≡ Stored)) ⊎ StoredIn (own t past) n b
stored_now t e past n b h = by (same_tag t e.tag) refl h
  where
    by : (c : Bool) → same_tag t e.tag ≡ c → StoredIn (if c then e ∷ own t past else own t past) n b → ((e.tag ≡ t) × (e.call ≡ PutNew n b) × (e.answer ≡ Stored)) ⊎ StoredIn (own t past) n b
    by true is (inl here) = inl (sym (same_tag_is t e.tag is), here.0, here.1)
    by true is (inr there) = inr there
    by false is there = inr there

pub put_more : (t : Tag) (e : JournalEntry) (past : Entries) (n b : List ℕ) (a : Answer) → PutIn (own t past) n b a → PutIn (own t (e ∷ past)) n b a
put_more t e past n b a h = by (same_tag t e.tag)
  where
    by : (c : Bool) → PutIn (if c then e ∷ own t past else own t past) n b a
    by true = inr h
    by false = h

pub put_now : (e : JournalEntry) (past : Entries) (n b : List ℕ) → e.call ≡ PutNew n b → PutIn (own e.tag (e ∷ past)) n b e.answer
put_now e past n b is = subst (λ (c : Bool). PutIn (if c then e ∷ own e.tag past else own e.tag past) n b e.answer) (sym (same_tag-refl e.tag)) (inl (is, refl))

-- a statement's newest entry found nothing, or its newest before
pub missing_now : (t : Tag) (e : JournalEntry) (past : Entries) (n : List ℕ) → FoundMissing (own t (e ∷ past)) n → ((e.tag ≡ t) × (e.call ≡ Get n) × (e.answer ≡ Missing)) ⊎ ((e.tag ≡ t → ⊥) × FoundMissing (own t past) n)
missing_now t e past n h = by (same_tag t e.tag) refl h
  where
    other : same_tag t e.tag ≡ false → e.tag ≡ t → ⊥
    other is same = let bad : true ≡ false = sym (same_tag-refl t) ∙ ap (λ (u : Tag). same_tag t u) (sym same) ∙ is in cc

    by : (c : Bool) → same_tag t e.tag ≡ c → FoundMissing (if c then e ∷ own t past else own t past) n → ((e.tag ≡ t) × (e.call ≡ Get n) × (e.answer ≡ Missing)) ⊎ ((e.tag ≡ t → ⊥) × FoundMissing (own t past) n)
    by true is here = inl (sym (same_tag_is t e.tag is), here.0, here.1)
    by false is there = inr (other is, there)

-- a statement's puts of commits, after an entry that is none of them
pub none_more : (t : Tag) (e : JournalEntry) (past : Entries) → (e.tag ≡ t → version_put e.call ≡ None) → versions_put (own t (e ∷ past)) ≡ versions_put (own t past)
none_more t e past none = by (same_tag t e.tag) refl
  where
    by : (c : Bool) → same_tag t e.tag ≡ c → versions_put (if c then e ∷ own t past else own t past) ≡ versions_put (own t past)
    by true is = ap (λ (o : Option ℕ). with_version o (versions_put (own t past))) (none (sym (same_tag_is t e.tag is)))
    by false is = refl

-- after one of them
pub one_more : (e : JournalEntry) (past : Entries) (v : ℕ) → version_put e.call ≡ Some v → versions_put (own e.tag (e ∷ past)) ≡ v ∷ versions_put (own e.tag past)
one_more e past v is = ap (λ (c : Bool). versions_put (if c then e ∷ own e.tag past else own e.tag past)) (same_tag-refl e.tag) ∙ ap (λ (o : Option ℕ). with_version o (versions_put (own e.tag past))) is

pub put_of_body : (o : Option Put) (b : List ℕ) → body_of o ≡ Some b → (q : Put) × (o ≡ Some q)
put_of_body None b h = cc
put_of_body (Some q) b h = (q, refl)

pub put_with : (ps : List Put) (n b : List ℕ) → InPut ps n b → (q : Put) × (put_under ps n ≡ Some q) × (q.body ≡ b)
put_with ps n b h = by (put_under ps n) refl h
  where
    same : (q : Put) → Some q.body ≡ Some b → q.body ≡ b
    same q k = cc

    by : (o : Option Put) → put_under ps n ≡ o → body_of o ≡ Some b → (q : Put) × (put_under ps n ≡ Some q) × (q.body ≡ b)
    by None is k = cc
    by (Some q) is k = (q, is, same q k)

-- a put that is in its place among more
pub more_after : (ps : List Put) (p : Put) (earlier later rest : List Put) → ps ≡ earlier ++ p ∷ later → ps ++ rest ≡ earlier ++ p ∷ (later ++ rest)
more_after ps p earlier later rest is = ap (λ (l : List Put). l ++ rest) is ∙ append_assoc earlier (p ∷ later) rest

given_on : (a b : Option ℕ) (r : ℕ) → a ≡ Some r → or_first a b ≡ Some r
given_on a b r is = ap (λ (o : Option ℕ). or_first o b) is

pub given_more : (given : Call → Answer → Option ℕ) (t : Tag) (e : JournalEntry) (past : Entries) (r : ℕ) → first_past given (own t past) ≡ Some r → first_past given (own t (e ∷ past)) ≡ Some r
given_more given t e past r h = by (same_tag t e.tag)
  where
    by : (c : Bool) → first_past given (if c then e ∷ own t past else own t past) ≡ Some r
    by true = given_on (first_past given (own t past)) (given e.call e.answer) r h
    by false = h

first_assoc : (a b d : Option ℕ) → or_first (or_first a b) d ≡ or_first a (or_first b d)
first_assoc None b d = refl
first_assoc (Some a) b d = refl

given_backwards : (given : Call → Answer → Option ℕ) (t : Tag) (past es : Entries) → first_past given (own t (backwards past es)) ≡ or_first (first_past given (own t past)) (first_given given (own t es))
given_backwards given t past [] = none (first_past given (own t past))
  where
    none : (a : Option ℕ) → a ≡ or_first a None
    none None = refl
    none (Some a) = refl
given_backwards given t past (e ∷ es) = given_backwards given t (e ∷ past) es ∙ by (same_tag t e.tag)
  where
    by : (c : Bool) → or_first (first_past given (if c then e ∷ own t past else own t past)) (first_given given (own t es)) ≡ or_first (first_past given (own t past)) (first_given given (if c then e ∷ own t es else own t es))
    by true = first_assoc (first_past given (own t past)) (given e.call e.answer) (first_given given (own t es))
    by false = refl

-- what the entries give first, in the order of the journal
pub given_is : (given : Call → Answer → Option ℕ) (t : Tag) (past es : Entries) → past ≡ backwards [] es → first_past given (own t past) ≡ first_given given (own t es)
given_is given t past es is = ap (λ (l : Entries). first_past given (own t l)) is ∙ given_backwards given t [] es

got_backwards : (t : Tag) (past es : Entries) (n b : List ℕ) → GotIn (own t past) n b ⊎ GotIn (own t es) n b → GotIn (own t (backwards past es)) n b
got_backwards t past [] n b (inl h) = h
got_backwards t past [] n b (inr h) = absurd h
got_backwards t past (e ∷ es) n b h = got_backwards t (e ∷ past) es n b (by (same_tag t e.tag) h)
  where
    by : (c : Bool) → GotIn (own t past) n b ⊎ GotIn (if c then e ∷ own t es else own t es) n b → GotIn (if c then e ∷ own t past else own t past) n b ⊎ GotIn (own t es) n b
    by true (inl h) = inl (inr h)
    by true (inr (inl h)) = inl (inl h)
    by true (inr (inr h)) = inr h
    by false h = h

stored_backwards : (t : Tag) (past es : Entries) (n b : List ℕ) → StoredIn (own t past) n b ⊎ StoredIn (own t es) n b → StoredIn (own t (backwards past es)) n b
stored_backwards t past [] n b (inl h) = h
stored_backwards t past [] n b (inr h) = absurd h
stored_backwards t past (e ∷ es) n b h = stored_backwards t (e ∷ past) es n b (by (same_tag t e.tag) h)
  where
    by : (c : Bool) → StoredIn (own t past) n b ⊎ StoredIn (if c then e ∷ own t es else own t es) n b → StoredIn (if c then e ∷ own t past else own t past) n b ⊎ StoredIn (own t es) n b
    by true (inl h) = inl (inr h)
    by true (inr (inl h)) = inl (inl h)
    by true (inr (inr h)) = inr h
    by false h = h

-- what an entry of the journal shows is shown at the end
pub got_at : (t : Tag) (past es : Entries) (n b : List ℕ) → past ≡ backwards [] es → GotIn (own t es) n b → GotIn (own t past) n b
got_at t past es n b is h = subst (λ (l : Entries). GotIn (own t l) n b) (sym is) (got_backwards t [] es n b (inr h))

pub stored_at : (t : Tag) (past es : Entries) (n b : List ℕ) → past ≡ backwards [] es → StoredIn (own t es) n b → StoredIn (own t past) n b
stored_at t past es n b is h = subst (λ (l : Entries). StoredIn (own t l) n b) (sym is) (stored_backwards t [] es n b (inr h))

pub kept_put : (x y : Option Put) (p : Put) → x ≡ Some p → or_else x y ≡ Some p
kept_put None y p h = cc
kept_put (Some q) y p h = h

pub kept_body : (x y : Option Put) (b : List ℕ) → body_of x ≡ Some b → body_of (or_else x y) ≡ Some b
kept_body None y b h = cc
kept_body (Some p) y b h = h

pub old_or_new : (x y : Option Put) (q : Put) → or_else x y ≡ Some q → (x ≡ Some q) ⊎ (y ≡ Some q)
old_or_new None y q h = inr h
old_or_new (Some p) y q h = inl h

one_if : (p q : Put) (b : Bool) → (if b then Some p else None) ≡ Some q → (b ≡ true) × (p ≡ q)
one_if p q true h = (refl, cc)
one_if p q false h = cc

pub one_under : (p q : Put) (n : List ℕ) → put_under (p ∷ []) n ≡ Some q → (p.name ≡ n) × (p ≡ q)
one_under p q n h = let two = one_if p q (bytes_eq p.name n) h in ((bytes_eq-Decides p.name n).0 two.0, two.1)

pub one_itself : (p : Put) → put_under (p ∷ []) p.name ≡ Some p
one_itself p = ap (λ (b : Bool). if b then Some p else None) ((bytes_eq-Decides p.name p.name).1 refl)

pub one_other : (p : Put) (n : List ℕ) → (p.name ≡ n → ⊥) → put_under (p ∷ []) n ≡ None
one_other p n apart = by (bytes_eq p.name n) refl
  where
    by : (b : Bool) → bytes_eq p.name n ≡ b → (if b then Some p else None) ≡ None
    by true is = absurd (apart ((bytes_eq-Decides p.name n).0 is))
    by false is = refl

pub suc_same : (v w : ℕ) → suc v ≡ suc w → v ≡ w
suc_same v w h = omega arith

pub some_same : {A : Type 0} (x y : A) → Some x ≡ Some y → x ≡ y
some_same x y h = cc

pub same_if_done : (a : Answer) (u : Bool) → if_done a u [] ≡ []
same_if_done Fault true = refl
same_if_done Fault false = refl
same_if_done (Body b) u = refl
same_if_done Missing u = refl
same_if_done Stored u = refl
same_if_done Taken u = refl
same_if_done (Names l) u = refl
same_if_done Gone u = refl
same_if_done (Time t) u = refl
same_if_done Waited u = refl

pub same_after : (a : Answer) (u : Bool) (os : Objects) → after_answer a u os os ≡ os
same_after Fault true os = refl
same_after Fault false os = refl
same_after (Body b) u os = refl
same_after Missing u os = refl
same_after Stored u os = refl
same_after Taken u os = refl
same_after (Names l) u os = refl
same_after Gone u os = refl
same_after (Time t) u os = refl
same_after Waited u os = refl
