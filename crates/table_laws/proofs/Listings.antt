-- The newest version of a listing of the log is the newest that is committed.
use Rattle.std.proofs.Common.{◌≡◌, ◌⊎◌, inl, inr, ℕ, ◌<◌, ◌≤◌, ◌^◌, Bool, true, false, List, [], ◌∷◌, refl, sym, ◌∙◌, ap, subst, arith}
use Rattle.std.specs.Prelude.{Option, Some, None, if◌then◌else◌, nat_eq, nat_lt, max}
use Rattle.std.proofs.lemmas.Bool.Decides.{nat_tests}
use Rattle.std.specs.List.{starts_with}
use Rattle.std.specs.Str.{bytes_eq}
use Rattle.std.proofs.lemmas.Slice.Eq.{bytes_eq-Decides}
use Rattle.edge_api.specs.declared.call.Tag.{Tag}
use Rattle.edge_api.specs.declared.call.Call.{Call}
use Rattle.edge_api.specs.declared.call.Call.TheVariants.{Get, PutNew, Put as Replace, List as ListNames, Delete, Now, Wait}
use Rattle.edge_api.specs.declared.call.Answer.{Answer}
use Rattle.edge_api.specs.declared.call.Answer.TheVariants.{Fault, Body, Missing, Stored, Taken, Names, Gone, Time, Waited}
use Rattle.edge_api.specs.declared.call.Listed.{Listed}
use Rattle.edge_api.specs.declared.call.Object.{Object}
use Rattle.edge_api.specs.Journal.{Objects, object_at, listing}
use Rattle.op_types.specs.declared.statement.Statement.{Statement}
use Rattle.op_types.specs.declared.reply.Reply.{Reply}
use Rattle.table_rules.specs.Names.{log_prefix, log_name, commit_text}
use Rattle.table_rules.specs.Told.{IsTag}
use Rattle.table_rules.specs.declared.log.LogName.{LogName}
use Rattle.table_rules.specs.declared.log.LogName.TheVariants as log
use Rattle.table_rules.proofs.Names.{commit_is_read, only_commit_is_read, commit_is_in_log}
use Rattle.call_phases.specs.Phases.{Entries}
use Rattle.statement_calls.specs.Listing.{commit_of, commit_version, later, newest}
use Rattle.table_laws.specs.History.{Put, put_under, IsCommitted}
use Rattle.table_laws.specs.Runs.{listed_by}
use Rattle.table_laws.specs.Views.{IsNewest}
use Rattle.table_laws.proofs.Members.{is_in}
use Rattle.table_laws.proofs.Shown.{some_same}
use Rattle.table_laws.proofs.Readings.{is_some}
use Rattle.table_laws.proofs.Standing.{Stands}

-- a version is among those that are listed
abbrev pub HasVersion : ℕ → List Listed → Type 0
HasVersion v [] = ⊥
HasVersion v (x ∷ l) = (commit_version x.name ≡ Some v) ⊎ HasVersion v l

-- the greater of two is one of them
one_of : (a b v : ℕ) → max a b ≡ v → (c : Bool) → nat_lt a b ≡ c → (a ≡ v) ⊎ (b ≡ v)
one_of a b v is true e = let less : a < b = grind (arith, nat_tests) in inr (omega (arith, is, less))
one_of a b v is false e = let most : b ≤ a = grind (arith, nat_tests) in inl (omega (arith, is, most))

-- what is newest is among them, and nothing newer is
pub newest_there : (l : List Listed) (v : ℕ) → newest l ≡ Some v → HasVersion v l
newest_there [] v h = cc
newest_there (x ∷ l) v h = by (commit_version x.name) refl (newest l) refl h (newest_there l)
  where
    by : (a : Option ℕ) → commit_version x.name ≡ a → (b : Option ℕ) → newest l ≡ b → later a b ≡ Some v → ((w : ℕ) → newest l ≡ Some w → HasVersion w l) → HasVersion v (x ∷ l)
    by None is b at k rest = inr (rest v (at ∙ k))
    by (Some a) is None at k rest = inl (is ∙ k)
    by (Some a) is (Some b) at k rest = elim (one_of a b v (some_same (max a b) v k) (nat_lt a b) refl) [
      | inl here ↦ inl (is ∙ ap (λ (n : ℕ). Some n) here)
      | inr there ↦ inr (rest v (at ∙ ap (λ (n : ℕ). Some n) there))
    ]

pub newest_most : (l : List Listed) (w : ℕ) → HasVersion w l → (v : ℕ) × (newest l ≡ Some v) × (w ≤ v)
newest_most [] w h = absurd h
newest_most (x ∷ l) w (inl here) = by (newest l)
  where
    with_first : (b : Option ℕ) → (v : ℕ) × (later (Some w) b ≡ Some v) × (w ≤ v)
    with_first None = (w, refl, omega arith)
    with_first (Some b) = (max w b, refl, omega arith)

    by : (b : Option ℕ) → (v : ℕ) × (later (commit_version x.name) b ≡ Some v) × (w ≤ v)
    by b = let f = with_first b in (f.0, ap (λ (o : Option ℕ). later o b) here ∙ f.1, f.2)
newest_most (x ∷ l) w (inr there) =
    let rest = newest_most l w there in
    let f = by (commit_version x.name) rest.0 rest.2 in
    (f.0, ap (λ (o : Option ℕ). later (commit_version x.name) o) rest.1 ∙ f.1, f.2)
  where
    by : (a : Option ℕ) (b : ℕ) → w ≤ b → (v : ℕ) × (later a (Some b) ≡ Some v) × (w ≤ v)
    by None b le = (b, refl, le)
    by (Some a) b le = (max a b, refl, omega (arith, le))

-- what gives a version read is a listing of the log
pub given_by : (call : Call) (answer : Answer) (v : ℕ) → listed_by call answer ≡ Some v → (call ≡ ListNames log_prefix) × (listed : List Listed) × (answer ≡ Names listed) × (newest listed ≡ Some v)
given_by (ListNames prefix) (Names l) v h = by (bytes_eq prefix log_prefix) refl h
  where
    by : (c : Bool) → bytes_eq prefix log_prefix ≡ c → (if c then newest l else None) ≡ Some v → (ListNames prefix ≡ ListNames log_prefix) × (listed : List Listed) × (Names l ≡ Names listed) × (newest listed ≡ Some v)
    by true e k = (ap (λ (n : List ℕ). ListNames n) ((bytes_eq-Decides prefix log_prefix).0 e), l, refl, k)
    by false e k = cc
given_by (ListNames prefix) Fault v h = cc
given_by (ListNames prefix) (Body b) v h = cc
given_by (ListNames prefix) Missing v h = cc
given_by (ListNames prefix) Stored v h = cc
given_by (ListNames prefix) Taken v h = cc
given_by (ListNames prefix) Gone v h = cc
given_by (ListNames prefix) (Time t) v h = cc
given_by (ListNames prefix) Waited v h = cc
given_by (Get n) answer v h = cc
given_by (PutNew n b) answer v h = cc
given_by (Replace n b) answer v h = cc
given_by (Delete n) answer v h = cc
given_by Now answer v h = cc
given_by (Wait t) answer v h = cc

-- a name that reads as a version's is the name of its commit
commit_only : (n : LogName) (v : ℕ) → commit_of n ≡ Some v → n ≡ log.Commit v
commit_only (log.Commit w) v h = ap (λ (n : ℕ). log.Commit n) (some_same w v h)
commit_only (log.CheckpointJson w) v h = cc
commit_only (log.CheckpointOther w) v h = cc
commit_only log.Hint v h = cc
commit_only log.OtherLog v h = cc
commit_only log.Outside v h = cc

pub name_is : (name : List ℕ) (v : ℕ) → commit_version name ≡ Some v → (name ≡ commit_text v) × (v < 2 ^ 64)
name_is name v h = only_commit_is_read name v (commit_only (log_name name) v h)

-- a version that is listed has its object, and one that has its object is listed
pub listed_object : (os : Objects) (prefix : List ℕ) (v : ℕ) → HasVersion v (listing os prefix) → (v < 2 ^ 64) × (o : Object) × (object_at os (commit_text v) ≡ Some o)
listed_object [] prefix v h = absurd h
listed_object (x ∷ os) prefix v h = by (starts_with nat_eq x.0 prefix) h (listed_object os prefix v)
  where
    later_one : (c : Bool) (o : Object) → object_at os (commit_text v) ≡ Some o → (r : Object) × ((if c then Some x.1 else object_at os (commit_text v)) ≡ Some r)
    later_one true o h = (x.1, refl)
    later_one false o h = (o, h)

    by : (c : Bool) → HasVersion v (if c then record { name = x.0; put_at = x.1.put_at } ∷ listing os prefix else listing os prefix)
        → (HasVersion v (listing os prefix) → (v < 2 ^ 64) × (o : Object) × (object_at os (commit_text v) ≡ Some o)) → (v < 2 ^ 64) × (o : Object) × (object_at (x ∷ os) (commit_text v) ≡ Some o)
    by true (inl here) rest =
        let is = name_is x.0 v here in
        (is.1, x.1, ap (λ (c : Bool). if c then Some x.1 else object_at os (commit_text v)) ((bytes_eq-Decides x.0 (commit_text v)).1 is.0))
    by true (inr there) rest = let r = rest there in let f = later_one (bytes_eq x.0 (commit_text v)) r.1 r.2 in (r.0, f.0, f.1)
    by false there rest = let r = rest there in let f = later_one (bytes_eq x.0 (commit_text v)) r.1 r.2 in (r.0, f.0, f.1)

pub object_listed : (os : Objects) (v : ℕ) → v < 2 ^ 64 → (o : Object) → object_at os (commit_text v) ≡ Some o → HasVersion v (listing os log_prefix)
object_listed [] v small o h = cc
object_listed (x ∷ os) v small o h = by (bytes_eq x.0 (commit_text v)) refl h (object_listed os v small o)
  where
    either : (c : Bool) → HasVersion v (listing os log_prefix) → HasVersion v (if c then record { name = x.0; put_at = x.1.put_at } ∷ listing os log_prefix else listing os log_prefix)
    either true h = inr h
    either false h = h

    by : (c : Bool) → bytes_eq x.0 (commit_text v) ≡ c → (if c then Some x.1 else object_at os (commit_text v)) ≡ Some o → (object_at os (commit_text v) ≡ Some o → HasVersion v (listing os log_prefix)) → HasVersion v (listing (x ∷ os) log_prefix)
    by true e h rest =
        let is = (bytes_eq-Decides x.0 (commit_text v)).0 e in
        let begins : starts_with nat_eq x.0 log_prefix ≡ true = ap (λ (n : List ℕ). starts_with nat_eq n log_prefix) is ∙ commit_is_in_log v in
        subst (λ (c : Bool). HasVersion v (if c then record { name = x.0; put_at = x.1.put_at } ∷ listing os log_prefix else listing os log_prefix)) (sym begins)
        (inl (ap commit_version is ∙ ap commit_of (commit_is_read v small)))
    by false e h rest = either (starts_with nat_eq x.0 log_prefix) (rest h)

module _ (K : Tag → List ℕ → List ℕ → Type 0) (script : Tag → Option Statement) (replies : Tag → Option Reply) (tags : (tag : Tag) (statement : Statement) → script tag ≡ Some statement → IsTag tag)
    (past : Entries) (os : Objects) (ps : List Put) (clock : ℕ) (s : Stands K script replies tags past os ps clock) where
  -- a version whose commit isn't listed has none
  none_put : (v : ℕ) → v < 2 ^ 64 → (HasVersion v (listing os log_prefix) → ⊥) → put_under ps (commit_text v) ≡ None
  none_put v small absent = by (object_at os (commit_text v)) refl
    where
      by : (o : Option Object) → object_at os (commit_text v) ≡ o → put_under ps (commit_text v) ≡ None
      by None is = s.logs v is
      by (Some o) is = absurd (absent (object_listed os v small o is))

  no_some : (v : ℕ) → None ≡ Some v → ⊥
  no_some v h = cc

  there : (v : ℕ) (o : Object) → object_at os (commit_text v) ≡ Some o → IsCommitted ps v
  there v o is = let p = s.agree (commit_text v) o (is_in os (commit_text v) o is) in is_some (put_under ps (commit_text v)) p.put p.is

  pub listing_is_newest : IsNewest ps (newest (listing os log_prefix))
  listing_is_newest = by (newest (listing os log_prefix)) refl
    where
      by : (n : Option ℕ) → newest (listing os log_prefix) ≡ n → IsNewest ps n
      by None is = λ v small. none_put v small (λ there. let m = newest_most (listing os log_prefix) v there in no_some m.0 (sym is ∙ m.1))
      by (Some v) is =
          let o = listed_object os log_prefix v (newest_there (listing os log_prefix) v is) in (
            there v o.1 o.2,
            λ w more small. none_put w small (λ there.
                let m = newest_most (listing os log_prefix) w there in
                let same = some_same m.0 v (sym m.1 ∙ is) in
                let le = m.2 in
                absurd (omega (arith, more, same, le))),
          )
