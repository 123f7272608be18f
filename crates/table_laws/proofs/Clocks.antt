-- What entries tell of the clock, and the clocks of puts.
-- Stands (Standing) has the clock of the last moment: readings and puts so far are no later.
use Rattle.std.proofs.Common.{◌≡◌, ◌⊎◌, inl, inr, ℕ, ◌≤◌, ◌<◌, ◌^◌, Bool, true, false, List, [], ◌∷◌, ◌++◌, refl, sym, ◌∙◌, ap, subst, arith}
use Rattle.std.specs.Prelude.{Option, Some, None, if◌then◌else◌}
use Rattle.std.specs.Str.{bytes_eq}
use Rattle.edge_api.specs.declared.call.Tag.{Tag}
use Rattle.edge_api.specs.declared.call.Call.{Call}
use Rattle.edge_api.specs.declared.call.Call.TheVariants.{Get, PutNew, Put as Replace, List as ListNames, Delete, Now, Wait}
use Rattle.edge_api.specs.declared.call.Answer.{Answer}
use Rattle.edge_api.specs.declared.call.Answer.TheVariants.{Fault, Body, Missing, Stored, Taken, Names, Gone, Time, Waited}
use Rattle.edge_api.specs.declared.call.JournalEntry.{JournalEntry}
use Rattle.edge_api.specs.Journal.{same_tag}
use Rattle.table_rules.specs.Names.{commit_text}
use Rattle.call_phases.specs.Phases.{Entries}
use Rattle.actor_core.specs.Entries.{own}
use Rattle.actor_core.proofs.Owners.{same_tag_is}
use Rattle.table_laws.specs.History.{Put, put_under}
use Rattle.table_laws.specs.Runs.{or_first, told_by}
use Rattle.table_laws.proofs.Lawful.{first_past, ToldIn}
use Rattle.table_laws.proofs.Shown.{given_more}

-- no put is earlier than this clock, or none later
abbrev pub AllFrom : ℕ → List Put → Type 0
AllFrom clock [] = Unit {0}
AllFrom clock (p ∷ ps) = (clock ≤ p.at) × AllFrom clock ps

abbrev pub AllTo : ℕ → List Put → Type 0
AllTo clock [] = Unit {0}
AllTo clock (p ∷ ps) = (p.at ≤ clock) × AllTo clock ps

-- no put is earlier than one before it
abbrev pub NeverFall : List Put → Type 0
NeverFall [] = Unit {0}
NeverFall (p ∷ ps) = AllFrom p.at ps × NeverFall ps

-- the start of a put's statement, which is no later than the put
pub record Since (past : Entries) (p : Put) : Type 0 where
  pub start : ℕ
  pub started : first_past told_by (own p.tag past) ≡ Some start
  pub before : start ≤ p.at

-- The start of a statement that listed this version of the log as the newest. What was committed above it landed no earlier
pub record Lists (past : Entries) (ps : List Put) (t : Tag) (r : ℕ) : Type 0 where
  pub start : ℕ
  pub started : first_past told_by (own t past) ≡ Some start
  pub later : (w : ℕ) (p : Put) → r < w → w < 2 ^ 64 → put_under ps (commit_text w) ≡ Some p → start ≤ p.at

pub since_more : (past : Entries) (e : JournalEntry) (p : Put) → Since past p → Since (e ∷ past) p
since_more past e p k = record { start = k.start; started = given_more told_by p.tag e past k.start k.started; before = k.before }

pub to_later : (clock later : ℕ) → clock ≤ later → (ps : List Put) → AllTo clock ps → AllTo later ps
to_later clock later le [] h = tt
to_later clock later le (p ∷ ps) h = let at = h.0 in (omega (arith, le, at), to_later clock later le ps h.1)

pub to_push : (clock : ℕ) (ps : List Put) (q : Put) → AllTo clock ps → q.at ≤ clock → AllTo clock (ps ++ q ∷ [])
to_push clock [] q h at = (at, tt)
to_push clock (p ∷ ps) q h at = (h.0, to_push clock ps q h.1 at)

from_push : (clock : ℕ) (ps : List Put) (q : Put) → AllFrom clock ps → clock ≤ q.at → AllFrom clock (ps ++ q ∷ [])
from_push clock [] q h at = (at, tt)
from_push clock (p ∷ ps) q h at = (h.0, from_push clock ps q h.1 at)

-- a put at the clock of its moment or later
pub rise_push : (clock : ℕ) (ps : List Put) (q : Put) → AllTo clock ps → clock ≤ q.at → NeverFall ps → NeverFall (ps ++ q ∷ [])
rise_push clock [] q to at h = (tt, tt)
rise_push clock (p ∷ ps) q to at h = let le = to.0 in (from_push p.at ps q h.0 (omega (arith, le, at)), rise_push clock ps q to.1 at h.1)

-- the put under a name is no later
pub put_to : (clock : ℕ) (ps : List Put) (n : List ℕ) (p : Put) → AllTo clock ps → put_under ps n ≡ Some p → p.at ≤ clock
put_to clock [] n p h is = cc
put_to clock (q ∷ ps) n p h is = by (bytes_eq q.name n) is (put_to clock ps n p h.1)
  where
    by : (b : Bool) → (if b then Some q else put_under ps n) ≡ Some p → (put_under ps n ≡ Some p → p.at ≤ clock) → p.at ≤ clock
    by true k rest = let same : q ≡ p = cc in subst (λ (x : Put). x.at ≤ clock) same h.0
    by false k rest = rest k

-- what a statement's own entries tell, all entries tell
pub own_told : (t : Tag) (past : Entries) (time : ℕ) → ToldIn (own t past) time → ToldIn past time
own_told t [] time h = h
own_told t (e ∷ past) time h = by (same_tag t e.tag) h (own_told t past time)
  where
    by : (c : Bool) → ToldIn (if c then e ∷ own t past else own t past) time → (ToldIn (own t past) time → ToldIn past time) → ToldIn (e ∷ past) time
    by true (inl here) rest = inl here
    by true (inr there) rest = inr (rest there)
    by false there rest = inr (rest there)

told_call : (call : Call) (a : Answer) (s : ℕ) → told_by call a ≡ Some s → (call ≡ Now) × (a ≡ Time s)
told_call Now (Time t) s h = (refl, let same : t ≡ s = cc in ap (λ (x : ℕ). Time x) same)
told_call Now Fault s h = cc
told_call Now (Body b) s h = cc
told_call Now Missing s h = cc
told_call Now Stored s h = cc
told_call Now Taken s h = cc
told_call Now (Names l) s h = cc
told_call Now Gone s h = cc
told_call Now Waited s h = cc
told_call (Get name) a s h = cc
told_call (PutNew name body) a s h = cc
told_call (Replace name body) a s h = cc
told_call (ListNames prefix) a s h = cc
told_call (Delete name) a s h = cc
told_call (Wait time) a s h = cc

-- the newest entry gives it first, or one before
pub given_now : (given : Call → Answer → Option ℕ) (t : Tag) (e : JournalEntry) (past : Entries) (r : ℕ) → first_past given (own t (e ∷ past)) ≡ Some r → (first_past given (own t past) ≡ Some r) ⊎ ((e.tag ≡ t) × (given e.call e.answer ≡ Some r))
given_now given t e past r h = by (same_tag t e.tag) refl h
  where
    either : (a b : Option ℕ) → or_first a b ≡ Some r → (a ≡ Some r) ⊎ (b ≡ Some r)
    either None b h = inr h
    either (Some a) b h = inl h

    by : (c : Bool) → same_tag t e.tag ≡ c → first_past given (if c then e ∷ own t past else own t past) ≡ Some r → (first_past given (own t past) ≡ Some r) ⊎ ((e.tag ≡ t) × (given e.call e.answer ≡ Some r))
    by true is h = elim (either (first_past given (own t past)) (given e.call e.answer) h) [ inl old ↦ inl old | inr new ↦ inr (sym (same_tag_is t e.tag is), new) ]
    by false is h = inl h

pub lists_more : (past : Entries) (e : JournalEntry) (ps : List Put) (t : Tag) (r : ℕ) → Lists past ps t r → Lists (e ∷ past) ps t r
lists_more past e ps t r k = record { start = k.start; started = given_more told_by t e past k.start k.started; later = k.later }

-- a start was told
first_told : (past : Entries) (s : ℕ) → first_past told_by past ≡ Some s → ToldIn past s
first_told [] s h = cc
first_told (e ∷ past) s h = by (first_past told_by past) refl (first_told past s) h
  where
    by : (o : Option ℕ) → first_past told_by past ≡ o → (first_past told_by past ≡ Some s → ToldIn past s) → or_first o (told_by e.call e.answer) ≡ Some s → ToldIn (e ∷ past) s
    by None is rest h = inl (told_call e.call e.answer s h)
    by (Some a) is rest h = inr (rest (is ∙ h))

pub start_told : (t : Tag) (past : Entries) (s : ℕ) → first_past told_by (own t past) ≡ Some s → ToldIn past s
start_told t past s h = own_told t past s (first_told (own t past) s h)
