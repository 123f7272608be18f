-- One more commit, and the table that all leave.
use Rattle.std.proofs.Common.{◌≡◌, ◌≤◌, ◌<◌, ◌-◌, ◌^◌, ℕ, List, [], ◌∷◌, ◌++◌, Option, Some, None, IfSome, refl, sym, ap, ◌∙◌, append_assoc, arith}
use Rattle.std.proofs.lemmas.List.{append-nil}
use Rattle.log_actions.specs.declared.action.Action.{Action}
use Rattle.log_state.specs.Newest.{actions_in, newer, newest, protocol_in, metadata_in, txn_on, action_on}
use Rattle.log_state.specs.Stamps.{stamp_in, stamp_after}
use Rattle.log_state.specs.declared.kept.Kept.{Kept}
use Rattle.log_state.specs.Kept.{Keeps, table_at}
use Rattle.log_state.specs.Table.{Table, applied, found, txn_of, action_of, next_version, version_from, Reconciles, IsTableOf, IsApplied, IsInRange}
use Rattle.log_state.proofs.Newer.{newest_append, newer_none}
use Rattle.log_state.proofs.Stamps.{stamp_append}

pub version_more : (before : Option ℕ) (commits : List (List Action)) (a : List Action) → version_from before (commits ++ a ∷ []) ≡ Some (next_version (version_from before commits))
version_more before [] a = refl
version_more before (c ∷ cs) a = version_more (Some (next_version before)) cs a

pub actions_more : (commits : List (List Action)) (a : List Action) → actions_in (commits ++ a ∷ []) ≡ actions_in commits ++ a
actions_more [] a = append-nil a
actions_more (c ∷ cs) a = ap (λ (l : List Action). c ++ l) (actions_more cs a) ∙ sym (append_assoc c (actions_in cs) a)

-- what the newest of all actions says, with those of one more commit
newest_more : {A : Type 0} (said : Action → Option A) (commits : List (List Action)) (a : List Action) (old new : Option A)
    → old ≡ newest said (actions_in commits) → new ≡ newer old (newest said a) → new ≡ newest said (actions_in (commits ++ a ∷ []))
newest_more said commits a old new h is =
    is ∙ ap (λ x. newer x (newest said a)) h ∙ sym (newest_append said (actions_in commits) a) ∙ ap (newest said) (sym (actions_more commits a))

pub table_more : (commits : List (List Action)) (a : List Action) (old new : Table) (version : ℕ) → version ≡ next_version old.version
    → IsApplied old version a new → IsTableOf commits old → IsTableOf (commits ++ a ∷ []) new
table_more commits a old new version next is t = record {
  version = is.version ∙ ap Some (next ∙ ap next_version t.version) ∙ sym (version_more None commits a);
  stamp = is.stamp ∙ ap (λ s. Some (stamp_after s (stamp_in a))) t.stamp ∙ sym (stamp_append None commits (a ∷ []));
  reconciled = record {
    protocol = newest_more protocol_in commits a old.protocol new.protocol t.reconciled.protocol is.protocol;
    meta = newest_more metadata_in commits a old.meta new.meta t.reconciled.meta is.meta;
    txn = λ app. newest_more (txn_on app) commits a (txn_of old app) (txn_of new app) (t.reconciled.txn app) (is.txn app);
    action = λ path. newest_more (action_on path) commits a (action_of old path) (action_of new path) (t.reconciled.action path) (is.action path);
  };
}

-- a table of what was kept, with a commit's actions
pub is_applied : (version last : Option ℕ) (old new : Kept) (next stamp : ℕ) (commit : List Action) → stamp ≡ stamp_after last (stamp_in commit) → Keeps old commit new
    → IsApplied (table_at version last old) next commit (table_at (Some next) (Some stamp) new)
is_applied version last old new next stamp commit at k = record {
  version = refl;
  stamp = ap Some at;
  protocol = k.protocol;
  meta = k.meta;
  txn = k.txn;
  action = k.action;
}

pub applies : (version last : Option ℕ) (old new : Kept) (next stamp : ℕ) (commit : List Action) → stamp ≡ stamp_after last (stamp_in commit) → Keeps old commit new
    → table_at (Some next) (Some stamp) new ≡ applied (table_at version last old) next commit
applies version last old new next stamp commit at k = λ i. record {
  version = Some next;
  stamp = Some (at i);
  protocol = k.protocol i;
  meta = k.meta i;
  txns = k.txns i;
  actions = k.actions i;
}

pub reconciles : (version last : Option ℕ) (old new : Kept) (next stamp : ℕ) (commit : List Action) → next ≡ next_version version → stamp ≡ stamp_after last (stamp_in commit)
    → Keeps old commit new → (commits : List (List Action)) → IsTableOf commits (table_at version last old) → IsTableOf (commits ++ commit ∷ []) (table_at (Some next) (Some stamp) new)
reconciles version last old new next stamp commit is at k commits t =
    table_more commits commit (table_at version last old) (table_at (Some next) (Some stamp) new) next is (is_applied version last old new next stamp commit at k) t

-- all that is kept, where nothing was before
pub from_nothing : (old now : Kept) (all : List Action) (version stamp : Option ℕ) → old.protocol ≡ None → old.meta ≡ None → old.txns.entries ≡ [] → old.actions.entries ≡ []
    → Keeps old all now → Reconciles all (table_at version stamp now)
from_nothing old now all version stamp p m ts acts k = record {
  protocol = k.protocol ∙ ap (λ x. newer x (newest protocol_in all)) p ∙ newer_none (newest protocol_in all);
  meta = k.meta ∙ ap (λ x. newer x (newest metadata_in all)) m ∙ newer_none (newest metadata_in all);
  txn = λ app. k.txn app ∙ ap (λ es. newer (found es app) (newest (txn_on app) all)) ts ∙ newer_none (newest (txn_on app) all);
  action = λ path. k.action path ∙ ap (λ es. newer (found es path) (newest (action_on path) all)) acts ∙ newer_none (newest (action_on path) all);
}

-- the range of a stamp
pub stays_in_range : (version stamp said : Option ℕ) (next : ℕ) → IsInRange version stamp → IfSome said (λ s. s ≤ 2 ^ 62) → next ≡ next_version version → next < 2 ^ 21
    → IsInRange (Some next) (Some (stamp_after stamp said))
stays_in_range version stamp (Some s) next range small is few = (omega arith, omega arith)
stays_in_range version None None next range small is few = (omega arith, omega arith)
stays_in_range None (Some s) None next range small is few = absurd range
stays_in_range (Some v) (Some s) None next range small is few = let low = range.0 in (omega arith, omega arith)

pub at_most : (version stamp : Option ℕ) → IsInRange version stamp → IfSome stamp (λ s. s ≤ 2 ^ 63)
at_most version None range = tt
at_most None (Some s) range = absurd range
at_most (Some v) (Some s) range = range.1

pub below_the_end : (version stamp : Option ℕ) (next : ℕ) → IsInRange version stamp → next ≡ next_version version → next < 2 ^ 21 → IfSome stamp (λ s. s < 2 ^ 64 - 1)
below_the_end version None next range is few = tt
below_the_end None (Some s) next range is few = absurd range
below_the_end (Some v) (Some s) next range is few = let high = range.1 in omega arith
