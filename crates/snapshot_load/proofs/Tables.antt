-- The table before version 0, and a table with one more commit.
use Rattle.std.proofs.Common.{◌≡◌, ℕ, Bool, true, false, List, [], ◌∷◌, ◌++◌, Some, None, cond, refl, sym, ap, ◌∙◌}
use Rattle.std.specs.Str.{bytes_eq}
use Rattle.std.proofs.lemmas.Slice.Eq.{bytes_eq-Decides}
use Rattle.indexmap.specs.IndexMap.{insert_entry}
use Rattle.log_actions.specs.declared.action.Action.{Action}
use Rattle.log_actions.specs.declared.action.Action.TheVariants.{Protocol, Meta, Add, Remove, Txn, Info, Checkpoint, Sidecar, Ignored}
use Rattle.log_actions.specs.declared.action.Txn.{Txn as TxnAction}
use Rattle.log_state.specs.Newest.{newer, newest, txn_on, action_on}
use Rattle.log_state.specs.Table.{Table, applied, found, next_version, txns_with, txns_after, actions_with, actions_after, IsApplied, IsTableOf}
use Rattle.log_state.proofs.Newer.{by_test, newer_assoc}
use Rattle.log_state.proofs.Tables.{table_more}
use Rattle.snapshot_load.specs.Commits.{no_table}

same : (x y : List ℕ) → bytes_eq x y ≡ true → x ≡ y
same x y e = (bytes_eq-Decides x y).0 e

itself : (x : List ℕ) → bytes_eq x x ≡ true
itself x = (bytes_eq-Decides x x).1 refl

-- ---- no table

none_found : {V : Type 0} (es : List (List ℕ × V)) → ((name : List ℕ) → found es name ≡ None) → es ≡ []
none_found [] none = refl
none_found (e ∷ es) none =
    let there : Some e.1 ≡ None = sym (ap (λ b. cond b (Some e.1) (found es e.0)) (itself e.0)) ∙ none e.0 in
    cc

pub none_is : (t : Table) → IsTableOf [] t → t ≡ no_table
unfolding newest
none_is t h = λ i. record {
  version = h.version i;
  stamp = h.stamp i;
  protocol = h.reconciled.protocol i;
  meta = h.reconciled.meta i;
  txns = none_found t.txns h.reconciled.txn i;
  actions = none_found t.actions h.reconciled.action i;
}

pub none_made : IsTableOf [] no_table
unfolding newest
none_made = record { version = refl; stamp = refl; reconciled = record { protocol = refl; meta = refl; txn = λ app. refl; action = λ path. refl } }

-- ---- what is found behind a value that was put

module _ {A : Type 0} (x y z : A) where
  covered : (b c : Bool) → c ≡ b → cond c x z ≡ cond b x (cond c y z)
  covered true c is = ap (λ d. cond d x z) is
  covered false c is = ap (λ d. cond d x z) is ∙ sym (ap (λ d. cond d y z) is)

  apart : (b c : Bool) → (b ≡ true → c ≡ true → ⊥) → cond b x (cond c y z) ≡ cond c y (cond b x z)
  apart true true not = absurd (not refl refl)
  apart true false not = refl
  apart false true not = refl
  apart false false not = refl

module _ {V : Type 0} (k q : List ℕ) (v : V) where
  found_put : (es : List (List ℕ × V)) → found (insert_entry bytes_eq es k v) q ≡ cond (bytes_eq k q) (Some v) (found es q)
  found_put [] = turned (bytes_eq q k) (bytes_eq k q) refl refl
    where
      turned : (b c : Bool) → bytes_eq q k ≡ b → bytes_eq k q ≡ c → cond b (Some v) None ≡ cond c (Some v) None
      turned true true e f = refl
      turned false false e f = refl
      turned true false e f = let bad : true ≡ false = sym (itself k) ∙ ap (bytes_eq k) (sym (same q k e)) ∙ f in cc
      turned false true e f = let bad : true ≡ false = sym (itself q) ∙ ap (bytes_eq q) (sym (same k q f)) ∙ e in cc
  found_put (e ∷ es) = by (bytes_eq k e.0) refl (found_put es)
    where
      at_key : k ≡ e.0 → (b c : Bool) → bytes_eq q e.0 ≡ c → bytes_eq k q ≡ b → c ≡ b
      at_key is true true f g = refl
      at_key is false false f g = refl
      at_key is false true f g = let bad : true ≡ false = sym (itself k) ∙ ap (bytes_eq k) (is ∙ sym (same q e.0 f)) ∙ g in cc
      at_key is true false f g = let bad : true ≡ false = sym (itself q) ∙ ap (bytes_eq q) (sym (same k q g) ∙ is) ∙ f in cc

      by : (b : Bool) → bytes_eq k e.0 ≡ b → found (insert_entry bytes_eq es k v) q ≡ cond (bytes_eq k q) (Some v) (found es q)
          → found (cond b ((e.0, v) ∷ es) (e ∷ insert_entry bytes_eq es k v)) q ≡ cond (bytes_eq k q) (Some v) (cond (bytes_eq q e.0) (Some e.1) (found es q))
      by true at more = covered (Some v) (Some e.1) (found es q) (bytes_eq k q) (bytes_eq q e.0) (at_key (same k e.0 at) (bytes_eq k q) (bytes_eq q e.0) refl refl)
      by false at more =
          let other : bytes_eq q e.0 ≡ true → bytes_eq k q ≡ true → ⊥ = λ f g. let bad : true ≡ false = sym (itself k) ∙ ap (bytes_eq k) (same k q g ∙ same q e.0 f) ∙ at in cc in
          ap (cond (bytes_eq q e.0) (Some e.1)) more ∙ apart (Some e.1) (Some v) (found es q) (bytes_eq q e.0) (bytes_eq k q) other

-- ---- one more commit

txn_step : (app : List ℕ) (es : List (List ℕ × TxnAction)) (a : Action) → found (txns_with es a) app ≡ newer (found es app) (txn_on app a)
txn_step app es (Protocol p) = refl
txn_step app es (Meta m) = refl
txn_step app es (Add f) = refl
txn_step app es (Remove f) = refl
txn_step app es (Txn t) = found_put t.app_id app t es ∙ by_test (bytes_eq t.app_id app) t (found es app)
txn_step app es (Info i) = refl
txn_step app es (Checkpoint c) = refl
txn_step app es (Sidecar s) = refl
txn_step app es Ignored = refl

action_step : (path : List ℕ) (es : List (List ℕ × Action)) (a : Action) → found (actions_with es a) path ≡ newer (found es path) (action_on path a)
action_step path es (Protocol p) = refl
action_step path es (Meta m) = refl
action_step path es (Add f) = found_put f.path path (Add f) es ∙ by_test (bytes_eq f.path path) (Add f) (found es path)
action_step path es (Remove f) = found_put f.path path (Remove f) es ∙ by_test (bytes_eq f.path path) (Remove f) (found es path)
action_step path es (Txn t) = refl
action_step path es (Info i) = refl
action_step path es (Checkpoint c) = refl
action_step path es (Sidecar s) = refl
action_step path es Ignored = refl

txns_found : (app : List ℕ) (all : List Action) (es : List (List ℕ × TxnAction)) → found (txns_after es all) app ≡ newer (found es app) (newest (txn_on app) all)
unfolding newest
txns_found app [] es = refl
txns_found app (a ∷ more) es =
    txns_found app more (txns_with es a) ∙ ap (λ x. newer x (newest (txn_on app) more)) (txn_step app es a) ∙ newer_assoc (found es app) (txn_on app a) (newest (txn_on app) more)

actions_found : (path : List ℕ) (all : List Action) (es : List (List ℕ × Action)) → found (actions_after es all) path ≡ newer (found es path) (newest (action_on path) all)
unfolding newest
actions_found path [] es = refl
actions_found path (a ∷ more) es =
    actions_found path more (actions_with es a) ∙ ap (λ x. newer x (newest (action_on path) more)) (action_step path es a) ∙ newer_assoc (found es path) (action_on path a) (newest (action_on path) more)

applied_is : (t : Table) (version : ℕ) (commit : List Action) → IsApplied t version commit (applied t version commit)
applied_is t version commit = record { version = refl; stamp = refl; protocol = refl; meta = refl; txn = λ app. txns_found app commit t.txns; action = λ path. actions_found path commit t.actions }

pub made_more : (commits : List (List Action)) (actions : List Action) (t : Table) (version : ℕ) → version ≡ next_version t.version → IsTableOf commits t → IsTableOf (commits ++ actions ∷ []) (applied t version actions)
made_more commits actions t version next made = table_more commits actions t (applied t version actions) version next (applied_is t version actions) made
