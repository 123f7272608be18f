-- A table with one more commit is what the commit makes of each thing.
-- Nothing above the crate cites it.
-- The law (each_commit_applies) ties a table's kept lists, one action after another, to the newest action of the whole commit.
use Rattle.std.proofs.Common.{◌≡◌, ℕ, Bool, true, false, List, [], ◌∷◌, refl, sym, ◌∙◌, ap}
use Rattle.std.specs.Prelude.{Option, Some, None, if◌then◌else◌}
use Rattle.std.specs.Str.{bytes_eq}
use Rattle.indexmap.specs.IndexMap.{insert_entry}
use Rattle.log_actions.specs.declared.action.Txn.{Txn as TxnAction}
use Rattle.log_actions.specs.declared.action.Action.{Action}
use Rattle.log_actions.specs.declared.action.Action.TheVariants.{Protocol, Meta, Add, Remove, Txn, Info, Checkpoint, Sidecar, Ignored}
use Rattle.log_state.specs.Newest.{newer, newest, txn_on, action_on}
use Rattle.log_state.specs.Table.{found, txns_with, txns_after, actions_with, actions_after}
use Rattle.log_state.proofs.InOrder.{turned}
use Rattle.log_state.proofs.Newer.{newer_assoc}
use Rattle.table_changes.proofs.Files.{same_path}
use Rattle.log_laws.specs.Replay.{EachCommitApplies}

abbrev value_if : {V : Type 0} → V → Bool → Option V
value_if value b = if b then Some value else None

-- the value of a name comes in place of the one that was there
inserted : {V : Type 0} (es : List (List ℕ × V)) (name q : List ℕ) (value : V) → found (insert_entry bytes_eq es name value) q ≡ newer (found es q) (if bytes_eq name q then Some value else None)
inserted {V} [] name q value = by (bytes_eq name q) (turned q name)
  where
    by : (b : Bool) → bytes_eq q name ≡ b → (if bytes_eq q name then Some value else None) ≡ newer None (if b then Some value else None)
    by true e = ap (λ (c : Bool). if c then Some value else None) e
    by false e = ap (λ (c : Bool). if c then Some value else None) e
inserted {V} (e ∷ es) name q value = by (bytes_eq name e.0) refl (inserted es name q value)
  where
    here : (b : Bool) → bytes_eq e.0 q ≡ b → (if bytes_eq q e.0 then Some value else found es q) ≡ newer (if bytes_eq q e.0 then Some e.1 else found es q) (value_if value b)
    here b is = at b (bytes_eq q e.0) (turned q e.0 ∙ is)
      where
        at : (b c : Bool) → c ≡ b → (if c then Some value else found es q) ≡ newer (if c then Some e.1 else found es q) (value_if value b)
        at true true same = refl
        at false false same = refl
        at true false same = let bad : false ≡ true = same in cc
        at false true same = let bad : true ≡ false = same in cc

    there : (c : Bool) → bytes_eq q e.0 ≡ c → bytes_eq name e.0 ≡ false → found (insert_entry bytes_eq es name value) q ≡ newer (found es q) (value_if value (bytes_eq name q))
        → (if c then Some e.1 else found (insert_entry bytes_eq es name value) q) ≡ newer (if c then Some e.1 else found es q) (value_if value (bytes_eq name q))
    there true is other rest = ap (λ (b : Bool). newer (Some e.1) (value_if value b)) (sym (ap (bytes_eq name) (same_path q e.0 is) ∙ other))
    there false is other rest = rest

    by : (b : Bool) → bytes_eq name e.0 ≡ b → found (insert_entry bytes_eq es name value) q ≡ newer (found es q) (value_if value (bytes_eq name q))
        → found (if b then (e.0, value) ∷ es else e ∷ insert_entry bytes_eq es name value) q ≡ newer (found (e ∷ es) q) (value_if value (bytes_eq name q))
    by true is rest = here (bytes_eq name q) (ap (λ (n : List ℕ). bytes_eq n q) (sym (same_path name e.0 is)))
    by false is rest = there (bytes_eq q e.0) refl is rest

one_txn : (txns : List (List ℕ × TxnAction)) (a : Action) (app : List ℕ) → found (txns_with txns a) app ≡ newer (found txns app) (txn_on app a)
one_txn txns (Protocol x) app = refl
one_txn txns (Meta x) app = refl
one_txn txns (Add x) app = refl
one_txn txns (Remove x) app = refl
one_txn txns (Txn x) app = inserted txns x.app_id app x
one_txn txns (Info x) app = refl
one_txn txns (Checkpoint x) app = refl
one_txn txns (Sidecar x) app = refl
one_txn txns Ignored app = refl

one_action : (kept : List (List ℕ × Action)) (a : Action) (path : List ℕ) → found (actions_with kept a) path ≡ newer (found kept path) (action_on path a)
one_action kept (Protocol x) path = refl
one_action kept (Meta x) path = refl
one_action kept (Add x) path = inserted kept x.path path (Add x)
one_action kept (Remove x) path = inserted kept x.path path (Remove x)
one_action kept (Txn x) path = refl
one_action kept (Info x) path = refl
one_action kept (Checkpoint x) path = refl
one_action kept (Sidecar x) path = refl
one_action kept Ignored path = refl

all_txns : (txns : List (List ℕ × TxnAction)) (all : List Action) (app : List ℕ) → found (txns_after txns all) app ≡ newer (found txns app) (newest (txn_on app) all)
unfolding newest
all_txns txns [] app = refl
all_txns txns (a ∷ more) app =
    all_txns (txns_with txns a) more app ∙ ap (λ (o : Option TxnAction). newer o (newest (txn_on app) more)) (one_txn txns a app) ∙ newer_assoc (found txns app) (txn_on app a) (newest (txn_on app) more)

all_actions : (kept : List (List ℕ × Action)) (all : List Action) (path : List ℕ) → found (actions_after kept all) path ≡ newer (found kept path) (newest (action_on path) all)
unfolding newest
all_actions kept [] path = refl
all_actions kept (a ∷ more) path =
    all_actions (actions_with kept a) more path ∙ ap (λ (o : Option Action). newer o (newest (action_on path) more)) (one_action kept a path) ∙ newer_assoc (found kept path) (action_on path a) (newest (action_on path) more)

pub each_commit_applies : EachCommitApplies
each_commit_applies t version commit = record {
  version = refl;
  stamp = refl;
  protocol = refl;
  meta = refl;
  txn = λ app. all_txns t.txns commit app;
  action = λ path. all_actions t.actions commit path;
}
