-- What is kept has the text that it is kept under.
use Rattle.std.proofs.Common.{◌≡◌, ◌≤◌, ◌<◌, ◌^◌, ℕ, Bool, true, false, List, [], ◌∷◌, Option, Some, None, IfSome, option_and_then, if◌then◌else◌, refl, sym, ap, ◌∙◌, subst}
use Rattle.std.specs.Str.{bytes_eq}
use Rattle.std.proofs.lemmas.Slice.Eq.{bytes_eq-Decides}
use Rattle.log_actions.specs.declared.action.AddFile.{AddFile}
use Rattle.log_actions.specs.declared.action.RemoveFile.{RemoveFile}
use Rattle.log_actions.specs.declared.action.Txn.{Txn as TxnAction}
use Rattle.log_actions.specs.declared.action.Action.{Action}
use Rattle.log_actions.specs.declared.action.Action.TheVariants.{Protocol, Meta, Add, Remove, Txn, Info, Checkpoint, Sidecar, Ignored}
use Rattle.log_actions.specs.Twice.{is_on_path}
use Rattle.log_state.specs.declared.kept.Kept.{Kept}
use Rattle.log_state.specs.Kept.{Keeps, IsSame, IsState}
use Rattle.log_state.specs.Listed.{IsUnderItsOwn}
use Rattle.log_state.specs.Newest.{newer, newest, txn_on, action_on, added_by, removed_by}
use Rattle.log_state.specs.Stamps.{stamp_after}
use Rattle.log_state.specs.Table.{found, next_version, IsInRange}
use Rattle.log_state.proofs.Tables.{stays_in_range}

-- what holds of each that is said holds of the newest
module _ {A : Type 0} (holds : A → Type 0) where
  pub of_newer : (x y : Option A) → IfSome x holds → IfSome y holds → IfSome (newer x y) holds
  of_newer x None hx hy = hx
  of_newer x (Some y) hx hy = hy

  of_newest : (said : Action → Option A) → ((a : Action) → IfSome (said a) holds) → (all : List Action) → IfSome (newest said all) holds
  unfolding newest
  of_newest said each [] = tt
  of_newest said each (a ∷ more) = of_newer (said a) (newest said more) (each a) (of_newest said each more)

  -- what a test lets through passes it
  pub if_passed : (x : A) (b : Bool) → (b ≡ true → holds x) → IfSome (if b then Some x else None) holds
  if_passed x true h = h refl
  if_passed x false h = tt

abbrev IsOf : List ℕ → TxnAction → Type 0
IsOf app t = bytes_eq t.app_id app ≡ true

abbrev IsOn : List ℕ → Action → Type 0
IsOn path a = is_on_path path a ≡ true

txn_of_app : (app : List ℕ) (a : Action) → IfSome (txn_on app a) (IsOf app)
txn_of_app app (Protocol p) = tt
txn_of_app app (Meta m) = tt
txn_of_app app (Add f) = tt
txn_of_app app (Remove f) = tt
txn_of_app app (Txn t) = if_passed (IsOf app) t (bytes_eq t.app_id app) (λ e. e)
txn_of_app app (Info i) = tt
txn_of_app app (Checkpoint c) = tt
txn_of_app app (Sidecar s) = tt
txn_of_app app Ignored = tt

action_of_path : (path : List ℕ) (a : Action) → IfSome (action_on path a) (IsOn path)
action_of_path path a = if_passed (IsOn path) a (is_on_path path a) (λ e. e)

-- with one more commit
pub next_state : (version stamp said : Option ℕ) (old new : Kept) (next : ℕ) (all : List Action) → IsState version stamp old → IfSome said (λ s. s ≤ 2 ^ 62) → next ≡ next_version version
    → next < 2 ^ 21 → Keeps old all new → IsState (Some next) (Some (stamp_after stamp said)) new
next_state version stamp said old new next all s small is few k = record {
  range = stays_in_range version stamp said next s.range small is few;
  txn = λ app. subst (λ x. IfSome x (IsOf app)) (sym (k.txn app)) (of_newer (IsOf app) (found old.txns.entries app) (newest (txn_on app) all) (s.txn app) (of_newest (IsOf app) (txn_on app) (txn_of_app app) all));
  action = λ path. subst (λ x. IfSome x (IsOn path)) (sym (k.action path))
      (of_newer (IsOn path) (found old.actions.entries path) (newest (action_on path) all) (s.action path) (of_newest (IsOn path) (action_on path) (action_of_path path) all));
}

-- where nothing is kept
pub state_of_none : (kept : Kept) → kept.txns.entries ≡ [] → kept.actions.entries ≡ [] → IsState None None kept
state_of_none kept ts acts = record {
  range = tt;
  txn = λ app. subst (λ es. IfSome (found es app) (IsOf app)) (sym ts) tt;
  action = λ path. subst (λ es. IfSome (found es path) (IsOn path)) (sym acts) tt;
}

-- where nothing was kept before
pub state_of_parts : (old now : Kept) (all : List Action) (version stamp : ℕ) → old.txns.entries ≡ [] → old.actions.entries ≡ [] → Keeps old all now → IsInRange (Some version) (Some stamp)
    → IsState (Some version) (Some stamp) now
state_of_parts old now all version stamp ts acts k range =
    let none = state_of_none old ts acts in
    record {
      range = range;
      txn = λ app. subst (λ x. IfSome x (IsOf app)) (sym (k.txn app)) (of_newer (IsOf app) (found old.txns.entries app) (newest (txn_on app) all) (none.txn app) (of_newest (IsOf app) (txn_on app) (txn_of_app app) all));
      action = λ path. subst (λ x. IfSome x (IsOn path)) (sym (k.action path))
          (of_newer (IsOn path) (found old.actions.entries path) (newest (action_on path) all) (none.action path) (of_newest (IsOn path) (action_on path) (action_of_path path) all));
    }

-- the same is kept
pub same_state : (version stamp : Option ℕ) (old now : Kept) → IsState version stamp old → IsSame old now → IsState version stamp now
same_state version stamp old now s same = record {
  range = s.range;
  txn = λ app. subst (λ es. IfSome (found es app) (IsOf app)) (sym same.txns) (s.txn app);
  action = λ path. subst (λ es. IfSome (found es path) (IsOn path)) (sym same.actions) (s.action path);
}

-- ---- parts

same_text : (x y : List ℕ) → bytes_eq x y ≡ true → x ≡ y
same_text x y e = (bytes_eq-Decides x y).0 e

module _ (version stamp : Option ℕ) (kept : Kept) (s : IsState version stamp kept) where
  pub own_adds : IsUnderItsOwn (λ (f : AddFile). f.path) added_by kept.actions.entries
  own_adds path f at = by (found kept.actions.entries path) (s.action path) at
    where
      by : (o : Option Action) → IfSome o (IsOn path) → option_and_then added_by o ≡ Some f → f.path ≡ path
      by None on at = absurd cc
      by (Some (Protocol p)) on at = absurd cc
      by (Some (Meta m)) on at = absurd cc
      by (Some (Add g)) on at = let one : g ≡ f = cc in ap (λ h. h.path) (sym one) ∙ same_text g.path path on
      by (Some (Remove g)) on at = absurd cc
      by (Some (Txn t)) on at = absurd cc
      by (Some (Info i)) on at = absurd cc
      by (Some (Checkpoint c)) on at = absurd cc
      by (Some (Sidecar s)) on at = absurd cc
      by (Some Ignored) on at = absurd cc

  pub own_removes : IsUnderItsOwn (λ (f : RemoveFile). f.path) removed_by kept.actions.entries
  own_removes path f at = by (found kept.actions.entries path) (s.action path) at
    where
      by : (o : Option Action) → IfSome o (IsOn path) → option_and_then removed_by o ≡ Some f → f.path ≡ path
      by None on at = absurd cc
      by (Some (Protocol p)) on at = absurd cc
      by (Some (Meta m)) on at = absurd cc
      by (Some (Add g)) on at = absurd cc
      by (Some (Remove g)) on at = let one : g ≡ f = cc in ap (λ h. h.path) (sym one) ∙ same_text g.path path on
      by (Some (Txn t)) on at = absurd cc
      by (Some (Info i)) on at = absurd cc
      by (Some (Checkpoint c)) on at = absurd cc
      by (Some (Sidecar s)) on at = absurd cc
      by (Some Ignored) on at = absurd cc

  pub own_txns : IsUnderItsOwn (λ (t : TxnAction). t.app_id) (λ t. Some t) kept.txns.entries
  own_txns app t at = by (found kept.txns.entries app) (s.txn app) at
    where
      by : (o : Option TxnAction) → IfSome o (IsOf app) → option_and_then (λ t. Some t) o ≡ Some t → t.app_id ≡ app
      by None on at = absurd cc
      by (Some u) on at = let one : u ≡ t = cc in ap (λ h. h.app_id) (sym one) ∙ same_text u.app_id app on
