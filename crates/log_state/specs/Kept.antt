-- What is kept of actions.
use Rattle.std.specs.Prelude.{◌≡◌, ◌≤◌, ℕ, true, List, Option, IfSome}
use Rattle.std.specs.Str.{bytes_eq}
use Rattle.indexmap.specs.IndexMap.{spare}
use Rattle.log_actions.specs.declared.action.Action.{Action}
use Rattle.log_state.specs.declared.kept.Kept.{Kept}
use Rattle.log_state.specs.Newest.{newer, newest, protocol_in, metadata_in, txn_on, action_on}
use Rattle.log_actions.specs.Twice.{is_on_path}
use Rattle.log_state.specs.Table.{Table, IsInRange, found, txns_after, actions_after}

-- the newest of these actions on each thing came in place of what was kept
pub record Keeps (old : Kept) (all : List Action) (new : Kept) : Type 0 where
  pub protocol : new.protocol ≡ newer old.protocol (newest protocol_in all)
  pub meta : new.meta ≡ newer old.meta (newest metadata_in all)
  pub txns : new.txns.entries ≡ txns_after old.txns.entries all
  pub actions : new.actions.entries ≡ actions_after old.actions.entries all
  pub txn : (app : List ℕ) → found new.txns.entries app ≡ newer (found old.txns.entries app) (newest (txn_on app) all)
  pub action : (path : List ℕ) → found new.actions.entries path ≡ newer (found old.actions.entries path) (newest (action_on path) all)

-- there is room for so many more actions
pub record HasRoom (n : ℕ) (kept : Kept) : Type 0 where
  pub txns : n ≤ spare kept.txns
  pub actions : n ≤ spare kept.actions

-- what is kept stays as it is
pub record IsSame (old new : Kept) : Type 0 where
  pub protocol : new.protocol ≡ old.protocol
  pub meta : new.meta ≡ old.meta
  pub txns : new.txns.entries ≡ old.txns.entries
  pub actions : new.actions.entries ≡ old.actions.entries

-- the table at a version with this stamp, of what is kept
abbrev pub table_at : Option ℕ → Option ℕ → Kept → Table
table_at version stamp kept = record { version = version; stamp = stamp; protocol = kept.protocol; meta = kept.meta; txns = kept.txns.entries; actions = kept.actions.entries }

-- the stamp is in range, and what is kept has the text that it is kept under
pub record IsState (version stamp : Option ℕ) (kept : Kept) : Type 0 where
  pub range : IsInRange version stamp
  pub txn : (app : List ℕ) → IfSome (found kept.txns.entries app) (λ t. bytes_eq t.app_id app ≡ true)
  pub action : (path : List ℕ) → IfSome (found kept.actions.entries path) (λ a. is_on_path path a ≡ true)
