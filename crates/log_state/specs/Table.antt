-- A table at a version, and that commits leave it.
use Rattle.std.specs.Prelude.{◌≡◌, ◌≤◌, ◌+◌, ◌-◌, ◌^◌, ℕ, suc, List, [], ◌∷◌, Option, Some, None}
use Rattle.indexmap.specs.IndexMap.{insert_entry}
use Rattle.std.specs.Map.{lookup}
use Rattle.std.specs.Str.{bytes_eq}
use Rattle.log_actions.specs.declared.action.MetaData.{MetaData}
use Rattle.log_actions.specs.declared.action.Protocol.{Protocol}
use Rattle.log_actions.specs.declared.action.Txn.{Txn}
use Rattle.log_actions.specs.declared.action.Action.{Action}
use Rattle.log_actions.specs.declared.action.Action.TheVariants as actions
use Rattle.log_state.specs.Newest.{actions_in, newer, newest, protocol_in, metadata_in, txn_on, action_on}
use Rattle.log_state.specs.Stamps.{stamp_in, stamp_after, stamp_from}

-- a table as contracts see it: applications each with its newest transaction, and paths each with the newest action
-- that adds or removes its file
pub record Table : Type 0 where
  pub version : Option ℕ
  pub stamp : Option ℕ
  pub protocol : Option Protocol
  pub meta : Option MetaData
  pub txns : List (List ℕ × Txn)
  pub actions : List (List ℕ × Action)

-- the value of a name among pairs
abbrev pub found : {V : Type 0} → List (List ℕ × V) → List ℕ → Option V
found entries name = lookup (bytes_eq name) entries

-- an application's newest transaction
abbrev pub txn_of : Table → List ℕ → Option Txn
txn_of t app = found t.txns app

-- the newest action that adds or removes the file of a path
abbrev pub action_of : Table → List ℕ → Option Action
action_of t path = found t.actions path

-- the version after this one
abbrev pub next_version : Option ℕ → ℕ
next_version None = 0
next_version (Some version) = suc version

-- the version of the newest of these commits, behind the version before them
abbrev pub version_from : Option ℕ → List (List Action) → Option ℕ
version_from before [] = before
version_from before (commit ∷ more) = version_from (Some (next_version before)) more

-- the table says what the newest of these actions say
pub record Reconciles (all : List Action) (t : Table) : Type 0 where
  pub protocol : t.protocol ≡ newest protocol_in all
  pub meta : t.meta ≡ newest metadata_in all
  pub txn : (app : List ℕ) → txn_of t app ≡ newest (txn_on app) all
  pub action : (path : List ℕ) → action_of t path ≡ newest (action_on path) all

-- the table that these commits leave, from version 0 on
pub record IsTableOf (commits : List (List Action)) (t : Table) : Type 0 where
  pub version : t.version ≡ version_from None commits
  pub stamp : t.stamp ≡ stamp_from None commits
  pub reconciled : Reconciles (actions_in commits) t

-- what each thing is after one more commit, of this version
pub record IsApplied (old : Table) (next : ℕ) (commit : List Action) (new : Table) : Type 0 where
  pub version : new.version ≡ Some next
  pub stamp : new.stamp ≡ Some (stamp_after old.stamp (stamp_in commit))
  pub protocol : new.protocol ≡ newer old.protocol (newest protocol_in commit)
  pub meta : new.meta ≡ newer old.meta (newest metadata_in commit)
  pub txn : (app : List ℕ) → txn_of new app ≡ newer (txn_of old app) (newest (txn_on app) commit)
  pub action : (path : List ℕ) → action_of new path ≡ newer (action_of old path) (newest (action_on path) commit)

-- the newest transactions after an action: a new application stands last
abbrev pub txns_with : List (List ℕ × Txn) → Action → List (List ℕ × Txn)
txns_with txns (actions.Protocol p) = txns
txns_with txns (actions.Meta m) = txns
txns_with txns (actions.Add f) = txns
txns_with txns (actions.Remove f) = txns
txns_with txns (actions.Txn t) = insert_entry bytes_eq txns t.app_id t
txns_with txns (actions.Info i) = txns
txns_with txns (actions.Checkpoint c) = txns
txns_with txns (actions.Sidecar s) = txns
txns_with txns actions.Ignored = txns

-- the newest actions on files after an action: a new path stands last
abbrev pub actions_with : List (List ℕ × Action) → Action → List (List ℕ × Action)
actions_with kept (actions.Protocol p) = kept
actions_with kept (actions.Meta m) = kept
actions_with kept (actions.Add f) = insert_entry bytes_eq kept f.path (actions.Add f)
actions_with kept (actions.Remove f) = insert_entry bytes_eq kept f.path (actions.Remove f)
actions_with kept (actions.Txn t) = kept
actions_with kept (actions.Info i) = kept
actions_with kept (actions.Checkpoint c) = kept
actions_with kept (actions.Sidecar s) = kept
actions_with kept actions.Ignored = kept

-- the same after several
abbrev pub txns_after : List (List ℕ × Txn) → List Action → List (List ℕ × Txn)
txns_after txns [] = txns
txns_after txns (a ∷ more) = txns_after (txns_with txns a) more

abbrev pub actions_after : List (List ℕ × Action) → List Action → List (List ℕ × Action)
actions_after kept [] = kept
actions_after kept (a ∷ more) = actions_after (actions_with kept a) more

-- a table with one more commit, of this version
abbrev pub applied : Table → ℕ → List Action → Table
applied t version commit = record {
  version = Some version;
  stamp = Some (stamp_after t.stamp (stamp_in commit));
  protocol = newer t.protocol (newest protocol_in commit);
  meta = newer t.meta (newest metadata_in commit);
  txns = txns_after t.txns commit;
  actions = actions_after t.actions commit;
}

-- a stamp is at most one for each version above 2^63 - 2^21, and at most 2^63
abbrev pub IsInRange : Option ℕ → Option ℕ → Type 0
IsInRange version None = Unit {0}
IsInRange None (Some stamp) = ⊥
IsInRange (Some version) (Some stamp) = (stamp ≤ 2 ^ 63 - 2 ^ 21 + version) × (stamp ≤ 2 ^ 63)
