-- Of the actions on one thing the newest counts: by version, and in a commit by line (PROTOCOL.md, "Action
-- Reconciliation").
use Rattle.std.specs.Prelude.{ℕ, if◌then◌else◌, List, [], ◌∷◌, ◌++◌, Option, Some, None, option_and_then}
use Rattle.std.specs.Str.{bytes_eq}
use Rattle.log_actions.specs.declared.action.AddFile.{AddFile}
use Rattle.log_actions.specs.declared.action.RemoveFile.{RemoveFile}
use Rattle.log_actions.specs.declared.action.MetaData.{MetaData}
use Rattle.log_actions.specs.declared.action.Protocol.{Protocol as ProtocolAction}
use Rattle.log_actions.specs.declared.action.Txn.{Txn as TxnAction}
use Rattle.log_actions.specs.declared.action.Action.{Action}
use Rattle.log_actions.specs.declared.action.Action.TheVariants.{Protocol, Meta, Add, Remove, Txn, Info, Checkpoint, Sidecar, Ignored}
use Rattle.log_actions.specs.Twice.{is_on_path}
pub use Rattle.table_files.specs.Commits.{newer}

-- the actions of all these commits, in order of version and of line
abbrev pub actions_in : List (List Action) → List Action
actions_in [] = []
actions_in (commit ∷ more) = commit ++ actions_in more

-- what the newest says of those actions that say something
unfoldable pub newest : {A : Type 0} → (Action → Option A) → List Action → Option A
newest said [] = None
newest said (a ∷ more) = newer (said a) (newest said more)

-- the protocol that an action sets
abbrev pub protocol_in : Action → Option ProtocolAction
protocol_in (Protocol p) = Some p
protocol_in (Meta m) = None
protocol_in (Add f) = None
protocol_in (Remove f) = None
protocol_in (Txn t) = None
protocol_in (Info i) = None
protocol_in (Checkpoint c) = None
protocol_in (Sidecar s) = None
protocol_in Ignored = None

-- the metadata that an action sets
abbrev pub metadata_in : Action → Option MetaData
metadata_in (Protocol p) = None
metadata_in (Meta m) = Some m
metadata_in (Add f) = None
metadata_in (Remove f) = None
metadata_in (Txn t) = None
metadata_in (Info i) = None
metadata_in (Checkpoint c) = None
metadata_in (Sidecar s) = None
metadata_in Ignored = None

-- the transaction of this application that an action is
abbrev pub txn_on : List ℕ → Action → Option TxnAction
txn_on app (Protocol p) = None
txn_on app (Meta m) = None
txn_on app (Add f) = None
txn_on app (Remove f) = None
txn_on app (Txn t) = if bytes_eq t.app_id app then Some t else None
txn_on app (Info i) = None
txn_on app (Checkpoint c) = None
txn_on app (Sidecar s) = None
txn_on app Ignored = None

-- an action that adds or removes the file of this path
abbrev pub action_on : List ℕ → Action → Option Action
action_on path a = if is_on_path path a then Some a else None

-- the file that an action adds
abbrev pub added_by : Action → Option AddFile
added_by (Protocol p) = None
added_by (Meta m) = None
added_by (Add f) = Some f
added_by (Remove f) = None
added_by (Txn t) = None
added_by (Info i) = None
added_by (Checkpoint c) = None
added_by (Sidecar s) = None
added_by Ignored = None

-- the file that an action removes
abbrev pub removed_by : Action → Option RemoveFile
removed_by (Protocol p) = None
removed_by (Meta m) = None
removed_by (Add f) = None
removed_by (Remove f) = Some f
removed_by (Txn t) = None
removed_by (Info i) = None
removed_by (Checkpoint c) = None
removed_by (Sidecar s) = None
removed_by Ignored = None

-- a file is live where the newest action on its path adds it
abbrev pub live_by : Option Action → Option AddFile
live_by newest = option_and_then added_by newest

-- and a tombstone where that action removes it
abbrev pub tombstone_by : Option Action → Option RemoveFile
tombstone_by newest = option_and_then removed_by newest
