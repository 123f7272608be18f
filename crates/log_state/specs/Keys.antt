-- The text under which an action is kept.
use Rattle.std.specs.Prelude.{ℕ, List, Option, Some, None}
use Rattle.log_actions.specs.declared.action.Action.{Action}
use Rattle.log_actions.specs.declared.action.Action.TheVariants.{Protocol, Meta, Add, Remove, Txn, Info, Checkpoint, Sidecar, Ignored}
use Rattle.log_state.specs.declared.keyed.Keyed.{Keyed}

-- the path of a file, or the application of a transaction
abbrev pub key_of : Action → Option (List ℕ)
key_of (Protocol p) = None
key_of (Meta m) = None
key_of (Add f) = Some f.path
key_of (Remove f) = Some f.path
key_of (Txn t) = Some t.app_id
key_of (Info i) = None
key_of (Checkpoint c) = None
key_of (Sidecar s) = None
key_of Ignored = None

-- an action with its key
abbrev pub with_key : Action → Keyed
with_key a = record { key = key_of a; action = a }
