-- What a commit may say once.
use Rattle.std.specs.Prelude.{ℕ, Bool, true, false, List}
use Rattle.std.specs.List.{list_any}
use Rattle.std.specs.Str.{bytes_eq}
use Rattle.log_actions.specs.declared.action.Action.{Action}
use Rattle.log_actions.specs.declared.action.Action.TheVariants.{Protocol, Meta, Add, Remove, Txn, Info, Checkpoint, Sidecar, Ignored}

-- an action that sets the protocol
abbrev pub is_protocol : Action → Bool
is_protocol (Protocol p) = true
is_protocol (Meta m) = false
is_protocol (Add f) = false
is_protocol (Remove f) = false
is_protocol (Txn t) = false
is_protocol (Info i) = false
is_protocol (Checkpoint c) = false
is_protocol (Sidecar s) = false
is_protocol Ignored = false

-- an action that sets the metadata
abbrev pub is_metadata : Action → Bool
is_metadata (Protocol p) = false
is_metadata (Meta m) = true
is_metadata (Add f) = false
is_metadata (Remove f) = false
is_metadata (Txn t) = false
is_metadata (Info i) = false
is_metadata (Checkpoint c) = false
is_metadata (Sidecar s) = false
is_metadata Ignored = false

-- a transaction of this application
abbrev pub is_of_application : List ℕ → Action → Bool
is_of_application app (Protocol p) = false
is_of_application app (Meta m) = false
is_of_application app (Add f) = false
is_of_application app (Remove f) = false
is_of_application app (Txn t) = bytes_eq t.app_id app
is_of_application app (Info i) = false
is_of_application app (Checkpoint c) = false
is_of_application app (Sidecar s) = false
is_of_application app Ignored = false

-- an action on this path, compared as it stands
abbrev pub is_on_path : List ℕ → Action → Bool
is_on_path path (Protocol p) = false
is_on_path path (Meta m) = false
is_on_path path (Add f) = bytes_eq f.path path
is_on_path path (Remove f) = bytes_eq f.path path
is_on_path path (Txn t) = false
is_on_path path (Info i) = false
is_on_path path (Checkpoint c) = false
is_on_path path (Sidecar s) = false
is_on_path path Ignored = false

-- an earlier action says what may be said once
unfoldable pub is_twice : List Action → Action → Bool
is_twice earlier (Protocol p) = list_any is_protocol earlier
is_twice earlier (Meta m) = list_any is_metadata earlier
is_twice earlier (Add f) = list_any (is_on_path f.path) earlier
is_twice earlier (Remove f) = list_any (is_on_path f.path) earlier
is_twice earlier (Txn t) = list_any (is_of_application t.app_id) earlier
is_twice earlier (Info i) = false
is_twice earlier (Checkpoint c) = false
is_twice earlier (Sidecar s) = false
is_twice earlier Ignored = false
