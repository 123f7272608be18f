-- What was noted of the actions so far.
use Rattle.std.specs.Prelude.{◌≡◌, ℕ, Bool, false, ◌||◌, List}
use Rattle.std.specs.List.{list_any}
use Rattle.std.specs.Str.{bytes_eq}
use Rattle.log_actions.specs.declared.action.Action.{Action}
use Rattle.log_actions.specs.declared.action.Action.TheVariants.{Protocol, Meta, Add, Remove, Txn, Info, Checkpoint, Sidecar, Ignored}
use Rattle.log_actions.specs.declared.named.Named.{Named}
use Rattle.log_actions.specs.Twice.{is_protocol, is_metadata, is_of_application, is_on_path}

-- a name is among these
unfoldable pub has : List (List ℕ) → List ℕ → Bool
has names q = list_any (λ name. bytes_eq q name) names

-- what was noted is what these actions said
pub record Holds (named : Named) (earlier : List Action) : Type 0 where
  pub protocol : named.protocol ≡ list_any is_protocol earlier
  pub metadata : named.metadata ≡ list_any is_metadata earlier
  pub applications : (q : List ℕ) → has named.applications.keys q ≡ list_any (is_of_application q) earlier
  pub paths : (q : List ℕ) → has named.paths.keys q ≡ list_any (is_on_path q) earlier

-- an action was noted
pub record Notes (old : Named) (a : Action) (new : Named) : Type 0 where
  pub protocol : new.protocol ≡ (is_protocol a || old.protocol)
  pub metadata : new.metadata ≡ (is_metadata a || old.metadata)
  pub applications : (q : List ℕ) → has new.applications.keys q ≡ (is_of_application q a || has old.applications.keys q)
  pub paths : (q : List ℕ) → has new.paths.keys q ≡ (is_on_path q a || has old.paths.keys q)

-- what an action says once was noted
unfoldable pub is_named : Named → Action → Bool
is_named named (Protocol p) = named.protocol
is_named named (Meta m) = named.metadata
is_named named (Add f) = has named.paths.keys f.path
is_named named (Remove f) = has named.paths.keys f.path
is_named named (Txn t) = has named.applications.keys t.app_id
is_named named (Info i) = false
is_named named (Checkpoint c) = false
is_named named (Sidecar s) = false
is_named named Ignored = false
