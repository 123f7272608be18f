-- Where a statement stands, by its next call.
use Rattle.std.specs.Prelude.{◌≡◌, ◌⊎◌, ℕ, Option, Some, None, Bool, true, false}
use Rattle.edge_api.specs.declared.call.Call.{Call}
use Rattle.edge_api.specs.declared.call.Call.TheVariants.{Get, PutNew, Put, List as ListNames, Delete, Now, Wait}
use Rattle.edge_api.specs.declared.actor.Stage.{Stage as Place}
use Rattle.edge_api.specs.declared.actor.Stage.TheVariants as place
use Rattle.table_rules.specs.Names.{log_name}
use Rattle.table_rules.specs.declared.log.LogName.{LogName}
use Rattle.table_rules.specs.declared.log.LogName.TheVariants as log

-- a put under this name
abbrev pub place_of_name : LogName → Place
place_of_name (log.Commit version) = place.Attempt
place_of_name (log.CheckpointJson version) = place.Running
place_of_name (log.CheckpointOther version) = place.Running
place_of_name log.Hint = place.Running
place_of_name log.OtherLog = place.Running
place_of_name log.Outside = place.Running

abbrev pub place_of_call : Call → Place
place_of_call (PutNew name body) = place_of_name (log_name name)
place_of_call (Get name) = place.Running
place_of_call (Put name body) = place.Running
place_of_call (ListNames prefix) = place.Running
place_of_call (Delete name) = place.Running
place_of_call Now = place.Running
place_of_call (Wait time) = place.Running

-- by whether the next call is the first of all
abbrev pub place_at : Bool → Option Call → Place
place_at first None = place.Done
place_at true (Some call) = place.Between
place_at false (Some call) = place_of_call call

-- the name is that of a version's commit
abbrev pub IsCommitName : LogName → Type 0
IsCommitName name = (version : ℕ) × (name ≡ log.Commit version)

-- the call puts a version's commit
abbrev pub PutsCommit : Call → Type 0
PutsCommit (PutNew name body) = IsCommitName (log_name name)
PutsCommit (Get name) = ⊥
PutsCommit (Put name body) = ⊥
PutsCommit (ListNames prefix) = ⊥
PutsCommit (Delete name) = ⊥
PutsCommit Now = ⊥
PutsCommit (Wait time) = ⊥

-- the call reads the clock, or waits
abbrev pub IsFirstCall : Call → Type 0
IsFirstCall call = (call ≡ Now) ⊎ ((time : ℕ) × (call ≡ Wait time))

-- the next call, by where the statement stands: it reads the clock or waits first of all, and puts a commit exactly at an attempt
abbrev pub IsCallAt : Place → Call → Type 0
IsCallAt place.Between call = IsFirstCall call
IsCallAt place.Running call = PutsCommit call → ⊥
IsCallAt place.Attempt call = PutsCommit call
IsCallAt place.Done call = ⊥
