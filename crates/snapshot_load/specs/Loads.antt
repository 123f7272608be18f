-- A load of a table from its log: which entries it has, and what it comes to.
use Rattle.std.specs.Prelude.{◌⊎◌, ℕ, nat_lt, if◌then◌else◌, List, Option, Some, None, option_map, MatchOption, Result, Ok, Err, MatchResult}
use Rattle.row_base.specs.declared.limits.TheConstants.{VERSION_LIMIT}
use Rattle.edge_api.specs.declared.call.Listed.{Listed}
use Rattle.log_actions.specs.declared.fault.Feature.TheVariants.{CheckpointForm, Versions}
use Rattle.log_state.specs.Table.{Table}
use Rattle.table_rules.specs.Names.{commit_text}
use Rattle.call_phases.specs.Phases.{Entries}
use Rattle.call_phases.specs.Ending.{Ending}
use Rattle.call_phases.specs.Endings.{IsOpenEnd, HasFailed, HasEnded}
use Rattle.call_phases.specs.Gets.{AtGets}
use Rattle.snapshot_load.specs.declared.fault.LoadFailed.{LoadFailed}
use Rattle.snapshot_load.specs.declared.fault.LoadFault.{LoadFault}
use Rattle.snapshot_load.specs.declared.fault.LoadFault.TheVariants.{LogGone, NoMemory, NoTable, Unsupported}
use Rattle.snapshot_load.specs.declared.loaded.Asked.{Asked}
use Rattle.snapshot_load.specs.declared.loaded.Asked.TheVariants.{Newest}
use Rattle.snapshot_load.specs.declared.loaded.Loaded.{Loaded}
use Rattle.snapshot_load.specs.Commits.{Commits, next_commit, apply_next, commits_left, Base, base_of}
use Rattle.snapshot_load.specs.Faults.{fault_of_gets}
use Rattle.snapshot_load.specs.Listing.{newest, missing, has_checkpoint}

-- a version that there is, if it is supported
abbrev pub if_supported : Option ℕ → Result ℕ LoadFault
if_supported None = Err NoTable
if_supported (Some v) = if nat_lt v VERSION_LIMIT then Ok v else Err (Unsupported Versions)

-- the version that is loaded
abbrev pub version_asked : Asked → List Listed → Result ℕ LoadFault
version_asked Newest l = if_supported (newest l)

-- a commit that is needed for a version isn't listed: a checkpoint may stand in its place
abbrev pub fault_of_gap : List Listed → ℕ → ℕ → LoadFault
fault_of_gap l version gap = if has_checkpoint version l then Unsupported CheckpointForm else LogGone (commit_text gap)

-- what is wrong where some of these commits, which are needed for a version, aren't listed
abbrev pub fault_of_listing : List Listed → ℕ → Commits → Option LoadFault
fault_of_listing l version c = option_map (fault_of_gap l version) (missing l c.at (commits_left c))

-- by what the entries are while the load is open, what follows a fault, and what follows a table. Each is told which kept table is handed back
module _ (open_end : Option Table → Type 0) (fails : LoadFault → Option Table → Entries → Type 0) (next : Table → Option Table → Entries → Type 0) where
  -- the commits are got from a base on
  abbrev pub AtLoad : Base → Entries → Type 0
  AtLoad base es = AtGets next_commit apply_next (open_end base.spare) (λ f rest. fails (fault_of_gets f) base.spare rest) (λ c rest. next c.table base.spare rest) base.commits es

  -- a version is loaded from a base on. The commits that are needed are looked for in the listing first
  abbrev pub LoadsFrom : List Listed → Option Table → ℕ → Base → Entries → Type 0
  LoadsFrom l kept version base es = fails NoMemory kept es ⊎ MatchOption (fault_of_listing l version base.commits) (AtLoad base es) (λ f. fails f kept es)

  -- what is asked for is loaded
  abbrev pub Loads : Asked → List Listed → Option Table → Entries → Type 0
  Loads asked l kept es = MatchResult (version_asked asked l) (λ v. LoadsFrom l kept v (base_of kept v) es) (λ f. fails f kept es)

-- what a load hands back
abbrev pub failed_by : LoadFault → Option Table → LoadFailed
failed_by f kept = record { fault = f; kept = kept }

abbrev pub loaded_by : List Listed → Table → Option Table → Loaded
loaded_by l t kept = record { state = t; kept = kept; listing = l }

-- a load, and how it ends
abbrev pub LoadsAll : Asked → List Listed → Option Table → Entries → Ending LoadFailed Loaded → Type 0
LoadsAll asked l kept es o = Loads (λ k. IsOpenEnd (failed_by NoMemory k) o) (λ f k rest. HasFailed o (failed_by f k) rest) (λ t k rest. HasEnded o (loaded_by l t k) rest) asked l kept es
