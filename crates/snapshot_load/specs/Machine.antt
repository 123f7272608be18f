-- Where a load stands.
use Rattle.std.specs.Prelude.{◌≡◌, ℕ, List, Option}
use Rattle.edge_api.specs.declared.call.Call.{Call}
use Rattle.edge_api.specs.declared.call.Listed.{Listed}
use Rattle.log_actions.specs.declared.fault.LogFault.{LogFault}
use Rattle.log_state.specs.Table.{Table}
use Rattle.call_phases.specs.Phases.{Entries}
use Rattle.call_phases.specs.Ending.{Ending}
use Rattle.call_phases.specs.Endings.{HasEnded, HasFailed, IsOpenEnd, Maps}
use Rattle.call_phases.specs.GetsAt as gets
use Rattle.call_phases.specs.declared.gets.GetFault.{GetFault}
use Rattle.snapshot_load.specs.declared.commits.Base.{Base}
use Rattle.snapshot_load.specs.declared.commits.Commits.{Commits}
use Rattle.snapshot_load.specs.declared.fault.LoadFailed.{LoadFailed}
use Rattle.snapshot_load.specs.declared.load.Load.{Load}
use Rattle.snapshot_load.specs.declared.loaded.Loaded.{Loaded}
use Rattle.snapshot_load.specs.Faults.{fault_of_gets}
use Rattle.snapshot_load.specs.declared.fault.LoadFault.TheVariants.{NoMemory}
use Rattle.snapshot_load.specs.Commits as law
use Rattle.snapshot_load.specs.Loads.{failed_by, loaded_by, AtLoad}
use Rattle.snapshot_load.specs.Readers.{commits_of, wanted_commit, commits_left_of, commits_after}

-- what is handed back after the gets
abbrev pub failed_after : Option Table → GetFault LogFault → LoadFailed
failed_after kept f = failed_by (fault_of_gets f) kept

abbrev pub loaded_after : Option Table → List Listed → Commits → Loaded
loaded_after kept l c = loaded_by l c.table kept

abbrev pub call_of : Load → Option Call
call_of load = gets.call_at load.gets.stage

abbrev pub left_of : Load → ℕ
left_of load = gets.left_at commits_left_of load.gets.stage

abbrev pub IsReady : Load → Type 0
IsReady load = load.gets.call ≡ call_of load

abbrev pub RestOf : Load → Entries → Ending LoadFailed Loaded → Type 0
RestOf load es o = Maps (failed_after load.kept) (loaded_after load.kept load.listing) (gets.RestAt wanted_commit commits_after load.gets.stage) es o

-- the base that a reader and a kept table stand for
abbrev pub base_by : Base → law.Base
base_by b = record { commits = commits_of b.commits; spare = b.spare }

-- a load from a base on, and how it ends
abbrev pub LoadsBase : List Listed → law.Base → Entries → Ending LoadFailed Loaded → Type 0
LoadsBase l base es o = AtLoad (λ k. IsOpenEnd (failed_by NoMemory k) o) (λ f k rest. HasFailed o (failed_by f k) rest) (λ t k rest. HasEnded o (loaded_by l t k) rest) base es
