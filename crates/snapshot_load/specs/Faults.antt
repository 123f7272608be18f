-- Why a load has no table.
use Rattle.std.specs.Prelude.{ℕ, List}
use Rattle.log_actions.specs.declared.fault.LogFault.{LogFault}
use Rattle.log_actions.specs.declared.fault.LogFaultKind.{LogFaultKind}
use Rattle.log_actions.specs.declared.fault.LogFaultKind.TheVariants as kinds
use Rattle.call_phases.specs.declared.gets.GetFault.{GetFault}
use Rattle.call_phases.specs.declared.gets.GetFault.TheVariants as get
use Rattle.snapshot_load.specs.declared.fault.LoadFault.{LoadFault}
use Rattle.snapshot_load.specs.declared.fault.LoadFault.TheVariants.{BadObject, Fault, LogGone, NoMemory, Unsupported}

-- the fault of a commit whose line is wrong in this way
abbrev pub fault_of_kind : List ℕ → LogFault → LogFaultKind → LoadFault
fault_of_kind name f kinds.Json = BadObject name f
fault_of_kind name f kinds.Shape = BadObject name f
fault_of_kind name f kinds.Twice = BadObject name f
fault_of_kind name f (kinds.Unsupported feature) = Unsupported feature
fault_of_kind name f kinds.NoMemory = BadObject name f

-- the fault of a commit without a reading: the object's, unless it names a feature
abbrev pub fault_of_commit : List ℕ → LogFault → LoadFault
fault_of_commit name f = fault_of_kind name f f.kind

-- the fault of the gets of commits
abbrev pub fault_of_gets : GetFault LogFault → LoadFault
fault_of_gets (get.Fault call) = Fault call
fault_of_gets (get.Missing name) = LogGone name
fault_of_gets (get.Bad name f) = fault_of_commit name f
fault_of_gets get.NoMemory = NoMemory
