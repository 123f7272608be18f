-- Why a winner ends the attempts without a clash.
use Rattle.std.specs.Prelude.{ℕ, List}
use Rattle.log_actions.specs.declared.fault.LogFault.{LogFault}
use Rattle.log_actions.specs.declared.fault.LogFaultKind.{LogFaultKind}
use Rattle.log_actions.specs.declared.fault.LogFaultKind.TheVariants as kinds
use Rattle.commit_attempts.specs.declared.judge.JudgeFault.{JudgeFault}
use Rattle.commit_attempts.specs.declared.judge.JudgeFault.TheVariants as judge_fault
use Rattle.commit_attempts.specs.declared.fault.AttemptFault.{AttemptFault}
use Rattle.commit_attempts.specs.declared.fault.AttemptFault.TheVariants.{BadObject, NoMemory, Unsupported}
use Rattle.commit_attempts.specs.declared.fault.WinnerFault.TheVariants as winner

-- the fault of a winner's commit whose line is wrong in this way
abbrev pub fault_of_kind : {C : Type 0} → List ℕ → LogFault → LogFaultKind → AttemptFault C
fault_of_kind name f kinds.Json = BadObject name (winner.Log f)
fault_of_kind name f kinds.Shape = BadObject name (winner.Log f)
fault_of_kind name f kinds.Twice = BadObject name (winner.Log f)
fault_of_kind name f (kinds.Unsupported feature) = Unsupported feature
fault_of_kind name f kinds.NoMemory = NoMemory

-- the fault of a winner's commit without a reading: the object's, unless it names a feature or memory was wanting
abbrev pub fault_of_commit : {C : Type 0} → List ℕ → LogFault → AttemptFault C
fault_of_commit name f = fault_of_kind name f f.kind

-- the fault of a winner's commit that wasn't judged: the value's, unless memory was wanting
abbrev pub fault_of_judge : {C : Type 0} → List ℕ → JudgeFault → AttemptFault C
fault_of_judge name (judge_fault.Value column) = BadObject name (winner.Value column)
fault_of_judge name judge_fault.NoMemory = NoMemory
