-- Deletions of objects, one after another.
use Rattle.std.specs.Prelude.{ℕ, suc, length, List, [], ◌∷◌, Option, Some, None}
use Rattle.edge_api.specs.declared.call.Call.{Call}
use Rattle.edge_api.specs.declared.call.Call.TheVariants as call
use Rattle.call_phases.specs.Phases.{Entries, AtDelete}
use Rattle.call_phases.specs.Ending.{Ending}
use Rattle.call_phases.specs.declared.fault.CallFault.{CallFault}
use Rattle.call_phases.specs.declared.fault.CallFault.TheVariants as fault
use Rattle.call_phases.specs.declared.delete.DeleteStage.{DeleteStage}
use Rattle.call_phases.specs.declared.delete.DeleteStage.TheVariants as stage
use Rattle.call_phases.specs.Called.{called_delete}
use Rattle.call_phases.specs.Endings.{IsOpenEnd, HasFailed, HasEnded}

-- the objects of these names are deleted
abbrev pub AtDeletes : Type 0 → (CallFault → Entries → Type 0) → (Entries → Type 0) → List (List ℕ) → Entries → Type 0
AtDeletes open_end fails next [] es = next es
AtDeletes open_end fails next (n ∷ ns) es = AtDelete open_end n (fails (fault.Fault (called_delete n))) (λ rest. AtDeletes open_end fails next ns rest) es

-- .. and end so
abbrev pub DeletesAll : List (List ℕ) → Entries → Ending CallFault (Unit {0}) → Type 0
DeletesAll ns es o = AtDeletes (IsOpenEnd fault.NoMemory o) (HasFailed o) (HasEnded o tt) ns es

abbrev pub call_at : DeleteStage → Option Call
call_at (stage.Deleting name left) = Some (call.Delete name)
call_at stage.Deleted = None
call_at (stage.Failed f) = None

abbrev pub left_at : DeleteStage → ℕ
left_at (stage.Deleting name left) = suc (length left.items)
left_at stage.Deleted = 0
left_at (stage.Failed f) = 0

abbrev pub RestAt : DeleteStage → Entries → Ending CallFault (Unit {0}) → Type 0
RestAt (stage.Deleting name left) es o = DeletesAll (name ∷ left.items) es o
RestAt stage.Deleted es o = HasEnded o tt es
RestAt (stage.Failed f) es o = HasFailed o f es
