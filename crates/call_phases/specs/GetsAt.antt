-- Where the gets stand.
use Rattle.std.specs.Prelude.{◌⊎◌, ℕ, List, Option, Some, None, Result}
use Rattle.edge_api.specs.declared.call.Call.{Call}
use Rattle.edge_api.specs.declared.call.Call.TheVariants.{Get}
use Rattle.call_phases.specs.Phases.{Entries}
use Rattle.call_phases.specs.Ending.{Ending}
use Rattle.call_phases.specs.declared.gets.GetFault.{GetFault}
use Rattle.call_phases.specs.declared.gets.GetFault.TheVariants as fault
use Rattle.call_phases.specs.declared.gets.GetsStage.{GetsStage}
use Rattle.call_phases.specs.declared.gets.GetsStage.TheVariants as stage
use Rattle.call_phases.specs.declared.reader.Reader.{Ghosts}
use Rattle.call_phases.specs.Endings.{HasFailed, HasEnded}
use Rattle.call_phases.specs.Gets.{OnReading, GetsAll}

abbrev pub call_at : {R F : Type 0} {g : Ghosts R F} → GetsStage R F g → Option Call
call_at (stage.Getting w) = Some (Get w.name)
call_at (stage.Read r) = None
call_at (stage.Failed f) = None

abbrev pub left_at : {R F : Type 0} {g : Ghosts R F} → (R → ℕ) → GetsStage R F g → ℕ
left_at left (stage.Getting w) = left w.reader
left_at left (stage.Read r) = 0
left_at left (stage.Failed f) = 0

module _ {R F : Type 0} (wants : R → Option (List ℕ)) (after : R → List ℕ → Result R F) where
  -- the body of an object came
  abbrev pub AtBody : List ℕ → R → List ℕ → Entries → Ending (GetFault F) R → Type 0
  AtBody name r body es o = HasFailed o fault.NoMemory es ⊎ OnReading (after r body) (λ f. HasFailed o (fault.Bad name f) es) (λ new. GetsAll wants after new es o)

  abbrev pub RestAt : {g : Ghosts R F} → GetsStage R F g → Entries → Ending (GetFault F) R → Type 0
  RestAt (stage.Getting w) es o = GetsAll wants after w.reader es o
  RestAt (stage.Read r) es o = HasEnded o r es
  RestAt (stage.Failed f) es o = HasFailed o f es
