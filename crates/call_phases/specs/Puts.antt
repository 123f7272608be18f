-- Puts of files under free names, one after another.
use Rattle.std.specs.Prelude.{ℕ, suc, length, List, [], ◌∷◌, Option, Some, None}
use Rattle.edge_api.specs.declared.call.Call.{Call}
use Rattle.edge_api.specs.declared.call.Call.TheVariants.{PutNew}
use Rattle.call_phases.specs.Phases.{Entries, AtPutNew}
use Rattle.call_phases.specs.Ending.{Ending}
use Rattle.call_phases.specs.declared.puts.File.{File}
use Rattle.call_phases.specs.declared.puts.PutFault.{PutFault}
use Rattle.call_phases.specs.declared.puts.PutFault.TheVariants as fault
use Rattle.call_phases.specs.declared.puts.PutsStage.{PutsStage}
use Rattle.call_phases.specs.declared.puts.PutsStage.TheVariants as stage
use Rattle.call_phases.specs.Called.{called_put}
use Rattle.call_phases.specs.Endings.{IsOpenEnd, HasFailed, HasEnded}

-- the files are put, each under a free name
abbrev pub AtPuts : Type 0 → (PutFault → Entries → Type 0) → (Entries → Type 0) → List File → Entries → Type 0
AtPuts open_end fails next [] es = next es
AtPuts open_end fails next (f ∷ fs) es =
    AtPutNew open_end f.name f.body (fails (fault.Fault (called_put f.name))) (λ rest. AtPuts open_end fails next fs rest) (fails (fault.NameTaken f.name)) es

-- .. and end so
abbrev pub PutsAll : List File → Entries → Ending PutFault (Unit {0}) → Type 0
PutsAll fs es o = AtPuts (IsOpenEnd fault.NoMemory o) (HasFailed o) (HasEnded o tt) fs es

abbrev pub call_at : PutsStage → Option Call
call_at (stage.Putting file left) = Some (PutNew file.name file.body)
call_at stage.Stored = None
call_at (stage.Failed f) = None

abbrev pub left_at : PutsStage → ℕ
left_at (stage.Putting file left) = suc (length left.items)
left_at stage.Stored = 0
left_at (stage.Failed f) = 0

abbrev pub RestAt : PutsStage → Entries → Ending PutFault (Unit {0}) → Type 0
RestAt (stage.Putting file left) es o = PutsAll (file ∷ left.items) es o
RestAt stage.Stored es o = HasEnded o tt es
RestAt (stage.Failed f) es o = HasFailed o f es
