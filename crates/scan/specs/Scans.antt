-- A scan of a table: which entries it has, and what it comes to.
use Rattle.std.specs.Prelude.{◌⊎◌, ℕ, List, [], length}
use Rattle.log_actions.specs.declared.action.AddFile.{AddFile}
use Rattle.log_state.specs.Table.{Table}
use Rattle.log_state.specs.Listed.{AreLive}
use Rattle.row_base.specs.Schema.{TableSchema}
use Rattle.predicates.specs.declared.pred.Pred.{Pred}
use Rattle.call_phases.specs.Phases.{Entries}
use Rattle.call_phases.specs.Ending.{Ending}
use Rattle.call_phases.specs.Endings.{IsOpenEnd, HasFailed, HasEnded}
use Rattle.call_phases.specs.Gets.{OnReading, AtGets}
use Rattle.scan.specs.declared.fault.ScanFault.{ScanFault}
use Rattle.scan.specs.declared.fault.ScanFault.TheVariants as fault
use Rattle.scan.specs.declared.scan.Scanned.{Scanned}
use Rattle.scan.specs.declared.wanted.WantedFile.{WantedFile}
use Rattle.scan.specs.Faults.{of_get}
use Rattle.scan.specs.Files.{Files, wanted_in, next_file, read_next}

-- no file is got yet
abbrev pub none_got : TableSchema → List WantedFile → Files
none_got schema wanted = record { schema = schema; wanted = wanted; got = [] }

-- the files that were got, of so many live ones
abbrev pub scanned : ℕ → Files → Scanned
scanned live f = record { files = f.got; live = live }

-- by what the entries are while the scan is open, what follows a fault, and what follows its result
module _ (open_end : Type 0) (fails : ScanFault → Entries → Type 0) (next : Scanned → Entries → Type 0) where
  -- the files that are wanted are got one after another, of so many live ones
  abbrev pub AtFiles : ℕ → Files → Entries → Type 0
  AtFiles live f es = AtGets next_file read_next open_end (λ x. fails (of_get x)) (λ got. next (scanned live got)) f es

  -- the live files are looked at before any is got
  abbrev pub AtLive : TableSchema → Pred ℕ → List AddFile → Entries → Type 0
  AtLive schema pred files es = OnReading (wanted_in schema pred files) (λ f. fails f es) (λ wanted. AtFiles (length files) (none_got schema wanted) es)

  -- a table is scanned, unless memory is wanting
  abbrev pub AtScan : TableSchema → Pred ℕ → Table → Entries → Type 0
  AtScan schema pred t es = fails fault.NoMemory es ⊎ ((files : List AddFile) × AreLive t files × AtLive schema pred files es)

-- the gets of a scan, and how it ends
abbrev pub ScansFiles : ℕ → Files → Entries → Ending ScanFault Scanned → Type 0
ScansFiles live f es o = AtFiles (IsOpenEnd fault.NoMemory o) (HasFailed o) (HasEnded o) live f es

-- a scan, and how it ends
abbrev pub ScansAll : TableSchema → Pred ℕ → Table → Entries → Ending ScanFault Scanned → Type 0
ScansAll schema pred t es o = AtScan (IsOpenEnd fault.NoMemory o) (HasFailed o) (HasEnded o) schema pred t es
