-- A scan, by how it began and by what its gets come to.
use Rattle.std.proofs.Common.{◌≡◌, inl, inr, ℕ, List, [], length, map, refl, sym, ap, ◌∙◌, subst}
use Rattle.std.proofs.lemmas.List.{length-map}
use Rattle.std.specs.Prelude.{Result, Ok, Err}
use Rattle.log_actions.specs.declared.action.AddFile.{AddFile}
use Rattle.log_state.specs.Table.{Table}
use Rattle.log_state.specs.Listed.{AreLive}
use Rattle.parquet_meta.specs.declared.fault.FileFault.{FileFault}
use Rattle.row_base.specs.Faults.{FaultOf}
use Rattle.row_base.specs.declared.row.ScannedFile.{ScannedFile}
use Rattle.row_base.specs.Schema.{TableSchema}
use Rattle.predicates.specs.declared.pred.Pred.{Pred}
use Rattle.call_phases.specs.Phases.{Entries}
use Rattle.call_phases.specs.Ending.{Ending, Open, Failed, Ended}
use Rattle.call_phases.specs.Endings.{IsOpenEnd, HasFailed, HasEnded, map_ending}
use Rattle.call_phases.specs.Gets.{GetsAll, OnReading}
use Rattle.call_phases.specs.Views.{result_by}
use Rattle.call_phases.specs.declared.gets.GetFault.{GetFault}
use Rattle.call_phases.specs.declared.gets.GetFault.TheVariants as get
use Rattle.call_phases.proofs.FollowLists.{map_gets}
use Rattle.call_phases.proofs.Views.{gets_view}
use Rattle.scan.specs.declared.fault.ScanFault.{ScanFault}
use Rattle.scan.specs.declared.fault.ScanFault.TheVariants as fault
use Rattle.scan.specs.declared.reader.FilesToGet.{FilesToGet}
use Rattle.scan.specs.declared.scan.Scanned.{Scanned}
use Rattle.scan.specs.declared.wanted.WantedFile.{WantedFile}
use Rattle.scan.specs.Faults.{is_memory, of_get}
use Rattle.scan.specs.Files.{Files, wanted_in, next_file, read_next}
use Rattle.scan.specs.Machine.{scanned_after}
use Rattle.scan.specs.Reader.{files_of, with_files, wanted_name, after_body}
use Rattle.scan.specs.Scans.{none_got, scanned, ScansFiles, ScansAll}

-- what the reader stands for goes on as it does
told : (r : FilesToGet) (read : Result Files FileFault) → result_by files_of (result_by (with_files r) read) ≡ read
told r (Ok f) = refl
told r (Err f) = refl

module _ (live : ℕ) (o : Ending ScanFault Scanned) (inner : Ending (GetFault FileFault) FilesToGet) (is : o ≡ map_ending of_get (scanned_after live) inner) where
  made : (new : Ending (GetFault FileFault) FilesToGet) → inner ≡ new → o ≡ map_ending of_get (scanned_after live) new
  made new same = is ∙ ap (map_ending of_get (scanned_after live)) same

  opens : IsOpenEnd get.NoMemory inner → IsOpenEnd fault.NoMemory o
  opens (inl e) = inl (made Open e)
  opens (inr e) = inr (made (Failed get.NoMemory) e)

  abbrev GetsFail : GetFault FileFault → Entries → Type 0
  GetsFail f rest = HasFailed o (of_get f) rest

  abbrev Next : Files → Entries → Type 0
  Next f rest = HasEnded o (scanned live f) rest

  -- the gets of the files, by how the scan ends
  pub begun : (r : FilesToGet) (es : Entries) → GetsAll wanted_name after_body r es inner → ScansFiles live (files_of r) es o
  begun r es h =
      gets_view files_of wanted_name after_body next_file read_next (λ r. refl) (λ r body. told r (read_next (files_of r) body)) (IsOpenEnd fault.NoMemory o) GetsFail Next r es
      (map_gets wanted_name after_body opens (HasFailed inner) GetsFail (HasEnded inner) (λ r rest. Next (files_of r) rest) (λ f rest e. (e.0, made (Failed f) e.1)) (λ r rest e. made (Ended r rest) e) r es h)

-- by how the live files were looked at
abbrev Ends : TableSchema → ℕ → Entries → Ending ScanFault Scanned → Result (List WantedFile) ScanFault → Type 0
Ends schema live es o r = OnReading r (λ f. HasFailed o f es) (λ wanted. ScansFiles live (none_got schema wanted) es o)

module _ {X : Type 0} (now : X → AddFile) (schema : TableSchema) (pred : Pred ℕ) (t : Table) (xs : List X) (live : AreLive t (map now xs)) (es : Entries) (o : Ending ScanFault Scanned) where
  looked : (r : Result (List WantedFile) ScanFault) → wanted_in schema pred (map now xs) ≡ r → Ends schema (length (map now xs)) es o r → ScansAll schema pred t es o
  looked r is h = inr (map now xs, live, subst (Ends schema (length (map now xs)) es o) (sym is) h)

  -- the live files that are wanted are got
  pub scans : (wanted : List WantedFile) (count : ℕ) (copied : TableSchema) (got : List ScannedFile) → wanted_in schema pred (map now xs) ≡ Ok wanted → count ≡ length xs → copied ≡ schema → got ≡ []
      → ScansFiles count (record { schema = copied; wanted = wanted; got = got }) es o → ScansAll schema pred t es o
  scans wanted count copied got is counted same none h =
      looked (Ok wanted) is
      (subst (λ (n : ℕ). ScansFiles n (none_got schema wanted) es o) (counted ∙ sym (length-map xs now))
      (subst (λ (s : TableSchema). ScansFiles count (none_got s wanted) es o) same
      (subst (λ (g : List ScannedFile). ScansFiles count (record { schema = copied; wanted = wanted; got = g }) es o) none h)))

  -- one of them can't be looked at, or memory was wanting
  pub fails : (f : ScanFault) → FaultOf is_memory f (wanted_in schema pred (map now xs)) → HasFailed o f es → ScansAll schema pred t es o
  fails fault.NoMemory is h = inl h
  fails (fault.FileGone n) is h = looked (Err (fault.FileGone n)) is h
  fails (fault.BadObject n b) is h = looked (Err (fault.BadObject n b)) is h
  fails (fault.Unsupported x) is h = looked (Err (fault.Unsupported x)) is h
  fails (fault.Fault c) is h = looked (Err (fault.Fault c)) is h
