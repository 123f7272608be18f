-- What the writing of new rows puts, and what it comes to.
use Rattle.std.specs.Prelude.{◌≡◌, ℕ, Bool, List, Option}
use Rattle.edge_api.specs.declared.call.Call.{Call}
use Rattle.edge_api.specs.declared.call.Tag.{Tag}
use Rattle.log_actions.specs.declared.action.AddFile.{AddFile}
use Rattle.row_base.specs.declared.row.Datum.{Datum}
use Rattle.row_base.specs.Schema.{TableSchema}
use Rattle.call_phases.specs.Phases.{Entries}
use Rattle.call_phases.specs.Ending.{Ending}
use Rattle.call_phases.specs.Endings.{Maps}
use Rattle.call_phases.specs.Puts as puts
use Rattle.call_phases.specs.declared.puts.PutFault.{PutFault}
use Rattle.write_files.specs.declared.write.WriteOut.{WriteOut}
use Rattle.write_files.specs.Pieces.{pieces_of}
use Rattle.write_files.specs.Files.{files_from, adds_from}

-- the files of these rows are put in order of their parts, each under a free name, and where all are, their adds are the result
abbrev pub WritesPieces : TableSchema → Tag → ℕ → ℕ → Bool → List (List (List Datum)) → Entries → Ending PutFault (List AddFile) → Type 0
WritesPieces s tag start first change pieces =
    Maps (λ f. f) (λ stored. adds_from s tag start change first pieces) (puts.PutsAll (files_from s tag start first pieces))

-- the files that new rows make
abbrev pub WritesOut : TableSchema → List (List Datum) → Tag → ℕ → ℕ → Bool → Entries → Ending PutFault (List AddFile) → Type 0
WritesOut s rows tag start first change = WritesPieces s tag start first change (pieces_of s rows)

-- ---- where it stands

abbrev pub call_of : WriteOut → Option Call
call_of w = puts.call_at w.puts.stage

abbrev pub left_of : WriteOut → ℕ
left_of w = puts.left_at w.puts.stage

abbrev pub IsReady : WriteOut → Type 0
IsReady w = w.puts.call ≡ call_of w

abbrev pub RestOf : WriteOut → Entries → Ending PutFault (List AddFile) → Type 0
RestOf w = Maps (λ f. f) (λ stored. w.adds) (puts.RestAt w.puts.stage)
