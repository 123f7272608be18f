-- New data files, and the actions that add them.
use Rattle.std.specs.Prelude.{◌≤◌, ℕ, ◌+◌, Bool, List, [], ◌∷◌, length, None}
use Rattle.std.specs.List.{All}
use Rattle.row_base.specs.declared.limits.TheConstants.{MAX_FILE_ROWS, MAX_OBJECT_BYTES}
use Rattle.row_base.specs.declared.row.Datum.{Datum}
use Rattle.row_base.specs.Schema.{TableSchema, FitsSchema}
use Rattle.edge_api.specs.declared.call.Tag.{Tag}
use Rattle.log_actions.specs.declared.action.AddFile.{AddFile}
use Rattle.schema_text.specs.PartitionWritten.{HasText, partition_values}
use Rattle.table_rules.specs.Names.{data_text}
use Rattle.commit_plans.specs.Plans.{added_file}
use Rattle.parquet_plain.specs.Written.{file_text}
use Rattle.call_phases.specs.declared.puts.File.{File}
use Rattle.write_files.specs.Pieces.{first_row}

-- rows that a file can have
pub record CanBeWritten (s : TableSchema) (rows : List (List Datum)) : Type 0 where
  pub few : length rows ≤ MAX_FILE_ROWS
  pub fits : All (FitsSchema s) rows
  pub texts : All (λ r. All HasText r) rows

-- the file of these rows, as a statement's part
abbrev pub file_of : TableSchema → Tag → ℕ → ℕ → List (List Datum) → File
file_of s tag start part rows = record { name = data_text tag start part; body = file_text s rows }

-- an add whose rows are new to the table, or moved within it
abbrev pub with_change : Bool → AddFile → AddFile
with_change change add = record add { data_change = change }

-- the add of this file: its values are those of its rows, of which all have the same; statistics are to come
abbrev pub add_of : TableSchema → Tag → ℕ → Bool → ℕ → List (List Datum) → AddFile
add_of s tag start change part rows =
    with_change change (added_file (data_text tag start part) (partition_values s (first_row rows)) (length (file_text s rows)) start None)

-- the files of these rows, numbered from this part on
abbrev pub files_from : TableSchema → Tag → ℕ → ℕ → List (List (List Datum)) → List File
files_from s tag start part [] = []
files_from s tag start part (rows ∷ more) = file_of s tag start part rows ∷ files_from s tag start (part + 1) more

-- .. and their adds
abbrev pub adds_from : TableSchema → Tag → ℕ → Bool → ℕ → List (List (List Datum)) → List AddFile
adds_from s tag start change part [] = []
adds_from s tag start change part (rows ∷ more) = add_of s tag start change part rows ∷ adds_from s tag start change (part + 1) more

-- a file that is not too long to be read
abbrev pub IsReadable : AddFile → Type 0
IsReadable add = add.size ≤ MAX_OBJECT_BYTES
