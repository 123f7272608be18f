-- The rows of a table at a version, by the texts of its commits and of its data files alone. A text that isn't there, or
-- that has no reading, says nothing.
use Rattle.std.specs.Prelude.{ℕ, false, if◌then◌else◌, List, [], ◌∷◌, Option, Some, None, option_and_then, slice_get}
use Rattle.std.specs.List.{flat_map}
use Rattle.std.specs.Str.{bytes_eq}
use Rattle.row_base.specs.declared.row.Datum.{Datum}
use Rattle.snapshot_replay.specs.Table.{Commit, paths_of, snapshot_at}
use Rattle.txn_machine.specs.declared.plain.DataFile.{DataFile}
use Rattle.statement_calls.specs.Texts.{read_commit, read_file}

-- a commit that says nothing
abbrev pub or_no_change : Option Commit → Commit
or_no_change None = record { columns = None; lines = []; blind = false; changes = false }
or_no_change (Some t) = t

-- what a version's commit says, by the texts of versions 0, 1 and so on
abbrev pub commit_in : List (List ℕ) → ℕ → Commit
commit_in texts version = or_no_change (option_and_then (read_commit version) (slice_get texts version))

-- no rows, where a text has no reading
abbrev pub or_no_rows : Option (List (List Datum)) → List (List Datum)
or_no_rows None = []
or_no_rows (Some rows) = rows

-- the rows of the first data file with the path
abbrev pub rows_in : List DataFile → List ℕ → List (List Datum)
rows_in [] path = []
rows_in (f ∷ fs) path = if bytes_eq f.path path then or_no_rows (read_file f.text) else rows_in fs path

-- the rows of a version: those of its live files, in order of their paths
abbrev pub rows_at : List (List ℕ) → List DataFile → ℕ → List (List Datum)
rows_at texts files version = flat_map (rows_in files) (paths_of (snapshot_at (commit_in texts) version).files)
