-- What is got of a table, object by object: the commits of its log, and the files of a select.
use Rattle.std.specs.Prelude.{ℕ, suc, ◌+◌, ◌-◌, nat_lt, if◌then◌else◌, List, [], ◌∷◌, ◌++◌, length, Option, Some, None, Result, Ok, Err}
use Rattle.row_base.specs.declared.row.Datum.{Datum}
use Rattle.row_base.specs.declared.row.ScannedFile.{ScannedFile}
use Rattle.op_types.specs.declared.refusal.ObjectFault.{ObjectFault}
use Rattle.table_rules.specs.Names.{commit_text}
use Rattle.snapshot_replay.specs.Table.{Commit, Snapshot, applied}
use Rattle.statement_calls.specs.Texts.{read_commit, commit_fault, read_file, file_fault}

-- the commits from a version up to an end, which isn't among them, and the table before them
pub record Commits : Type 0 where
  pub at : ℕ
  pub end : ℕ
  pub table : Snapshot

-- the name of the next commit, if there is one
abbrev pub next_commit : Commits → Option (List ℕ)
next_commit c = if nat_lt c.at c.end then Some (commit_text c.at) else None

-- how many there are
abbrev pub commits_left : Commits → ℕ
commits_left c = c.end - c.at

-- the commits after the first one, which says this
abbrev pub behind : Commits → ObjectFault → Option Commit → Result Commits ObjectFault
behind c fault None = Err fault
behind c fault (Some t) = Ok (record { at = suc c.at; end = c.end; table = applied c.table t })

-- the first commit, whose text was got, is applied to the table
abbrev pub apply_next : Commits → List ℕ → Result Commits ObjectFault
apply_next c text = behind c (commit_fault c.at text) (read_commit c.at text)

-- the files of these paths, and those got before them with their rows
pub record Files : Type 0 where
  pub paths : List (List ℕ)
  pub got : List ScannedFile

abbrev pub first_of : List (List ℕ) → Option (List ℕ)
first_of [] = None
first_of (path ∷ paths) = Some path

-- the name of the next file, if there is one
abbrev pub next_file : Files → Option (List ℕ)
next_file f = first_of f.paths

-- how many there are
abbrev pub files_left : Files → ℕ
files_left f = length f.paths

-- the files after the first one, which has these rows
abbrev pub with_rows : List ℕ → List (List ℕ) → List ScannedFile → ObjectFault → Option (List (List Datum)) → Result Files ObjectFault
with_rows path paths got fault None = Err fault
with_rows path paths got fault (Some rows) = Ok (record { paths = paths; got = got ++ record { path = path; rows = rows } ∷ [] })

abbrev pub scan_first : List (List ℕ) → List ScannedFile → List ℕ → Result Files ObjectFault
scan_first [] got text = Ok (record { paths = []; got = got })
scan_first (path ∷ paths) got text = with_rows path paths got (file_fault text) (read_file text)

-- the rows of the first file, whose text was got, are taken
abbrev pub scan_next : Files → List ℕ → Result Files ObjectFault
scan_next f text = scan_first f.paths f.got text
