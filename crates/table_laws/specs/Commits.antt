-- The seam to the interim texts: what their commits and their snapshots say, in the words of tables (table_files). The history of a run cites it at each version,
-- and the proofs of a load go by it from a snapshot to a version.
-- The crate above cites each_run_is_lawful alone.
use Rattle.std.specs.Prelude.{◌≡◌, ℕ, Bool, true, false, List, [], map, Option, Some, None, option_map}
use Rattle.log_actions.specs.declared.action.CommitInfo.{CommitInfo}
use Rattle.log_actions.specs.declared.action.MetaData.{MetaData}
use Rattle.log_actions.specs.declared.action.Protocol.{Protocol}
use Rattle.row_base.specs.declared.row.Kind.TheVariants.{Long}
use Rattle.row_base.specs.Schema.{TableSchema}
use Rattle.line_texts.specs.Texts.{is_path, text_of_columns, columns_of_text}
use Rattle.snapshot_replay.specs.Table.{Add, Action, Removes, Adds, Snapshot}
use Rattle.snapshot_replay.specs.Table.{Commit as LogCommit}
use Rattle.table_files.specs.Files.{File, FileLine}
use Rattle.table_files.specs.Files.{Removes as TakesOut, Adds as PutsIn}
use Rattle.table_files.specs.Commits.{Commit}

-- a data file: a line says its path, which is its name in the store, and nothing else
abbrev pub file_of : Add → File
file_of a = record { path = a.path; name = a.path; values = []; size = 0; made = 0; stats = None; tags = None }

-- a file whose line its text gives back
abbrev pub IsWholeFile : File → Type 0
IsWholeFile a = is_path a.path ≡ true

-- a line, in a commit that says of all its lines whether they change rows
abbrev pub line_of : Bool → Action → FileLine
line_of changes (Removes path) = TakesOut (record { path = path; name = path; stamp = 0 }) changes
line_of changes (Adds a) = PutsIn (file_of a) changes

-- a commit says of itself whether it is a blind append
abbrev pub info_of : Bool → CommitInfo
info_of blind = record { timestamp = None; operation = None; read_version = None; isolation_level = None; is_blind_append = Some blind; txn_id = None }

-- the protocol and the metadata of a table whose columns have a name alone. It has no properties, and the text of its schema is that of its columns
abbrev pub protocol_of : List (List ℕ) → Protocol
protocol_of names = record { min_reader_version = 1; min_writer_version = 1; reader_features = None; writer_features = None }

abbrev pub meta_of : List (List ℕ) → MetaData
meta_of names = record {
  id = [];
  name = None;
  description = None;
  format = record { provider = []; options = None };
  schema_string = text_of_columns names;
  partition_columns = [];
  created_time = None;
  configuration = None;
}

-- what a commit says. One that has columns makes a table
abbrev pub changes_of : LogCommit → Commit
changes_of t = record {
  info = Some (info_of t.blind);
  protocol = option_map protocol_of t.columns;
  meta = option_map meta_of t.columns;
  txns = [];
  lines = map (line_of t.changes) t.lines;
}

-- the schema of a table: each column that the text of the schema names holds numbers of 64 bits
abbrev pub or_no_names : Option (List (List ℕ)) → List (List ℕ)
or_no_names None = []
or_no_names (Some names) = names

abbrev pub schema_said : MetaData → TableSchema
schema_said m = record { columns = map (λ name. record { name = name; kind = Long; nullable = false }) (or_no_names (columns_of_text m.schema_string)); partition = [] }

abbrev pub schema_of : Option MetaData → Option TableSchema
schema_of o = option_map schema_said o

-- the live files, the metadata and the schema of a table that was loaded
abbrev pub files_in : Snapshot → List File
files_in s = map file_of s.files

abbrev pub meta_in : Snapshot → Option MetaData
meta_in s = option_map meta_of s.columns

abbrev pub schema_in : Snapshot → Option TableSchema
schema_in s = schema_of (meta_in s)
