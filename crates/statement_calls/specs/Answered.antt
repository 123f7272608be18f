-- Which outcomes a statement may have by the entries that it made: the chain of its phases.
use Rattle.std.specs.Prelude.{◌≡◌, ◌⊎◌, ℕ, suc, ◌+◌, ◌-◌, nat_lt, Bool, true, false, if◌then◌else◌, List, [], ◌∷◌, ◌++◌, length, Option, Some, None, MatchOption, MatchBool}
use Rattle.edge_api.specs.declared.call.Tag.{Tag}
use Rattle.edge_api.specs.declared.call.Listed.{Listed}
use Rattle.row_base.specs.declared.row.Datum.{Datum}
use Rattle.row_base.specs.declared.row.ScannedFile.{ScannedFile}
use Rattle.row_base.specs.declared.schema.Column.{Column}
use Rattle.row_base.specs.Sorting.{Sorts}
use Rattle.op_types.specs.declared.statement.Statement.{Statement}
use Rattle.op_types.specs.declared.statement.Statement.TheVariants.{Table, Insert, Select}
use Rattle.op_types.specs.declared.refusal.Refusal.TheVariants as refusal
use Rattle.log_actions.specs.declared.fault.Feature.TheVariants.{Versions}
use Rattle.op_types.specs.declared.reply.Reply.{Reply}
use Rattle.op_types.specs.declared.reply.Reply.TheVariants.{Created, Committed, Rows}
use Rattle.op_types.specs.declared.reply.CheckpointOutcome.TheVariants.{NotDue}
use Rattle.table_rules.specs.declared.rules.TheConstants.{DEFAULT_RETENTION}
use Rattle.table_rules.specs.Names.{log_prefix, commit_text, data_text}
use Rattle.line_texts.specs.Texts.{text_of_columns, text_of_add, text_of_rows}
use Rattle.snapshot_replay.specs.Table.{Snapshot, no_table, paths_of}
use Rattle.call_phases.specs.Phases.{Entries, AtNow, AtList}
use Rattle.call_phases.specs.Called.{called_now, called_list}
use Rattle.call_phases.specs.Gets.{AtGets}
use Rattle.call_phases.specs.Puts.{AtPuts}
use Rattle.call_phases.specs.declared.puts.File.{File}
use Rattle.committer.specs.declared.fault.Landed.{Landed}
use Rattle.committer.specs.Attempts.{AtAttempt}
use Rattle.statement_calls.specs.declared.finish.Kept.{Kept}
use Rattle.statement_calls.specs.declared.finish.Finish.{Finish}
use Rattle.statement_calls.specs.declared.statement.TableStatement.{TableStatement}
use Rattle.statement_calls.specs.declared.statement.TableStatement.TheVariants as over
use Rattle.statement_calls.specs.Bounds.{version_limit}
use Rattle.statement_calls.specs.Judging.{CommitPlan, Bodies, Judges}
use Rattle.statement_calls.specs.Listing.{newest, missing}
use Rattle.statement_calls.specs.Objects.{Commits, next_commit, apply_next, commits_left, Files, next_file, scan_next}
use Rattle.statement_calls.specs.Outcome.{IsOpen, Ends, Replies, refusal_of_load, refusal_of_scan, refusal_of_put, refusal_of_attempt}

-- the retention of a table, in milliseconds: one week. A commit may take half of it
abbrev pub retention : ℕ
retention = DEFAULT_RETENTION

-- the rows of files, one file after another
abbrev pub rows_of_files : List ScannedFile → List (List Datum)
rows_of_files [] = []
rows_of_files (f ∷ fs) = f.rows ++ rows_of_files fs

-- the names of columns
abbrev pub names_of : List Column → List (List ℕ)
names_of [] = []
names_of (c ∷ cs) = c.name ∷ names_of cs

-- where a load of a version begins, and what is kept meanwhile
pub record Base : Type 0 where
  pub commits : Commits
  pub spare : Option Kept

-- all commits of a version, from the first one on
abbrev pub from_first : Option Kept → ℕ → Base
from_first spare version = record { commits = record { at = 0; end = suc version; table = no_table }; spare = spare }

-- A load begins with the kept table, unless that is of a later version
abbrev pub base_of : Option Kept → ℕ → Base
base_of None version = from_first None version
base_of (Some k) version = if nat_lt (suc version) k.versions then from_first (Some k) version else record { commits = record { at = k.versions; end = suc version; table = k.state }; spare = None }

-- what is kept after a load: the table of the later version
abbrev pub kept_after : Option Kept → Kept → Kept
kept_after None loaded = loaded
kept_after (Some k) loaded = k

-- the reply of a commit that landed, by the version that was read
abbrev pub committed : ℕ → Landed → Reply
committed read l = Committed l.version read l.attempts NotDue

-- a statement's tag, how many attempts it may make, and its outcome
module _ (tag : Tag) (limit : ℕ) (out : Option Finish) where
  -- the attempts of a statement that started then, from a version on
  abbrev pub AtCommit : Option Kept → ℕ → ℕ → CommitPlan → (Landed → Reply) → Entries → Type 0
  AtCommit kept start first plan landed es =
      AtAttempt Bodies Judges (record { start = start; retention = retention; first = first }) (λ p. IsOpen out kept) (λ p f rest. Ends out kept (refusal_of_attempt f) rest)
      (λ p l rest. Replies out kept (landed l) rest) limit 0 [] plan es

  -- the data file is put: the commit that adds it
  abbrev pub AfterPuts : Option Kept → ℕ → ℕ → Entries → Type 0
  AfterPuts kept start read es = AtCommit kept start (suc read) (record { text = text_of_add (data_text tag start 0); makes_table = false }) (committed read) es

  -- an append of rows: its data file, then its commit
  abbrev pub Appends : List (List Datum) → Option Kept → ℕ → ℕ → Entries → Type 0
  Appends rows kept start read es =
      AtPuts (IsOpen out kept) (λ f rest. Ends out kept (refusal_of_put f) rest) (λ rest. AfterPuts kept start read rest)
      (record { name = data_text tag start 0; body = text_of_rows rows } ∷ []) es

  -- the files of a select are got: their rows in order, unless memory is wanting
  abbrev pub AfterScan : Option Kept → ℕ → ℕ → Files → Entries → Type 0
  AfterScan kept read live f es =
      Ends out kept refusal.NoMemory es ⊎ ((rows : List (List Datum)) × Sorts (rows_of_files f.got) rows × Replies out kept (Rows read rows (length f.got) live) es)

  -- a select: its files, then their rows
  abbrev pub Selects : Snapshot → Option Kept → ℕ → Entries → Type 0
  Selects s kept read es =
      AtGets next_file scan_next (IsOpen out kept) (λ f rest. Ends out kept (refusal_of_scan f) rest) (λ f rest. AfterScan kept read (length s.files) f rest)
      (record { paths = paths_of s.files; got = [] }) es

  -- once the table is loaded
  abbrev pub AfterLoad : TableStatement → ℕ → ℕ → Option Kept → Snapshot → Entries → Type 0
  AfterLoad (over.Insert rows) start read kept s es = Appends rows kept start read es
  AfterLoad over.Select start read kept s es = Selects s kept read es

  -- the commits of a version are got, from a base on
  abbrev pub AtLoad : TableStatement → ℕ → ℕ → Base → Entries → Type 0
  AtLoad statement start read base es =
      AtGets next_commit apply_next (IsOpen out base.spare) (λ f rest. Ends out base.spare (refusal_of_load f) rest)
      (λ c rest. AfterLoad statement start read (Some (kept_after base.spare (record { versions = suc read; state = c.table }))) c.table rest) base.commits es

  -- the commits that are needed from a base on are looked for in the listing first
  abbrev pub LoadsFrom : TableStatement → ℕ → List Listed → Option Kept → ℕ → Base → Entries → Type 0
  LoadsFrom statement start l kept read base es =
      Ends out kept refusal.NoMemory es ⊎ MatchOption (missing l base.commits.at (commits_left base.commits)) (AtLoad statement start read base es) (λ k. Ends out kept (refusal.LogGone (commit_text k)) es)

  -- the newest version is loaded
  abbrev pub Loads : TableStatement → ℕ → List Listed → Option Kept → Option ℕ → Entries → Type 0
  Loads statement start l kept None es = Ends out kept refusal.NoTable es
  Loads statement start l kept (Some v) es = MatchBool (nat_lt v version_limit) (LoadsFrom statement start l kept v (base_of kept v) es) (Ends out kept (refusal.Unsupported Versions) es)

  -- a table is made where no commit is listed
  abbrev pub Makes : List Column → ℕ → Option Kept → Option ℕ → Entries → Type 0
  Makes columns start kept None es = AtCommit kept start 0 (record { text = text_of_columns (names_of columns); makes_table = true }) (λ l. Created) es
  Makes columns start kept (Some v) es = Ends out kept refusal.TableThere es

  -- once the log is listed
  abbrev pub AfterList : Statement → Option Kept → ℕ → List Listed → Entries → Type 0
  AfterList (Table spec) kept start l es = Makes spec.columns start kept (newest l) es
  AfterList (Insert rows) kept start l es = Loads (over.Insert rows) start l kept (newest l) es
  AfterList Select kept start l es = Loads over.Select start l kept (newest l) es

  -- once the clock is read: the log is listed
  abbrev pub AfterClock : Statement → Option Kept → ℕ → Entries → Type 0
  AfterClock statement kept start es = AtList (IsOpen out kept) log_prefix (Ends out kept (refusal.Fault (called_list log_prefix))) (AfterList statement kept start) es

-- the start of the statement, the listing of the log, and what follows
abbrev pub Answered : Tag → ℕ → Option Kept → Statement → Entries → Option Finish → Type 0
Answered tag limit kept statement es out = AtNow (IsOpen out kept) (Ends out kept (refusal.Fault called_now)) (AfterClock tag limit out statement kept) es
