-- What holds of each run of a script, whatever the schedule and whatever the store loses: of its versions, of the puts of its commits, and of its replies.
-- IsLawful (Lawful) lists these laws, and proofs/Run proves them.
-- The crate above cites each_run_is_lawful alone.
use Rattle.std.specs.Prelude.{◌≡◌, ◌≢◌, ◌⊎◌, ℕ, zero, suc, ◌+◌, ◌-◌, ◌<◌, ◌≤◌, ◌^◌, true, false, List, [], ◌∷◌, ◌++◌, length, Option, Some, None, option_and_then}
use Rattle.std.specs.List.{list_all}
use Rattle.edge_api.specs.declared.call.Tag.{Tag}
use Rattle.edge_api.specs.declared.call.Call.TheVariants.{PutNew}
use Rattle.edge_api.specs.declared.call.Answer.TheVariants.{Fault, Stored, Taken}
use Rattle.edge_api.specs.Journal.{Moment, entries_of}
use Rattle.row_base.specs.Schema.{TableSchema}
use Rattle.row_base.specs.Sorting.{Sorts}
use Rattle.op_types.specs.declared.statement.Statement.{Statement}
use Rattle.op_types.specs.declared.statement.Statement.TheVariants.{Table, Insert, Select}
use Rattle.op_types.specs.declared.statement.TableSpec.{TableSpec}
use Rattle.op_types.specs.declared.reply.Reply.{Reply}
use Rattle.op_types.specs.declared.reply.Reply.TheVariants.{Created, Committed, Rows}
use Rattle.op_types.specs.declared.reply.CheckpointOutcome.{CheckpointOutcome}
use Rattle.table_rules.specs.Names.{commit_text}
use Rattle.line_texts.specs.Texts.{text_of_columns, is_word}
use Rattle.snapshot_replay.specs.Table.{table_commit}
use Rattle.snapshot_replay.specs.Table.{Commit as LogCommit}
use Rattle.call_phases.specs.Phases.{Entries}
use Rattle.statement_calls.specs.Texts.{read_commit, read_file}
use Rattle.statement_calls.specs.Answered.{names_of}
use Rattle.actor_core.specs.Entries.{own}
use Rattle.table_changes.specs.Rows.{Row}
use Rattle.table_changes.specs.Table.{File, FileLine, Removes, Adds}
use Rattle.table_changes.specs.Operations.{Operation, inserted}
use Rattle.table_changes.specs.Serial.{SerialStep}
use Rattle.table_laws.specs.Operations.{Scope, passes, operation_of}
use Rattle.table_laws.specs.History.{Put, history, put_under, commit_at, live_at, meta_at, schema_at, level_for, rows_at, IsCommitted}
use Rattle.table_laws.specs.Runs.{version_read, versions_put}
use Rattle.table_laws.specs.Refused.{FaultedIn}

-- the schema of the version that a statement read, where it read one
abbrev pub schema_read : List Put → Option ℕ → Option TableSchema
schema_read ps None = None
schema_read ps (Some version) = schema_at ps version

-- the operation of the statement that made a put, by the schema of the version that it read
abbrev pub operation_by : (Tag → Option Statement) → Entries → List Put → Option Put → Option (Operation Scope)
operation_by script journal ps None = None
operation_by script journal ps (Some by) = option_and_then (operation_of (schema_read ps (version_read (own by.tag journal)))) (script by.tag)

-- the operation by which a version was committed
abbrev pub operation_at : (Tag → Option Statement) → Entries → List Put → ℕ → Option (Operation Scope)
operation_at script journal ps version = operation_by script journal ps (put_under ps (commit_text version))

-- the rows that an operation inserts, where there is one
abbrev pub inserted_by : Option (Operation Scope) → List Row
inserted_by None = []
inserted_by (Some op) = inserted op

-- the rows that a version appended, if it is a blind append
abbrev pub appended : (Tag → Option Statement) → Entries → List Put → ℕ → List Row
appended script journal ps version = inserted_by (operation_at script journal ps version)

-- Version v + 1 follows from the version before by the operation of the one statement that put its commit, and by the version that this one read, at the
-- level of the table that it read. No statement of today changes the metadata, so each row stays as it is
pub record Step (script : Tag → Option Statement) (journal : Entries) (ps : List Put) (v : ℕ) : Type 0 where
  pub previous : IsCommitted ps v
  pub by : Put
  pub is_by : put_under ps (commit_text (suc v)) ≡ Some by
  pub statement : Statement
  pub is_statement : script by.tag ≡ Some statement
  pub read : ℕ
  pub is_read : version_read (own by.tag journal) ≡ Some read
  pub op : Operation Scope
  pub is_op : operation_of (schema_at ps read) statement ≡ Some op
  pub commit : LogCommit
  pub reads : read_commit (suc v) by.body ≡ Some commit
  pub kept : meta_at ps (suc v) ≡ meta_at ps v
  pub serial : SerialStep passes (level_for ps op read) (meta_at ps) (schema_at ps) (rows_at ps) (appended script journal ps) op read v

-- each version is the one before with one statement's operation done. Versions are so contiguous from 0
abbrev pub VersionsAreSerial : (Tag → Option Statement) → List Moment → Type 0
VersionsAreSerial script moments = (v : ℕ) → suc v < 2 ^ 64 → IsCommitted (history [] moments) (suc v)
    → Step script (entries_of moments) (history [] moments) v

-- version 0 has no rows
abbrev pub FirstIsEmpty : List Moment → Type 0
FirstIsEmpty moments = rows_at (history [] moments) 0 ≡ []

-- version 0 was put by a statement that makes a table, as the text of its columns. It reads where each column's name is a word
pub record MakesTable (script : Tag → Option Statement) (p : Put) : Type 0 where
  pub spec : TableSpec
  pub is_statement : script p.tag ≡ Some (Table spec)
  pub text : p.body ≡ text_of_columns (names_of spec.columns)
  pub reads : list_all is_word (names_of spec.columns) ≡ true → read_commit 0 p.body ≡ Some (table_commit (names_of spec.columns))

-- whoever put version 0 made a table
abbrev pub FirstMakesTable : (Tag → Option Statement) → List Moment → Type 0
FirstMakesTable script moments = (p : Put) → put_under (history [] moments) (commit_text 0) ≡ Some p → MakesTable script p

-- a version's commit was put, and its text reads as a commit
abbrev pub ReadsAt : List Put → ℕ → Type 0
ReadsAt ps version = (p : Put) × (put_under ps (commit_text version) ≡ Some p) × (t : LogCommit) × (read_commit version p.body ≡ Some t)

-- all commits up to a version above 0 read
abbrev pub CommitsRead : List Moment → Type 0
CommitsRead moments = (v k : ℕ) → suc v < 2 ^ 64 → IsCommitted (history [] moments) (suc v) → k ≤ suc v → ReadsAt (history [] moments) k

-- a file was put under the name, and its body reads as rows
abbrev pub FileReads : List Put → List ℕ → Type 0
FileReads ps name = (p : Put) × (put_under ps name ≡ Some p) × (rows : List Row) × (read_file p.body ≡ Some rows)

-- each of these files is so
abbrev pub AllAre : (File → Type 0) → List File → Type 0
AllAre P [] = Unit {0}
AllAre P (a ∷ fs) = P a × AllAre P fs

-- each of these files reads
abbrev pub AllFilesRead : List Put → List File → Type 0
AllFilesRead ps fs = AllAre (λ a. FileReads ps a.name) fs

-- each live file of a version reads
abbrev pub FilesRead : List Moment → Type 0
FilesRead moments = (v : ℕ) → v < 2 ^ 64 → IsCommitted (history [] moments) v → AllFilesRead (history [] moments) (live_at (history [] moments) v)

-- the files that lines add
abbrev pub added_files : List FileLine → List File
added_files [] = []
added_files (Removes t changes ∷ ls) = added_files ls
added_files (Adds a changes ∷ ls) = a ∷ added_files ls

-- each file that a version's commit adds was put before this put of it, and reads
pub record HasFilesBefore (ps : List Put) (by : Put) (version : ℕ) : Type 0 where
  pub earlier : List Put
  pub later : List Put
  pub order : ps ≡ earlier ++ by ∷ later
  pub there : AllFilesRead earlier (added_files (commit_at ps version).lines)

-- the files of each commit above version 0 were put before it
abbrev pub FilesComeFirst : List Moment → Type 0
FilesComeFirst moments = (v : ℕ) (by : Put) → suc v < 2 ^ 64 → put_under (history [] moments) (commit_text (suc v)) ≡ Some by → HasFilesBefore (history [] moments) by (suc v)

-- versions that one statement committed are one
abbrev pub CommitsOnce : List Moment → Type 0
CommitsOnce moments =
    (v w : ℕ) (p q : Put) → v < 2 ^ 64 → w < 2 ^ 64 → put_under (history [] moments) (commit_text v) ≡ Some p
    → put_under (history [] moments) (commit_text w) ≡ Some q → p.tag ≡ q.tag → v ≡ w

-- so many versions, from one on
abbrev pub versions_from : ℕ → ℕ → List ℕ
versions_from v zero = []
versions_from v (suc n) = v ∷ versions_from (suc v) n

-- another statement had committed a version when this commit took effect
pub record IsWonBefore (ps : List Put) (by : Put) (version : ℕ) : Type 0 where
  pub winner : Put
  pub earlier : List Put
  pub later : List Put
  pub order : ps ≡ earlier ++ by ∷ later
  pub there : put_under earlier (commit_text version) ≡ Some winner
  pub other : winner.tag ≢ by.tag

-- The statement of a commit put it once at each version above the one that it read, in order, and at no later one. All but the last of these puts were
-- lost: another statement had committed their versions before
pub record Lands (journal : Entries) (ps : List Put) (version : ℕ) (by : Put) : Type 0 where
  pub read : ℕ
  pub is_read : version_read (own by.tag journal) ≡ Some read
  pub below : read < version
  pub puts : versions_put (own by.tag journal) ≡ versions_from (read + 1) (version - read)
  pub lost : (k : ℕ) → read < k → k < version → IsWonBefore ps by k

-- each commit above version 0 landed so
abbrev pub CommitsLand : List Moment → Type 0
CommitsLand moments = (v : ℕ) (by : Put) → suc v < 2 ^ 64 → put_under (history [] moments) (commit_text (suc v)) ≡ Some by
    → Lands (entries_of moments) (history [] moments) (suc v) by

-- what became of a put of a version's commit, by the puts that took effect before it and by all. The version was free and is the statement's; or another
-- statement had committed it; or it was free and the put took no effect, which the store answered by a fault
pub data CommitPut (before all : List Put) (version : ℕ) (body : List ℕ) (m : Moment) : Type 0 where
  Wins : put_under before (commit_text version) ≡ None
      → put_under all (commit_text version) ≡ Some (record { tag = m.entry.tag; name = commit_text version; body = body; at = m.clock })
      → (m.entry.answer ≡ Stored) ⊎ (m.entry.answer ≡ Fault) → CommitPut before all version body m
  Loses : (winner : Put) → put_under before (commit_text version) ≡ Some winner → winner.tag ≢ m.entry.tag
      → (m.entry.answer ≡ Taken) ⊎ (m.entry.answer ≡ Fault) → CommitPut before all version body m
  Fails : put_under before (commit_text version) ≡ None → m.entry.answer ≡ Fault → m.took_effect ≡ false → CommitPut before all version body m

-- each put of a commit wins, loses or fails at its own moment, whether its statement ever commits or not
abbrev pub CommitPutsAreDecided : List Moment → Type 0
CommitPutsAreDecided moments =
    (before after : List Moment) (m : Moment) (version : ℕ) (body : List ℕ) → moments ≡ before ++ m ∷ after → version < 2 ^ 64
    → m.entry.call ≡ PutNew (commit_text version) body
    → CommitPut (history [] before) (history [] moments) version body m

-- The statement put the commit of version 0 once, and no other commit. Version 0 has that very text; it is the statement's own put, unless a fault was the
-- answer, when another statement may have put the same text
pub record HasCreated (journal : Entries) (ps : List Put) (tag : Tag) (spec : TableSpec) : Type 0 where
  pub puts : versions_put (own tag journal) ≡ 0 ∷ []
  pub by : Put
  pub is_by : put_under ps (commit_text 0) ≡ Some by
  pub text : by.body ≡ text_of_columns (names_of spec.columns)
  pub is_tag : (by.tag ≡ tag) ⊎ FaultedIn (own tag journal) (commit_text 0) by.body

-- each reply that a table was made is of a statement that makes one, and has made it
abbrev pub RepliesCreated : (Tag → Option Statement) → (Tag → Option Reply) → List Moment → Type 0
RepliesCreated script replies moments =
    (tag : Tag) (statement : Statement) → script tag ≡ Some statement → replies tag ≡ Some Created
    → (spec : TableSpec) × (statement ≡ Table spec) × HasCreated (entries_of moments) (history [] moments) tag spec

-- the statement committed the version, above the one that it read, by so many puts
pub record HasCommitted (journal : Entries) (ps : List Put) (tag : Tag) (version read attempts : ℕ) : Type 0 where
  pub is_read : version_read (own tag journal) ≡ Some read
  pub counted : read + attempts ≡ version
  pub above : 0 < attempts
  pub by : Put
  pub is_by : put_under ps (commit_text version) ≡ Some by
  pub is_tag : by.tag ≡ tag

-- each reply of a commit is of an insert, and says which version it committed, which one it read, and how many puts it made
abbrev pub RepliesCommitted : (Tag → Option Statement) → (Tag → Option Reply) → List Moment → Type 0
RepliesCommitted script replies moments =
    (tag : Tag) (statement : Statement) (version read attempts : ℕ) (checkpoint : CheckpointOutcome) → script tag ≡ Some statement
    → replies tag ≡ Some (Committed version read attempts checkpoint)
    → (inserted : List Row) × (statement ≡ Insert inserted) × HasCommitted (entries_of moments) (history [] moments) tag version read attempts

-- the rows are those of the newest version in the statement's listing, in order, from all its live files
pub record HasRead (journal : Entries) (ps : List Put) (tag : Tag) (version : ℕ) (given : List Row) (read live : ℕ) : Type 0 where
  pub is_read : version_read (own tag journal) ≡ Some version
  pub committed : IsCommitted ps version
  pub reads : ReadsAt ps version
  pub rows : Sorts (rows_at ps version) given
  pub files_read : read ≡ length (live_at ps version)
  pub files_live : live ≡ length (live_at ps version)

-- each reply of rows is of a select, and has exactly the rows of its version
abbrev pub RepliesRead : (Tag → Option Statement) → (Tag → Option Reply) → List Moment → Type 0
RepliesRead script replies moments =
    (tag : Tag) (statement : Statement) (version : ℕ) (rows : List Row) (files_read files_live : ℕ) → script tag ≡ Some statement
    → replies tag ≡ Some (Rows version rows files_read files_live)
    → (statement ≡ Select) × HasRead (entries_of moments) (history [] moments) tag version rows files_read files_live
