-- What a statement's entries say of the entries before them. Entries are listed the newest first here.
use Rattle.std.proofs.Common.{◌≡◌, ◌⊎◌, ℕ, zero, suc, ◌+◌, ◌≤◌, ◌<◌, ◌^◌, List, [], ◌∷◌, ◌++◌, length}
use Rattle.std.specs.Prelude.{Option, Some, None}
use Rattle.edge_api.specs.declared.call.Tag.{Tag}
use Rattle.edge_api.specs.declared.call.Call.{Call}
use Rattle.edge_api.specs.declared.call.Call.TheVariants.{Get, PutNew, Put as Replace, List as ListNames, Delete, Now, Wait}
use Rattle.edge_api.specs.declared.call.Answer.{Answer}
use Rattle.edge_api.specs.declared.call.Answer.TheVariants.{Fault, Missing, Taken, Names, Time}
use Rattle.edge_api.specs.declared.call.Listed.{Listed}
use Rattle.row_base.specs.declared.row.ScannedFile.{ScannedFile}
use Rattle.row_base.specs.Sorting.{Sorts}
use Rattle.op_types.specs.declared.statement.Statement.{Statement}
use Rattle.op_types.specs.declared.statement.TableSpec.{TableSpec}
use Rattle.op_types.specs.declared.statement.Statement.TheVariants.{Table, Insert, Select}
use Rattle.op_types.specs.declared.refusal.Refusal.{Refusal}
use Rattle.op_types.specs.declared.reply.Reply.{Reply}
use Rattle.op_types.specs.declared.reply.Reply.TheVariants.{Created, Committed, Rows, Killed, Refused}
use Rattle.table_rules.specs.Names.{commit_text, data_text}
use Rattle.line_texts.specs.Texts.{text_of_columns}
use Rattle.snapshot_replay.specs.Table.{Commit, Snapshot, paths_of}
use Rattle.call_phases.specs.Phases.{Entries}
use Rattle.statement_calls.specs.Texts.{read_commit, read_file}
use Rattle.statement_calls.specs.Answered.{names_of, rows_of_files}
use Rattle.table_changes.specs.Rows.{Row}
use Rattle.table_changes.specs.Table.{File}
use Rattle.table_changes.specs.Conflicts.{Clash}
use Rattle.table_changes.specs.Operations.{Operation, got_files}
use Rattle.table_laws.specs.Commits.{files_in, meta_in, schema_in}
use Rattle.table_laws.specs.Operations.{Scope, operation_of}
use Rattle.table_laws.proofs.CommitEffects.{new_file, plan_of, Writes, judge_of}
use Rattle.table_laws.specs.Runs.{or_first, listed_by, told_by, versions_put}
use Rattle.table_laws.proofs.Sessions.{GotIn, StoredIn, LoadedTo}
use Rattle.table_laws.specs.Refused.{IsUnknown}

-- a statement's session or its own entries got it or stored it
abbrev pub Known : (List ℕ → List ℕ → Type 0) → Entries → List ℕ → List ℕ → Type 0
Known K past name body = K name body ⊎ GotIn past name body

abbrev pub PutIn : Entries → List ℕ → List ℕ → Answer → Type 0
PutIn [] name body answer = ⊥
PutIn (e ∷ past) name body answer = ((e.call ≡ PutNew name body) × (e.answer ≡ answer)) ⊎ PutIn past name body answer

-- nothing was put so far
abbrev pub NoPut : Entries → Type 0
NoPut past = (name body : List ℕ) (answer : Answer) → PutIn past name body answer → ⊥

-- this name wasn't put so far
abbrev pub NotPut : Entries → List ℕ → Type 0
NotPut past name = (body : List ℕ) (answer : Answer) → PutIn past name body answer → ⊥

-- a commit's put was lost: the name was taken, or other bytes were read there later
abbrev pub IsLost : Entries → List ℕ → List ℕ → Answer → Type 0
IsLost past name body answer = (answer ≡ Taken) ⊎ ((other : List ℕ) × GotIn past name other × (other ≡ body → ⊥))

abbrev pub AllLost : Entries → Type 0
AllLost past = (v : ℕ) (body : List ℕ) (answer : Answer) → PutIn past (commit_text v) body answer → IsLost past (commit_text v) body answer

-- and each at a version below this one
abbrev pub AllLostBelow : Entries → ℕ → Type 0
AllLostBelow past version = (v : ℕ) (body : List ℕ) (answer : Answer) → v < version → PutIn past (commit_text v) body answer → IsLost past (commit_text v) body answer

-- the newest entry found nothing under the name
abbrev pub FoundMissing : Entries → List ℕ → Type 0
FoundMissing [] name = ⊥
FoundMissing (e ∷ past) name = (e.call ≡ Get name) × (e.answer ≡ Missing)

-- a commit's put that is not lost was answered by a fault
abbrev pub AllInDoubt : Entries → Type 0
AllInDoubt past = (v : ℕ) (body : List ℕ) (answer : Answer) → PutIn past (commit_text v) body answer → IsLost past (commit_text v) body answer ⊎ (answer ≡ Fault)

-- what a refusal says of the commits put: one that is not lost was found missing at last, or answered by a fault where the refusal leaves it open
abbrev pub ClaimsNothing : Entries → Refusal → Type 0
ClaimsNothing past r =
    (v : ℕ) (body : List ℕ) (answer : Answer) → PutIn past (commit_text v) body answer → IsLost past (commit_text v) body answer ⊎ (FoundMissing past (commit_text v) ⊎ (IsUnknown r × (answer ≡ Fault)))

-- the clock was read, and told this time
abbrev pub ToldIn : Entries → ℕ → Type 0
ToldIn [] time = ⊥
ToldIn (e ∷ past) time = ((e.call ≡ Now) × (e.answer ≡ Time time)) ⊎ ToldIn past time

-- a body was got before a reading of the clock that told this time
abbrev pub GotBefore : Entries → ℕ → List ℕ → List ℕ → Type 0
GotBefore [] time name body = ⊥
GotBefore (e ∷ past) time name body = ((e.call ≡ Now) × (e.answer ≡ Time time) × GotIn past name body) ⊎ GotBefore past time name body

-- a name is listed with this clock
abbrev pub IsListed : List Listed → List ℕ → ℕ → Type 0
IsListed [] name at = ⊥
IsListed (x ∷ l) name at = ((x.name ≡ name) × (x.put_at ≡ at)) ⊎ IsListed l name at

-- a listing named it so
abbrev pub SeenIn : Entries → List ℕ → ℕ → Type 0
SeenIn [] name at = ⊥
SeenIn (e ∷ past) name at = ((prefix : List ℕ) × (l : List Listed) × (e.call ≡ ListNames prefix) × (e.answer ≡ Names l) × IsListed l name at) ⊎ SeenIn past name at

-- what the entries give first
abbrev pub first_past : (Call → Answer → Option ℕ) → Entries → Option ℕ
first_past by [] = None
first_past by (e ∷ past) = or_first (first_past by past) (by e.call e.answer)

-- a statement has read the clock: its first reading is its start
abbrev pub HasStart : Entries → Type 0
HasStart past = (start : ℕ) × (first_past told_by past ≡ Some start)

-- by what is known under a name: of entries, what was got; of a history, what was put
module _ (G : List ℕ → List ℕ → Type 0) where
  -- the rows of each of these files are those of a body that is known
  abbrev pub AllGot : (File → List Row) → List File → Type 0
  AllGot view [] = Unit {0}
  AllGot view (a ∷ fs) = ((body : List ℕ) × G a.name body × (read_file body ≡ Some (view a))) × AllGot view fs

  -- the rows of each file are those of a body that is known under its path
  abbrev pub AllScanned : List (List ℕ) → List ScannedFile → Type 0
  AllScanned [] [] = Unit {0}
  AllScanned [] (f ∷ fs) = ⊥
  AllScanned (p ∷ ps) [] = ⊥
  AllScanned (p ∷ ps) (f ∷ fs) = ((body : List ℕ) × G p body × (read_file body ≡ Some f.rows)) × AllScanned ps fs

  -- a part of a statement's new rows: its file, whose body is known and reads as these rows
  pub record IsPart (tag : Tag) (start part : ℕ) (file : File) (rows : List Row) : Type 0 where
    pub small : part < 2 ^ 32
    pub is : file ≡ new_file tag start part
    pub body : List ℕ
    pub known : G (data_text tag start part) body
    pub reads : read_file body ≡ Some rows

  -- the parts from this number on, with the rows of all of them
  abbrev pub AllParts : Tag → ℕ → ℕ → List File → List Row → Type 0
  AllParts tag start part [] rows = rows ≡ []
  AllParts tag start part (f ∷ fs) rows = (here : List Row) × (rest : List Row) × (rows ≡ here ++ rest) × IsPart tag start part f here × AllParts tag start (suc part) fs rest

  -- the commit of version k + 1 is known, and doesn't clash as far as it can be read
  abbrev pub Cleared : (Commit → Option Clash) → ℕ → Type 0
  Cleared judge k = (text : List ℕ) × G (commit_text (suc k)) text × ((t : Commit) → read_commit (suc k) text ≡ Some t → judge t ≡ None)

-- what a statement knows before it puts its commit at version + 1
pub record Knows (tag : Tag) (op : Operation Scope) (start read : ℕ) (s : Snapshot) (view : File → List Row) (added : List File) (G S : List ℕ → List ℕ → Type 0) (version : ℕ) : Type 0 where
  pub below : read ≤ version
  pub loaded : LoadedTo G (suc read) s
  pub files : AllGot G view (got_files op (files_in s))
  pub new : List Row
  pub written : op.writes view (files_in s) ≡ Some new
  pub parts : AllParts S tag start 0 added new
  pub previous : (text : List ℕ) × G (commit_text version) text
  pub clear : (k : ℕ) → read ≤ k → k < version → Cleared G (judge_of (meta_in s) op view (files_in s)) k

-- so many versions above the one that was read, the newest first
abbrev pub versions_down : ℕ → ℕ → List ℕ
versions_down read zero = []
versions_down read (suc n) = (read + suc n) ∷ versions_down read n

-- the commits of the versions above the one that was read were got
abbrev pub AllWon : Entries → ℕ → ℕ → Type 0
AllWon past read version = (k : ℕ) → read ≤ k → k < version → (text : List ℕ) × GotIn past (commit_text (suc k)) text

-- the first of new files is a part of this statement
pub record IsOwn (tag : Tag) (start : ℕ) (added : List File) : Type 0 where
  pub part : ℕ
  pub small : part < 2 ^ 32
  pub more : List File
  pub is : added ≡ new_file tag start part ∷ more

-- an insert committed a version: its put was answered as stored, or its commit was read back
pub record ClaimsCommit (K : List ℕ → List ℕ → Type 0) (tag : Tag) (statement : Statement) (past : Entries) (version read attempts : ℕ) : Type 0 where
  pub is_insert : (rows : List Row) × (statement ≡ Insert rows)
  pub sum : read + attempts ≡ version
  pub above : 0 < attempts
  pub small : version < 2 ^ 64
  pub listed : first_past listed_by past ≡ Some read
  pub op : Operation Scope
  pub start : ℕ
  pub s : Snapshot
  pub view : File → List Row
  pub added : List File
  pub own : IsOwn tag start added
  pub body : List ℕ
  pub before : ℕ
  pub next : version ≡ suc before
  pub writes : Writes version body (plan_of tag start read op view (files_in s) added)
  pub knows : Knows tag op start read s view added (Known K past) (StoredIn past) before
  pub lost : AllLostBelow past version
  pub there : StoredIn past (commit_text version) body ⊎ GotIn past (commit_text version) body

-- a select loaded a version, and got all its files
pub record ClaimsRows (K : List ℕ → List ℕ → Type 0) (statement : Statement) (past : Entries) (version : ℕ) (given : List Row) (read live : ℕ) : Type 0 where
  pub is_select : statement ≡ Select
  pub listed : first_past listed_by past ≡ Some version
  pub s : Snapshot
  pub loaded : LoadedTo (Known K past) (suc version) s
  pub got : List ScannedFile
  pub scanned : AllScanned (Known K past) (paths_of s.files) got
  pub sorts : Sorts (rows_of_files got) given
  pub files_read : read ≡ length got
  pub files_live : live ≡ length s.files

-- a statement made a table: its only put of a commit, that of version 0, was answered as stored, or by a fault, and then its text was read back
pub record ClaimsCreated (statement : Statement) (past : Entries) : Type 0 where
  pub spec : TableSpec
  pub is_table : statement ≡ Table spec
  pub puts : versions_put past ≡ 0 ∷ []
  pub there : let text = text_of_columns (names_of spec.columns) in StoredIn past (commit_text 0) text ⊎ (GotIn past (commit_text 0) text × PutIn past (commit_text 0) text Fault)

-- what a reply claims of all entries of its statement
abbrev pub ClaimOf : (List ℕ → List ℕ → Type 0) → Tag → Statement → Entries → Reply → Type 0
ClaimOf K tag statement past Created = ClaimsCreated statement past
ClaimOf K tag statement past (Committed version read attempts checkpoint) = ClaimsCommit K tag statement past version read attempts
ClaimOf K tag statement past (Rows version rows files_read files_live) = ClaimsRows K statement past version rows files_read files_live
ClaimOf K tag statement past Killed = Unit {0}
ClaimOf K tag statement past (Refused r) = ClaimsNothing past r

abbrev pub Claim : (List ℕ → List ℕ → Type 0) → Tag → Statement → Option Reply → Entries → Type 0
Claim K tag statement None past = Unit {0}
Claim K tag statement (Some reply) past = ClaimOf K tag statement past reply

-- a put of a statement's commit
pub record IsCommitOf (K : List ℕ → List ℕ → Type 0) (tag : Tag) (statement : Statement) (past : Entries) (name body : List ℕ) : Type 0 where
  pub version : ℕ
  pub is : name ≡ commit_text (suc version)
  pub small : suc version < 2 ^ 60
  pub s : Snapshot
  pub op : Operation Scope
  pub is_op : operation_of (schema_in s) statement ≡ Some op
  pub start : ℕ
  pub read : ℕ
  pub view : File → List Row
  pub added : List File
  pub writes : Writes (suc version) body (plan_of tag start read op view (files_in s) added)
  pub started : first_past told_by past ≡ Some start
  pub listed : first_past listed_by past ≡ Some read
  pub knows : Knows tag op start read s view added (Known K past) (StoredIn past) version
  pub lost : AllLost past
  pub tries : ℕ
  pub sum : read + tries ≡ version
  pub puts : versions_put past ≡ versions_down read tries
  pub won : AllWon past read version

-- a statement's data file, the commit that makes a table, or another commit. Each is put after the statement's start
pub data MayPut (K : List ℕ → List ℕ → Type 0) (tag : Tag) (statement : Statement) (past : Entries) (name body : List ℕ) : Type 0 where
  IsFile : (start part : ℕ) → first_past told_by past ≡ Some start → part < 2 ^ 32 → name ≡ data_text tag start part → NotPut past name → MayPut K tag statement past name body
  IsTable : (spec : TableSpec) → HasStart past → statement ≡ Table spec → name ≡ commit_text 0 → body ≡ text_of_columns (names_of spec.columns) → NoPut past → MayPut K tag statement past name body
  IsCommit : IsCommitOf K tag statement past name body → MayPut K tag statement past name body

abbrev pub LawfulBy : (List ℕ → List ℕ → Type 0) → Tag → Statement → Entries → Call → Type 0
LawfulBy K tag statement past (PutNew name body) = MayPut K tag statement past name body
LawfulBy K tag statement past (Get name) = Unit {0}
LawfulBy K tag statement past (Replace name body) = ⊥
LawfulBy K tag statement past (ListNames prefix) = HasStart past
LawfulBy K tag statement past (Delete name) = ⊥
LawfulBy K tag statement past Now = Unit {0}
LawfulBy K tag statement past (Wait time) = Unit {0}

-- each of the entries to come is lawful after those before it, and at the end the reply's claim holds
abbrev pub AllLawful : (List ℕ → List ℕ → Type 0) → Tag → Statement → Option Reply → Entries → Entries → Type 0
AllLawful K tag statement reply past [] = Claim K tag statement reply past
AllLawful K tag statement reply past (e ∷ es) = LawfulBy K tag statement past e.call × AllLawful K tag statement reply (e ∷ past) es
