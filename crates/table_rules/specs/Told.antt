-- What tells the names of a table apart.
use Rattle.std.specs.Prelude.{◌≡◌, ◌≢◌, ◌<◌, ◌%◌, ◌^◌, ◌++◌, ℕ, List, All, true, nat_eq}
use Rattle.std.specs.List.{starts_with}
use Rattle.edge_api.specs.declared.call.Tag.{Tag}
use Rattle.log_actions.specs.Whole.{IsPath}
use Rattle.table_rules.specs.Names.{log_prefix, commit_text, checkpoint_text, is_id, log_name, data_text}
use Rattle.table_rules.specs.declared.log.LogName.TheVariants.{Commit, CheckpointJson, Outside}

-- versions whose commits have one name are one
abbrev pub CommitsDiffer : Type 0
CommitsDiffer = (v w : ℕ) → v < 2 ^ 64 → w < 2 ^ 64 → commit_text v ≡ commit_text w → v ≡ w

-- a commit's name reads as this commit
abbrev pub CommitIsRead : Type 0
CommitIsRead = (v : ℕ) → v < 2 ^ 64 → log_name (commit_text v) ≡ Commit v

-- what reads as a commit is this commit's name
abbrev pub OnlyCommitIsRead : Type 0
OnlyCommitIsRead = (name : List ℕ) (v : ℕ) → log_name name ≡ Commit v → (name ≡ commit_text v) × (v < 2 ^ 64)

-- a checkpoint's name reads as a checkpoint of its version
abbrev pub CheckpointIsRead : Type 0
CheckpointIsRead = (v : ℕ) (id : List ℕ) → v < 2 ^ 64 → is_id id ≡ true → log_name (checkpoint_text v id) ≡ CheckpointJson v

-- what reads as a checkpoint in JSON is the name of this version's checkpoint with some identifier
abbrev pub OnlyCheckpointIsRead : Type 0
OnlyCheckpointIsRead = (name : List ℕ) (v : ℕ) → log_name name ≡ CheckpointJson v → (id : List ℕ) × (name ≡ checkpoint_text v id) × (is_id id ≡ true) × (v < 2 ^ 64)

-- a commit's name stands in the log
abbrev pub CommitIsInLog : Type 0
CommitIsInLog = (v : ℕ) → starts_with nat_eq (commit_text v) log_prefix ≡ true

-- a data file's name doesn't stand there
abbrev pub DataIsOutside : Type 0
DataIsOutside = (tag : Tag) (start part : ℕ) → (log_name (data_text tag start part) ≡ Outside) × ((rest : List ℕ) → data_text tag start part ≢ log_prefix ++ rest)

-- and it is no commit's
abbrev pub DataIsNoCommit : Type 0
DataIsNoCommit = (tag : Tag) (start part v : ℕ) → data_text tag start part ≢ commit_text v

-- a tag has 16 and 32 bits
abbrev pub IsTag : Tag → Type 0
IsTag tag = (tag.actor < 2 ^ 16) × (tag.statement < 2 ^ 32)

-- data files of one name are one part of one statement, and their starts agree in 48 bits
abbrev pub DataDiffer : Type 0
DataDiffer = (s t : Tag) (start other part piece : ℕ) → IsTag s → IsTag t → part < 2 ^ 32 → piece < 2 ^ 32 → data_text s start part ≡ data_text t other piece
    → (s.actor ≡ t.actor) × (s.statement ≡ t.statement) × (part ≡ piece) × (start % 2 ^ 48 ≡ other % 2 ^ 48)

-- a byte is no blank, no control character, nothing outside of ASCII, no percent sign and no colon
abbrev pub IsGraphic : ℕ → Type 0
IsGraphic b = (32 < b) × (b < 127) × (b ≢ 37) × (b ≢ 58)

-- a data file's name has such bytes alone
abbrev pub DataIsGraphic : Type 0
DataIsGraphic = (tag : Tag) (start part : ℕ) → part < 2 ^ 32 → All IsGraphic (data_text tag start part)

-- it is a path below the table's folder, whose name is the path itself
abbrev pub DataIsPath : Type 0
DataIsPath = (tag : Tag) (start part : ℕ) → part < 2 ^ 32 → IsPath (data_text tag start part) (data_text tag start part)
