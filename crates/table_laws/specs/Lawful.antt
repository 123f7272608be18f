-- The law of a run: what holds of every legal completion of its journal.
use Rattle.std.specs.Prelude.{ℕ, List, [], Option}
use Rattle.edge_api.specs.declared.call.Tag.{Tag}
use Rattle.edge_api.specs.Journal.{Moment, IsLegal, entries_of}
use Rattle.op_types.specs.declared.statement.Statement.{Statement}
use Rattle.op_types.specs.declared.reply.Reply.{Reply}
use Rattle.statement_calls.specs.declared.finish.Finish.{Finish}
use Rattle.table_laws.specs.Runs.{IsRun, replies_of}
use Rattle.table_laws.specs.Laws.{VersionsAreSerial, CommitsOnce, FirstIsEmpty, FirstMakesTable, CommitsRead, FilesRead, FilesComeFirst, CommitsLand, CommitPutsAreDecided, RepliesCreated, RepliesCommitted, RepliesRead}
use Rattle.table_laws.specs.Folded.{RowsAreFolded}
use Rattle.table_laws.specs.Views.{ListingIsNewest, ReadsNeverFall, ReadsCoverCommits, RowsOfOneSession, NamesPutOnce}
use Rattle.table_laws.specs.Starts.{AtEachMoment, PutsFollowStarts, NewerLandLater}
use Rattle.table_laws.specs.Refused.{RefusedCommitNothing}

-- what holds of a journal, by the statement and the reply of each tag
pub record IsLawful (script : Tag → Option Statement) (replies : Tag → Option Reply) (moments : List Moment) : Type 0 where
  -- Each version is the one before with one statement's operation done, at the level of the table that it read: the operation misses no row of its scope at
  -- the stricter level, and rows of blind appends alone at the other. Where none can miss a row, the rows of a version are what the operations up to it
  -- give, one after another from no rows on
  pub serial : VersionsAreSerial script moments
  pub folded : RowsAreFolded script moments
  -- version 0 makes the table and has no rows, and each statement commits one version at most
  pub first : FirstMakesTable script moments
  pub empty : FirstIsEmpty moments
  pub once : CommitsOnce moments
  -- commits and data files read, and the files that a commit adds were put before it
  pub commits : CommitsRead moments
  pub files : FilesRead moments
  pub files_first : FilesComeFirst moments
  -- A commit above version 0 was put once at each version above the one that was read, in order, and lost to other statements' commits but for the last.
  -- Each put wins, loses or fails at its own moment
  pub lands : CommitsLand moments
  pub puts : CommitPutsAreDecided moments
  -- A listing of the log shows the newest version of its moment. So the versions that a session reads never fall, and none is older than one that the
  -- session has committed before. Of one session the rows are the operations, one after another
  pub newest : ListingIsNewest moments
  pub never_falls : ReadsNeverFall moments
  pub covers : ReadsCoverCommits moments
  pub session : RowsOfOneSession script moments
  -- each name is put once
  pub names : NamesPutOnce moments
  -- at each moment: a statement's puts are no earlier than its start, and so are the commits above the version that it reads
  pub starts : AtEachMoment PutsFollowStarts moments
  pub later : AtEachMoment NewerLandLater moments
  -- replies say what was made, committed and read, and a refused statement has committed nothing, but where its refusal leaves that open
  pub created : RepliesCreated script replies moments
  pub committed : RepliesCommitted script replies moments
  pub read : RepliesRead script replies moments
  pub refused : RefusedCommitNothing script replies moments

-- every legal completion of a run's journal is lawful
abbrev pub EachRunIsLawful : Type 0
EachRunIsLawful =
    (limit : ℕ) (script : Tag → Option Statement) (outcomes : Tag → Option Finish) (moments : List Moment) → IsLegal [] 0 moments
    → IsRun limit script outcomes (entries_of moments) → IsLawful script (replies_of outcomes) moments
