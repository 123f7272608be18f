-- What a table that was replayed from its commits says, in the words of what each version's commit says.
use Rattle.std.specs.Prelude.{◌≡◌, ℕ, zero, suc, List, [], ◌∷◌, map, Option, Some, None, option_and_then, option_map}
use Rattle.std.specs.Cmp.Lexicographic.{slice_cmp}
use Rattle.std.specs.List.Sorted.{IsStrictlySortedBy}
use Rattle.std.specs.Ordering.{nat_cmp}
use Rattle.log_actions.specs.declared.action.AddFile.{AddFile}
use Rattle.log_actions.specs.declared.action.MetaData.{MetaData}
use Rattle.log_actions.specs.declared.action.Action.{Action}
use Rattle.log_state.specs.Listed.{AreLive}
use Rattle.log_state.specs.Newest.{live_by}
use Rattle.log_state.specs.Stamps.{if_stamp, stamp_after}
use Rattle.log_state.specs.Table.{Table, txn_of, action_of, next_version, IsTableOf, IsApplied, applied}
use Rattle.table_files.specs.Files.{File, file_in}
use Rattle.table_files.specs.Commits.{Commit, commit_of}
use Rattle.table_changes.specs.Table as by_version
use Rattle.table_changes.specs.Table.{file_at, paths_of, meta_by, number_by}

-- from this version on, versions say what these commits do
abbrev pub AreSaid : (ℕ → Commit) → ℕ → List (List Action) → Type 0
AreSaid said version [] = Unit {0}
AreSaid said version (commit ∷ more) = (said version ≡ commit_of commit) × AreSaid said (suc version) more

-- the time that a commit says of itself
abbrev pub stamp_said : Commit → Option ℕ
stamp_said t = option_and_then if_stamp (option_and_then (λ i. i.timestamp) t.info)

-- the stamp of a version, by what each version's commit says
abbrev pub stamp_by : (ℕ → Commit) → ℕ → ℕ
stamp_by said zero = stamp_after None (stamp_said (said 0))
stamp_by said (suc v) = stamp_after (Some (stamp_by said v)) (stamp_said (said (suc v)))

-- the live files, the metadata, an application's number and the stamp, also before version 0
abbrev pub files_at : (ℕ → Commit) → Option ℕ → List File
files_at said None = []
files_at said (Some v) = by_version.live_by said v

abbrev pub meta_at : (ℕ → Commit) → Option ℕ → Option MetaData
meta_at said None = None
meta_at said (Some v) = meta_by said v

abbrev pub number_at : (ℕ → Commit) → List ℕ → Option ℕ → Option ℕ
number_at said app None = None
number_at said app (Some v) = number_by said app v

abbrev pub stamp_at : (ℕ → Commit) → Option ℕ → Option ℕ
stamp_at said None = None
stamp_at said (Some v) = Some (stamp_by said v)

-- the table says what the versions up to its own do: of each path the live file, and the rest
pub record IsSaid (said : ℕ → Commit) (t : Table) : Type 0 where
  pub file : (path : List ℕ) → option_map file_in (live_by (action_of t path)) ≡ file_at path (files_at said t.version)
  pub meta : t.meta ≡ meta_at said t.version
  pub number : (app : List ℕ) → option_map (λ x. x.version) (txn_of t app) ≡ number_at said app t.version
  pub stamp : t.stamp ≡ stamp_at said t.version

-- the table that commits leave says what they do
abbrev pub ReplayAgrees : Type 0
ReplayAgrees = (said : ℕ → Commit) (commits : List (List Action)) (t : Table) → AreSaid said 0 commits → IsTableOf commits t → IsSaid said t

-- and so it goes from version to version
abbrev pub EachStepAgrees : Type 0
EachStepAgrees =
    (said : ℕ → Commit) (old new : Table) (commit : List Action) → IsSaid said old → said (next_version old.version) ≡ commit_of commit → IsApplied old (next_version old.version) commit new → IsSaid said new

-- a table with one more commit is what this commit makes of each thing
abbrev pub EachCommitApplies : Type 0
EachCommitApplies = (t : Table) (version : ℕ) (commit : List Action) → IsApplied t version commit (applied t version commit)

-- the live files of each version stand in byte order of path, each path once
abbrev pub LiveAreOrdered : Type 0
LiveAreOrdered = (said : ℕ → Commit) (v : ℕ) → IsStrictlySortedBy (slice_cmp nat_cmp) (paths_of (by_version.live_by said v))

-- a table's live files, in byte order of path, are those of its version
abbrev pub ListingAgrees : Type 0
ListingAgrees = (said : ℕ → Commit) (t : Table) (files : List AddFile) → IsSaid said t → AreLive t files → map file_in files ≡ files_at said t.version
