-- A table is made, a file is appended at a clock that lags behind, and another writer's commit, which says no time, puts a second file in its place.
use Rattle.std.specs.Prelude.{◌≡◌, ◌<◌, ℕ, zero, suc, false, List, [], ◌∷◌, get_or, Some, None, codes}
use Rattle.edge_api.specs.declared.call.Tag.{Tag}
use Rattle.log_actions.specs.declared.action.AddFile.{AddFile}
use Rattle.log_actions.specs.declared.action.RemoveFile.{RemoveFile}
use Rattle.log_actions.specs.declared.action.Action.{Action}
use Rattle.log_actions.specs.declared.action.Action.TheVariants as actions
use Rattle.log_state.specs.Listed.{AreLive}
use Rattle.log_state.specs.Table.{Table, applied, IsTableOf}
use Rattle.table_rules.specs.declared.rules.Level.TheVariants.{WriteSerializable}
use Rattle.table_rules.specs.Names.{data_text}
use Rattle.table_files.specs.Files.{file_in}
use Rattle.table_files.specs.Commits.{Commit, commit_of}
use Rattle.table_changes.specs.Table.{live_by, meta_by, number_by}
use Rattle.commit_plans.specs.declared.plan.CommitPlan.{CommitPlan}
use Rattle.commit_plans.specs.Made.{made_metadata}
use Rattle.commit_plans.specs.Plans.{actions_at, added_file, table_plan}
use Rattle.log_laws.specs.Replay.{AreSaid}
use Rattle.log_laws.specs.Written.{Writes, insert_behind}
use Rattle.log_laws.specs.Versions.{stamp_below, actions_by, IsMade}

abbrev pub file : List ℕ → AddFile
file path = added_file path [] 9 5 None

abbrev pub removed : List ℕ → RemoveFile
removed path = record {
  path = path;
  name = path;
  deletion_timestamp = 6;
  data_change = false;
  extended_file_metadata = None;
  partition_values = None;
  size = None;
  tags = None;
}

abbrev pub first_path : List ℕ
first_path = 97 ∷ []

abbrev pub second_path : List ℕ
second_path = 98 ∷ []

abbrev pub makes : CommitPlan
makes = table_plan (codes "one") 5 WriteSerializable (codes "{}") [] []

abbrev pub no_table : Table
no_table = record { version = None; stamp = None; protocol = None; meta = None; txns = []; actions = [] }

abbrev pub made_table : Table
made_table = applied no_table 0 (actions_at makes 5)

abbrev pub appends : List ℕ → CommitPlan
appends path = insert_behind (Some 5) made_table (codes "two") WriteSerializable None (file path ∷ [])

-- an application's commit, with its seventh number
abbrev pub replaces : List Action
replaces =
    actions.Txn (record { app_id = codes "app"; version = 7; last_updated = None })
    ∷ actions.Remove (removed first_path)
    ∷ actions.Add (file second_path)
    ∷ []

abbrev pub commits : List (List Action)
commits = actions_at makes 5 ∷ actions_at (appends first_path) 3 ∷ replaces ∷ []

abbrev pub said : ℕ → Commit
said v = commit_of (get_or commits v [])

abbrev pub table : Table
table = applied (applied made_table 1 (actions_at (appends first_path) 3)) 2 replaces

-- the table meets what the laws of replay ask, and is what it should be
pub record TableIsReplayed : Type 0 where
  pub leaves : IsTableOf commits table
  pub says : AreSaid said 0 commits
  pub live : AreLive table (file second_path ∷ [])
  pub files_before : live_by said 1 ≡ file_in (file first_path) ∷ []
  pub files : live_by said 2 ≡ file_in (file second_path) ∷ []
  pub meta : meta_by said 2 ≡ Some (made_metadata (codes "one") 5 (codes "{}") [] [])
  pub number : number_by said (codes "app") 2 ≡ Some 7
  pub stamp : table.stamp ≡ Some 7

abbrev pub two : List ℕ → List ℕ → ℕ → List ℕ
two a b zero = a
two a b (suc v) = b

-- whatever texts were written of the first two commits, they meet what the laws of versions ask
pub record PremisesAreMet (a b : List ℕ) : Type 0 where
  pub facts : (k : ℕ) → k < 2 → IsMade (two a b) k
  pub stamp : stamp_below (actions_by (two a b)) 2 ≡ Some 6

abbrev pub InsertsAreMade : Type 0
InsertsAreMade = (tag : Tag) (a b : List ℕ) → Writes a (actions_at makes 5) → Writes b (actions_at (appends (data_text tag 5 0)) 3) → PremisesAreMet a b
