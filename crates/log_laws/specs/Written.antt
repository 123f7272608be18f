-- What the text says that is written of a plan's actions.
use Rattle.std.specs.Prelude.{◌≡◌, ◌≤◌, ◌<◌, ◌^◌, ℕ, true, List, [], ◌∷◌, map, length, Option, Some, None, Ok, IfSome}
use Rattle.std.specs.List.{AllByRecursion}
use Rattle.json_lines.specs.declared.map.Entry.{Entry}
use Rattle.log_actions.specs.declared.action.AddFile.{AddFile}
use Rattle.log_actions.specs.declared.action.Txn.{Txn}
use Rattle.log_actions.specs.declared.action.Action.{Action}
use Rattle.log_actions.specs.declared.action.Action.TheVariants as actions
use Rattle.log_actions.specs.Commit.{actions_of, max_bytes}
use Rattle.log_actions.specs.Grammar as grammar
use Rattle.log_actions.specs.Whole.{IsMap, IsAmount, IsVersion, IsStamp, IsWhole, AreWhole}
use Rattle.log_actions.specs.Written.{text_of}
use Rattle.log_state.specs.Stamps.{stamp_in}
use Rattle.log_state.specs.Table.{Table}
use Rattle.table_rules.specs.declared.rules.Level.{Level}
use Rattle.table_files.specs.Files.{file_in}
use Rattle.table_files.specs.Commits.{Commit, commit_of, is_blind}
use Rattle.table_changes.specs.Table.{adds_lines}
use Rattle.commit_plans.specs.declared.plan.CommitPlan.{CommitPlan}
use Rattle.commit_plans.specs.Made.{made_protocol, made_metadata}
use Rattle.commit_plans.specs.Plans.{info_at, next_stamp, actions_at, table_plan, insert_plan}
use Rattle.commit_plans.specs.Laws.{AreApart, AreWholeFiles}

-- A text that was written for actions, not too long. That it says these is known where they are whole (write_commit of log_actions)
pub record Writes (text : List ℕ) (all : List Action) : Type 0 where
  pub text_is : text ≡ text_of all
  pub short : length text ≤ max_bytes
  pub back : AreWhole [] all → grammar.Commit text all

-- each file's add changes rows
abbrev pub AllChange : List AddFile → Type 0
AllChange = AllByRecursion (λ f. f.data_change ≡ true)

-- the text reads as the actions of the plan, with its stamp and as blind as planned, and says this
pub record Reads (text : List ℕ) (plan : CommitPlan) (now : ℕ) (said : Commit) : Type 0 where
  pub actions : actions_of text ≡ Ok (actions_at plan now)
  pub stamp : stamp_in (actions_at plan now) ≡ Some (next_stamp plan.last now)
  pub blind : is_blind (commit_of (actions_at plan now)) ≡ plan.blind
  pub says : commit_of (actions_at plan now) ≡ said

-- what a plan's commit says: of itself, and what its changes do
abbrev pub said_by : CommitPlan → ℕ → Commit
said_by plan now = record (commit_of plan.changes) { info = Some (info_at plan now) }

-- what the making of a table says
abbrev pub making_said : List ℕ → ℕ → Level → List ℕ → List (List ℕ) → List (Entry (List ℕ)) → ℕ → Commit
making_said id start level schema partition properties now = record {
  info = Some (info_at (table_plan id start level schema partition properties) now);
  protocol = Some made_protocol;
  meta = Some (made_metadata id start schema partition properties);
  txns = [];
  lines = [];
}

-- the plan of an insert over a table, for an attempt behind a version with this stamp
abbrev pub insert_behind : Option ℕ → Table → List ℕ → Level → Option Txn → List AddFile → CommitPlan
insert_behind last table id level txn files = record (insert_plan table id level txn files) { last = last }

-- an application with the number of its transaction
abbrev pub numbers_of : Option Txn → List (List ℕ × ℕ)
numbers_of None = []
numbers_of (Some t) = (t.app_id, t.version) ∷ []

-- what an insert says
abbrev pub insert_said : Option ℕ → Table → List ℕ → Level → Option Txn → List AddFile → ℕ → Commit
insert_said last table id level txn files now = record {
  info = Some (info_at (insert_behind last table id level txn files) now);
  protocol = None;
  meta = None;
  txns = numbers_of txn;
  lines = adds_lines true (map file_in files);
}

-- a text that was written for a plan's whole actions reads as these
abbrev pub WrittenReads : Type 0
WrittenReads = (text : List ℕ) (plan : CommitPlan) (now : ℕ) → AreWhole [] (actions_at plan now) → Writes text (actions_at plan now) → Reads text plan now (said_by plan now)

-- so does that of a table's making
abbrev pub MakingReads : Type 0
MakingReads = (text id : List ℕ) (start : ℕ) (level : Level) (schema : List ℕ) (partition : List (List ℕ)) (properties : List (Entry (List ℕ))) (now : ℕ)
    → IsAmount start → IsMap properties → IsStamp now → Writes text (actions_at (table_plan id start level schema partition properties) now)
    → Reads text (table_plan id start level schema partition properties) now (making_said id start level schema partition properties now)

-- and that of an insert, whatever stamp is before its attempt
abbrev pub InsertReads : Type 0
InsertReads = (text : List ℕ) (last : Option ℕ) (table : Table) (id : List ℕ) (level : Level) (txn : Option Txn) (files : List AddFile) (now : ℕ)
    → IfSome table.version IsVersion → IfSome last (λ s. s < 2 ^ 62) → IsStamp now → IfSome txn (λ t. IsWhole (actions.Txn t)) → AreWholeFiles files → AreApart files → AllChange files
    → Writes text (actions_at (insert_behind last table id level txn files) now)
    → Reads text (insert_behind last table id level txn files) now (insert_said last table id level txn files now)
