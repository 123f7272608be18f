-- The actions of a statement's commit, by the attempt's reading of the clock.
use Rattle.std.specs.Prelude.{ℕ, suc, max, false, true, List, [], ◌∷◌, ◌++◌, map, Option, Some, None, codes}
use Rattle.json_lines.specs.declared.map.Entry.{Entry}
use Rattle.log_actions.specs.declared.action.AddFile.{AddFile}
use Rattle.log_actions.specs.declared.action.CommitInfo.{CommitInfo}
use Rattle.log_actions.specs.declared.action.Txn.{Txn}
use Rattle.log_actions.specs.declared.action.Action.{Action}
use Rattle.log_actions.specs.declared.action.Action.TheVariants as actions
use Rattle.log_state.specs.Stamps.{stamp_in, stamp_after}
use Rattle.log_state.specs.Table.{Table}
use Rattle.table_rules.specs.declared.rules.Level.{Level}
use Rattle.table_rules.specs.declared.rules.Level.TheVariants.{Serializable, WriteSerializable}
use Rattle.commit_plans.specs.declared.plan.CommitPlan.{CommitPlan}
use Rattle.commit_plans.specs.declared.plan.Operation.{Operation}
use Rattle.commit_plans.specs.declared.plan.Operation.TheVariants.{CreateTable, Write}
use Rattle.commit_plans.specs.Made.{made_protocol, made_metadata}

-- the name of what a statement does
unfoldable pub operation_text : Operation → List ℕ
operation_text CreateTable = codes "CREATE TABLE"
operation_text Write = codes "WRITE"

-- the value of `delta.isolationLevel` that is this level
unfoldable pub level_text : Level → List ℕ
level_text Serializable = codes "Serializable"
level_text WriteSerializable = codes "WriteSerializable"

-- the stamp of a commit: the reading of the clock, or one more than the stamp of the version before, if that is more
abbrev pub next_stamp : Option ℕ → ℕ → ℕ
next_stamp None now = now
next_stamp (Some last) now = max now (suc last)

-- what the commit says about itself
abbrev pub info_at : CommitPlan → ℕ → CommitInfo
info_at plan now = record {
  timestamp = Some (next_stamp plan.last now);
  operation = Some (operation_text plan.operation);
  read_version = plan.read;
  isolation_level = Some (level_text plan.level);
  is_blind_append = Some plan.blind;
  txn_id = Some plan.id;
}

-- the actions of the attempt with this reading of the clock
abbrev pub actions_at : CommitPlan → ℕ → List Action
actions_at plan now = actions.Info (info_at plan now) ∷ plan.changes

-- the plan for the attempt behind a commit with these actions
abbrev pub behind : CommitPlan → List Action → CommitPlan
behind plan winner = record plan { last = Some (stamp_after plan.last (stamp_in winner)) }

-- and behind several, in order of version
abbrev pub behind_all : CommitPlan → List (List Action) → CommitPlan
behind_all plan [] = plan
behind_all plan (w ∷ ws) = behind_all (behind plan w) ws

-- a data file that a statement adds: its path is its name, and its time the statement's start
abbrev pub added_file : List ℕ → List (Entry (Option (List ℕ))) → ℕ → ℕ → Option (List ℕ) → AddFile
added_file name values size start stats = record {
  path = name;
  name = name;
  partition_values = values;
  size = size;
  modification_time = start;
  data_change = true;
  stats = stats;
  tags = None;
}

-- the making of a table, by its statement's identifier and start, the table's level, the text of its schema, the names of its
-- partition columns and its properties
abbrev pub table_plan : List ℕ → ℕ → Level → List ℕ → List (List ℕ) → List (Entry (List ℕ)) → CommitPlan
table_plan id start level schema partition properties = record {
  read = None;
  last = None;
  operation = CreateTable;
  level = level;
  blind = false;
  id = id;
  changes = actions.Protocol made_protocol ∷ actions.Meta (made_metadata id start schema partition properties) ∷ [];
}

-- the transaction of an application, where there is one
abbrev pub txn_actions : Option Txn → List Action
txn_actions None = []
txn_actions (Some txn) = actions.Txn txn ∷ []

-- an insert of literal rows over a table, by its statement's identifier, the level there, its transaction and its files in order
abbrev pub insert_plan : Table → List ℕ → Level → Option Txn → List AddFile → CommitPlan
insert_plan table id level txn files = record {
  read = table.version;
  last = table.stamp;
  operation = Write;
  level = level;
  blind = true;
  id = id;
  changes = txn_actions txn ++ map actions.Add files;
}
