-- What is planned is whole, so that the text that is written of it reads as it, and its stamp is above those before.
use Rattle.std.specs.Prelude.{◌≡◌, ◌≤◌, ◌<◌, ℕ, suc, ◌^◌, true, false, List, [], ◌∷◌, ◌++◌, map, Option, Some, None, IfSome}
use Rattle.std.specs.List.{AllByRecursion, IsDistinct}
use Rattle.std.specs.List.Sorted.{IsStrictlySortedBy}
use Rattle.std.specs.Ordering.{nat_cmp}
use Rattle.std.specs.Str.{bytes_eq}
use Rattle.row_base.specs.declared.limits.TheConstants.{LAST_TIME}
use Rattle.edge_api.specs.declared.call.Tag.{Tag}
use Rattle.json_lines.specs.declared.map.Entry.{Entry}
use Rattle.log_actions.specs.declared.action.AddFile.{AddFile}
use Rattle.log_actions.specs.declared.action.Txn.{Txn}
use Rattle.log_actions.specs.declared.action.Action.{Action}
use Rattle.log_actions.specs.declared.action.Action.TheVariants as actions
use Rattle.log_actions.specs.Whole.{IsMap, IsAmount, IsVersion, IsStamp, IsWhole, AreWhole}
use Rattle.log_state.specs.Stamps.{stamp_from, stamps_from}
use Rattle.log_state.specs.Table.{Table, IsTableOf}
use Rattle.op_types.specs.declared.statement.Property.{Property}
use Rattle.table_rules.specs.Names.{data_text}
use Rattle.table_rules.specs.Told.{IsTag}
use Rattle.table_rules.specs.declared.rules.Level.{Level}
use Rattle.commit_plans.specs.declared.plan.CommitPlan.{CommitPlan}
use Rattle.commit_plans.specs.Properties.{policy_key, policy_value, made_properties, value_for, value_at}
use Rattle.commit_plans.specs.Plans.{actions_at, behind_all, next_stamp, table_plan, insert_plan}

-- none of the files has this path
abbrev pub NoneHas : List ℕ → List AddFile → Type 0
NoneHas path [] = Unit {0}
NoneHas path (f ∷ fs) = (bytes_eq path f.path ≡ false) × NoneHas path fs

-- the paths of files differ
abbrev pub AreApart : List AddFile → Type 0
AreApart [] = Unit {0}
AreApart (f ∷ fs) = NoneHas f.path fs × AreApart fs

-- each file's action is whole
abbrev pub AreWholeFiles : List AddFile → Type 0
AreWholeFiles [] = Unit {0}
AreWholeFiles (f ∷ fs) = IsWhole (actions.Add f) × AreWholeFiles fs

-- the actions of a table's making are whole, where its properties stand in byte order, each once
abbrev pub TablePlansAreWhole : Type 0
TablePlansAreWhole = (id : List ℕ) (start : ℕ) (level : Level) (schema : List ℕ) (partition : List (List ℕ)) (properties : List (Entry (List ℕ))) (now : ℕ)
    → IsAmount start → IsStamp now → IsMap properties → AreWhole [] (actions_at (table_plan id start level schema partition properties) now)

-- the actions of an insert are whole, whatever stamp is before its attempt
abbrev pub InsertPlansAreWhole : Type 0
InsertPlansAreWhole = (table : Table) (id : List ℕ) (level : Level) (txn : Option Txn) (files : List AddFile) (last : Option ℕ) (now : ℕ)
    → IfSome table.version IsVersion → IfSome last (λ s. s < 2 ^ 62) → IsStamp now → IfSome txn (λ x. IsWhole (actions.Txn x)) → AreWholeFiles files → AreApart files
    → AreWhole [] (actions_at (record (insert_plan table id level txn files) { last = last }) now)

-- a part of a statement's data, as an action adds it
pub record IsPart (tag : Tag) (start part : ℕ) (file : AddFile) : Type 0 where
  pub number : part < 2 ^ 32
  pub path : file.path ≡ data_text tag start part
  pub name : file.name ≡ data_text tag start part
  pub values : IsMap file.partition_values
  pub size : IsAmount file.size
  pub time : file.modification_time ≡ start
  pub tags : file.tags ≡ None

-- the parts from this one on, in order
abbrev pub AreParts : Tag → ℕ → ℕ → List AddFile → Type 0
AreParts tag start part [] = Unit {0}
AreParts tag start part (f ∷ fs) = IsPart tag start part f × AreParts tag start (suc part) fs

-- the files that a statement adds are whole, and their paths differ
abbrev pub PartsAreWhole : Type 0
PartsAreWhole = (tag : Tag) (start part : ℕ) (files : List AddFile) → IsTag tag → IsAmount start → AreParts tag start part files → AreWholeFiles files × AreApart files

-- the properties of a made table: a map, in which each key has the value that the statement gives it
pub record AreMade (properties : List Property) : Type 0 where
  pub order : IsMap (made_properties properties)
  pub value : (key : List ℕ) → value_at key (made_properties properties) ≡ value_for key properties
  -- where no key is there twice, each property of the statement stands in it
  pub each : IsDistinct bytes_eq (map (λ p. p.key) properties) → AllByRecursion (λ p. value_at p.key (made_properties properties) ≡ Some p.value) properties
  -- and so does the policy, where the statement gives it no other value
  pub policy : AllByRecursion (λ p. bytes_eq p.key policy_key ≡ true → p.value ≡ policy_value) properties → value_at policy_key (made_properties properties) ≡ Some policy_value

abbrev pub PropertiesAreMade : Type 0
PropertiesAreMade = (properties : List Property) → AreMade properties

-- the stamps of commits rise, from version to version
abbrev pub AreRising : List (List Action) → Type 0
AreRising commits = IsStrictlySortedBy nat_cmp (stamps_from None commits)

-- a plan's commit at a reading of the clock, behind these commits
pub record StampRises (commits : List (List Action)) (plan : CommitPlan) (now : ℕ) : Type 0 where
  -- its stamp is the one that it says, not below the reading
  pub said : stamp_from None (commits ++ actions_at plan now ∷ []) ≡ Some (next_stamp plan.last now)
  pub clock : now ≤ next_stamp plan.last now
  -- it is above that of the version before, and above all, where these rise
  pub above : IfSome (stamp_from None commits) (λ last. last < next_stamp plan.last now)
  pub rising : AreRising commits → AreRising (commits ++ actions_at plan now ∷ [])

-- a plan over a table that commits left, behind others that were there first
abbrev pub StampsRise : Type 0
StampsRise = (commits winners : List (List Action)) (table : Table) (plan : CommitPlan) (now : ℕ) → IsTableOf commits table → plan.last ≡ table.stamp → now ≤ LAST_TIME
    → StampRises (commits ++ winners) (behind_all plan winners) now
