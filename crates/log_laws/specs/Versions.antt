-- Versions one after another, each written for a plan over those below it.
use Rattle.std.specs.Prelude.{◌≡◌, ◌≤◌, ◌<◌, ◌+◌, ◌^◌, ℕ, zero, suc, List, [], ◌∷◌, ◌++◌, Option, Some, None, IfSome, Result, Ok, Err}
use Rattle.row_base.specs.declared.limits.TheConstants.{LAST_TIME}
use Rattle.json_lines.specs.declared.map.Entry.{Entry}
use Rattle.log_actions.specs.declared.action.AddFile.{AddFile}
use Rattle.log_actions.specs.declared.action.Txn.{Txn}
use Rattle.log_actions.specs.declared.action.Action.{Action}
use Rattle.log_actions.specs.declared.action.Action.TheVariants as actions
use Rattle.log_actions.specs.declared.fault.LogFault.{LogFault}
use Rattle.log_actions.specs.Commit.{actions_of}
use Rattle.log_actions.specs.Whole.{IsMap, IsAmount, IsStamp, IsWhole, AreWhole}
use Rattle.log_state.specs.Newest.{actions_in, newest, action_on}
use Rattle.log_state.specs.Stamps.{stamp_in, stamp_from}
use Rattle.log_state.specs.Table.{Table, IsTableOf}
use Rattle.table_rules.specs.declared.rules.Level.{Level}
use Rattle.table_files.specs.Commits.{Commit, commit_of}
use Rattle.commit_plans.specs.declared.plan.CommitPlan.{CommitPlan}
use Rattle.commit_plans.specs.Plans.{next_stamp, actions_at, table_plan}
use Rattle.commit_plans.specs.Laws.{AreApart, AreWholeFiles}
use Rattle.log_laws.specs.Replay.{IsSaid}
use Rattle.log_laws.specs.Written.{Writes, AllChange, Reads, said_by, making_said, insert_behind, insert_said}

-- the commits of so many versions
abbrev pub commits_below : (ℕ → List Action) → ℕ → List (List Action)
commits_below says zero = []
commits_below says (suc v) = commits_below says v ++ says v ∷ []

-- the newest of the versions below one
abbrev pub version_below : ℕ → Option ℕ
version_below zero = None
version_below (suc v) = Some v

-- the table of the versions below one says what these do
abbrev pub VersionsAgree : Type 0
VersionsAgree = (says : ℕ → List Action) (said : ℕ → Commit) (v : ℕ) (t : Table) → ((k : ℕ) → k < v → said k ≡ commit_of (says k)) → IsTableOf (commits_below says v) t
    → (t.version ≡ version_below v) × IsSaid said t

-- the stamp of the table before a version
abbrev pub stamp_below : (ℕ → List Action) → ℕ → Option ℕ
stamp_below says v = stamp_from None (commits_below says v)

-- a stamp at a version: above those of all versions before, and at most one for each version above the greatest reading of the clock
pub record Rises (says : ℕ → List Action) (v stamp : ℕ) : Type 0 where
  pub most : stamp ≤ LAST_TIME + v
  pub above : (k s : ℕ) → k ≤ v → stamp_below says k ≡ Some s → s < stamp

-- a version's commit says the stamp that the version before and a reading of the clock give
pub record IsStamped (says : ℕ → List Action) (v : ℕ) : Type 0 where
  pub now : ℕ
  pub is : stamp_in (says v) ≡ Some (next_stamp (stamp_below says v) now)
  pub in_time : now ≤ LAST_TIME

abbrev pub StampsRise : Type 0
StampsRise =
    (says : ℕ → List Action) (top : ℕ) (facts : (k : ℕ) → k < top → IsStamped says k) (v : ℕ) (lt : v < top)
    → let stamp = next_stamp (stamp_below says v) (facts v lt).now in (stamp_below says (suc v) ≡ Some stamp) × Rises says v stamp

-- what the text of a version says, where it reads
abbrev pub or_nothing : Result (List Action) LogFault → List Action
or_nothing (Ok all) = all
or_nothing (Err f) = []

abbrev pub actions_by : (ℕ → List ℕ) → ℕ → List Action
actions_by texts v = or_nothing (actions_of (texts v))

-- the newest action on each path is whole, which adds or removes its file
abbrev pub NewestAreWhole : List (List Action) → Type 0
NewestAreWhole commits = (path : List ℕ) → IfSome (newest (action_on path) (actions_in commits)) IsWhole

-- Over what the versions below say a text for this version was written for a plan, at a reading of the clock, whether it came to stand or not. The plan is
-- whole where its stamp is one and what it takes of the tables below is whole
pub record IsPlanned (texts : ℕ → List ℕ) (v : ℕ) (text : List ℕ) : Type 0 where
  pub plan : CommitPlan
  pub now : ℕ
  pub writes : Writes text (actions_at plan now)
  pub last : plan.last ≡ stamp_below (actions_by texts) v
  pub in_time : now ≤ LAST_TIME
  pub whole : IsStamp (next_stamp plan.last now) → ((k : ℕ) → k ≤ v → NewestAreWhole (commits_below (actions_by texts) k)) → AreWhole [] (actions_at plan now)

-- each version's own text was
abbrev pub ArePlanned : (ℕ → List ℕ) → ℕ → Type 0
ArePlanned texts top = (k : ℕ) → k < top → IsPlanned texts k (texts k)

-- what holds of such a text then: it reads, and its stamp is above those before
pub record Fits (texts : ℕ → List ℕ) (v : ℕ) (text : List ℕ) (plan : CommitPlan) (now : ℕ) (said : Commit) : Type 0 where
  pub reads : Reads text plan now said
  pub rises : Rises (actions_by texts) v (next_stamp plan.last now)
  pub whole : AreWhole [] (actions_at plan now)

-- what holds of a version whose text it is
pub record HasRead (texts : ℕ → List ℕ) (v : ℕ) (plan : CommitPlan) (now : ℕ) (said : Commit) : Type 0 where
  pub fits : Fits texts v (texts v) plan now said
  pub says : actions_by texts v ≡ actions_at plan now
  pub stamp : stamp_below (actions_by texts) (suc v) ≡ Some (next_stamp plan.last now)
  pub newest : NewestAreWhole (commits_below (actions_by texts) (suc v))

-- each text that was planned over versions that were planned fits
abbrev pub EachPlanFits : Type 0
EachPlanFits =
    (texts : ℕ → List ℕ) (v : ℕ) → v < 2 ^ 60 → ArePlanned texts v → (text : List ℕ) (is : IsPlanned texts v text) → Fits texts v text is.plan is.now (said_by is.plan is.now)

-- texts of two plans for one version that are the same are of one statement
abbrev pub SameTextIsOwn : Type 0
SameTextIsOwn = (texts : ℕ → List ℕ) (v : ℕ) → v < 2 ^ 60 → ArePlanned texts v → (text : List ℕ) (one other : IsPlanned texts v text) → one.plan.id ≡ other.plan.id

-- each version reads, where all were planned
abbrev pub EachVersionReads : Type 0
EachVersionReads =
    (texts : ℕ → List ℕ) (top : ℕ) → top ≤ 2 ^ 60 → (facts : ArePlanned texts top) → (v : ℕ) (lt : v < top)
    → HasRead texts v (facts v lt).plan (facts v lt).now (said_by (facts v lt).plan (facts v lt).now)

-- a text was written for the making of a table
pub record IsMaking (text : List ℕ) : Type 0 where
  pub id : List ℕ
  pub start : ℕ
  pub level : Level
  pub schema : List ℕ
  pub partition : List (List ℕ)
  pub properties : List (Entry (List ℕ))
  pub now : ℕ
  pub amount : IsAmount start
  pub sorted : IsMap properties
  pub in_time : now ≤ LAST_TIME
  pub writes : Writes text (actions_at (table_plan id start level schema partition properties) now)

-- a version's text was written for an insert over a table that versions below left, with the stamp of the version before
pub record IsInsert (texts : ℕ → List ℕ) (v : ℕ) : Type 0 where
  pub read : ℕ
  pub table : Table
  pub id : List ℕ
  pub level : Level
  pub txn : Option Txn
  pub files : List AddFile
  pub now : ℕ
  pub below : read < v
  pub loaded : IsTableOf (commits_below (actions_by texts) (suc read)) table
  pub known : IfSome txn (λ t. IsWhole (actions.Txn t))
  pub whole : AreWholeFiles files
  pub apart : AreApart files
  pub changes : AllChange files
  pub in_time : now ≤ LAST_TIME
  pub writes : Writes (texts v) (actions_at (insert_behind (stamp_below (actions_by texts) v) table id level txn files) now)

-- a table is made, and rows are inserted from then on
abbrev pub IsMade : (ℕ → List ℕ) → ℕ → Type 0
IsMade texts zero = IsMaking (texts 0)
IsMade texts (suc v) = IsInsert texts (suc v)

abbrev pub plan_of : (texts : ℕ → List ℕ) (v : ℕ) → IsMade texts v → CommitPlan
plan_of texts zero m = table_plan m.id m.start m.level m.schema m.partition m.properties
plan_of texts (suc v) m = insert_behind (stamp_below (actions_by texts) (suc v)) m.table m.id m.level m.txn m.files

abbrev pub clock_of : (texts : ℕ → List ℕ) (v : ℕ) → IsMade texts v → ℕ
clock_of texts zero m = m.now
clock_of texts (suc v) m = m.now

abbrev pub said_of : (texts : ℕ → List ℕ) (v : ℕ) → IsMade texts v → Commit
said_of texts zero m = making_said m.id m.start m.level m.schema m.partition m.properties m.now
said_of texts (suc v) m = insert_said (stamp_below (actions_by texts) (suc v)) m.table m.id m.level m.txn m.files m.now

-- each such version reads
abbrev pub InsertsRead : Type 0
InsertsRead =
    (texts : ℕ → List ℕ) (top : ℕ) → top ≤ 2 ^ 60 → (facts : (k : ℕ) → k < top → IsMade texts k) → (v : ℕ) (lt : v < top)
    → HasRead texts v (plan_of texts v (facts v lt)) (clock_of texts v (facts v lt)) (said_of texts v (facts v lt))
