-- The commits that a load gets, one after another.
use Rattle.std.specs.Prelude.{ℕ, suc, ◌-◌, nat_lt, nat_le, Bool, true, if◌then◌else◌, List, [], Option, Some, None, Result, Ok, Err}
use Rattle.log_actions.specs.Commit.{actions_of}
use Rattle.log_actions.specs.declared.action.Action.{Action}
use Rattle.log_actions.specs.declared.fault.LogFault.{LogFault}
use Rattle.log_state.specs.Table.{Table, applied, next_version}
use Rattle.table_rules.specs.Names.{commit_text}

-- the table before version 0
abbrev pub no_table : Table
no_table = record { version = None; stamp = None; protocol = None; meta = None; txns = []; actions = [] }

-- the commits from a version up to an end, which isn't among them, and the table before them
pub record Commits : Type 0 where
  pub at : ℕ
  pub end : ℕ
  pub table : Table

-- the name of the next commit, if there is one
abbrev pub next_commit : Commits → Option (List ℕ)
next_commit c = if nat_lt c.at c.end then Some (commit_text c.at) else None

-- how many there are
abbrev pub commits_left : Commits → ℕ
commits_left c = c.end - c.at

-- the commits after the first one, which says these actions
abbrev pub behind : Commits → Result (List Action) LogFault → Result Commits LogFault
behind c (Ok actions) = Ok (record { at = suc c.at; end = c.end; table = applied c.table c.at actions })
behind c (Err f) = Err f

-- the first commit, whose text was got, is applied to the table
abbrev pub apply_next : Commits → List ℕ → Result Commits LogFault
apply_next c text = behind c (actions_of text)

-- where a load of a version begins, and the kept table, where it doesn't begin with it
pub record Base : Type 0 where
  pub commits : Commits
  pub spare : Option Table

-- all commits of a version, from the first one on
abbrev pub from_first : Option Table → ℕ → Base
from_first spare version = record { commits = record { at = 0; end = suc version; table = no_table }; spare = spare }

-- the commits behind a table
abbrev pub from_table : Table → ℕ → Base
from_table t version = record { commits = record { at = next_version t.version; end = suc version; table = t }; spare = None }

-- whether a table is of this version or of an earlier one
abbrev pub is_up_to : ℕ → Option ℕ → Bool
is_up_to version None = true
is_up_to version (Some of_table) = nat_le of_table version

-- a load begins with the kept table, unless that is of a later version
abbrev pub base_of : Option Table → ℕ → Base
base_of None version = from_first None version
base_of (Some t) version = if is_up_to version t.version then from_table t version else from_first (Some t) version
