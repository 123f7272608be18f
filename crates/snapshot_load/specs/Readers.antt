-- What the reader of commits stands for.
use Rattle.std.specs.Prelude.{◌≡◌, ℕ, suc, Bool, true, false, List, Option, Some, None, nat_lt, if◌then◌else◌, Result, Err}
use Rattle.log_actions.specs.declared.fault.LogFault.{LogFault}
use Rattle.log_actions.specs.declared.fault.LogFaultKind.{LogFaultKind}
use Rattle.log_actions.specs.declared.fault.LogFaultKind.TheVariants as kinds
use Rattle.log_state.specs.Table.{next_version}
use Rattle.call_phases.specs.Views.{result_by}
use Rattle.call_phases.specs.declared.reader.Unread.{Unread}
use Rattle.call_phases.specs.declared.reader.Unread.TheVariants as unread
use Rattle.snapshot_load.specs.Commits as law
use Rattle.snapshot_load.specs.declared.commits.Commits.{Commits}

abbrev pub commits_of : Commits → law.Commits
commits_of c = record { at = next_version c.table.version; end = suc c.last.version; table = c.table }

-- the same reader at other commits up to the same end
abbrev pub with_commits : Commits → law.Commits → Commits
with_commits c k = record { alloc = c.alloc; last = c.last; table = k.table }

-- the version whose commit is wanted next
abbrev pub wanted_version : Commits → Option ℕ
wanted_version c = if nat_lt (next_version c.table.version) (suc c.last.version) then Some (next_version c.table.version) else None

abbrev pub wanted_commit : Commits → Option (List ℕ)
wanted_commit c = law.next_commit (commits_of c)

abbrev pub commits_left_of : Commits → ℕ
commits_left_of c = law.commits_left (commits_of c)

abbrev pub commits_after : Commits → List ℕ → Result Commits LogFault
commits_after c text = result_by (with_commits c) (law.apply_next (commits_of c) text)

-- whether memory was wanting
abbrev pub is_memory : LogFaultKind → Bool
is_memory kinds.Json = false
is_memory kinds.Shape = false
is_memory kinds.Twice = false
is_memory (kinds.Unsupported f) = false
is_memory kinds.NoMemory = true

-- the fault is that of the text, or memory was wanting
abbrev pub IsUnread : {A : Type 0} → Result A LogFault → Unread LogFault → Type 0
IsUnread r (unread.Bad f) = r ≡ Err f
IsUnread r unread.NoMemory = Unit {0}
