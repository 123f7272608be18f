-- The rows of a version as what the operations of all versions give, done one after another. So it is where no operation can miss a row: of one session,
-- at the stricter level, and of operations that name no rows.
-- The crate above cites each_run_is_lawful alone.
use Rattle.std.specs.Prelude.{◌≡◌, ◌⊎◌, ℕ, zero, suc, ◌<◌, ◌^◌, false, List, [], Option, Some, None, option_and_then}
use Rattle.edge_api.specs.declared.call.Tag.{Tag}
use Rattle.edge_api.specs.Journal.{Moment, entries_of}
use Rattle.op_types.specs.declared.statement.Statement.{Statement}
use Rattle.table_rules.specs.Names.{commit_text}
use Rattle.call_phases.specs.Phases.{Entries}
use Rattle.actor_core.specs.Entries.{own}
use Rattle.table_changes.specs.Rows.{Row}
use Rattle.table_changes.specs.Table.{Serializable}
use Rattle.table_changes.specs.Operations.{Operation, SameIfGiven, operated}
use Rattle.table_laws.specs.Operations.{Scope, passes}
use Rattle.table_laws.specs.History.{Put, history, put_under, level_for, rows_at, IsCommitted}
use Rattle.table_laws.specs.Runs.{version_read}
use Rattle.table_laws.specs.Laws.{operation_at}

-- what an operation gives, where it is there and defined
abbrev pub done_by : Option (Operation Scope) → Option (List Row) → Option (List Row)
done_by None rows = None
done_by (Some op) rows = option_and_then (operated passes op) rows

-- no rows at first, then version by version the operation of the statement that committed it
abbrev pub folded : (Tag → Option Statement) → Entries → List Put → ℕ → Option (List Row)
folded script journal ps zero = Some []
folded script journal ps (suc v) = done_by (operation_at script journal ps (suc v)) (folded script journal ps v)

-- the operation of version v + 1 can miss no row: it read the version before, or is checked at the stricter level, or names no rows
abbrev pub MissesNothing : List Put → Operation Scope → ℕ → ℕ → Type 0
MissesNothing ps op read v = (read ≡ v) ⊎ ((level_for ps op read ≡ Serializable) ⊎ ((x : Row) → passes op.scope x ≡ false))

-- none of the operations up to a version can
abbrev pub NoneMisses : (Tag → Option Statement) → Entries → List Put → ℕ → Type 0
NoneMisses script journal ps version =
    (v : ℕ) → v < version → (by : Put) → put_under ps (commit_text (suc v)) ≡ Some by → (read : ℕ) → version_read (own by.tag journal) ≡ Some read
    → (op : Operation Scope) → operation_at script journal ps (suc v) ≡ Some op → MissesNothing ps op read v

-- each version up to which none of them can miss a row has those rows
abbrev pub RowsAreFolded : (Tag → Option Statement) → List Moment → Type 0
RowsAreFolded script moments =
    (v : ℕ) → v < 2 ^ 64 → IsCommitted (history [] moments) v → NoneMisses script (entries_of moments) (history [] moments) v
    → SameIfGiven (Some (rows_at (history [] moments) v)) (folded script (entries_of moments) (history [] moments) v)
