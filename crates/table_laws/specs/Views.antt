-- What a statement sees: the newest version of its moment, and so none older than its session has seen or committed before. And each name is put once.
-- IsLawful (Lawful) lists these laws.
-- The crate above cites each_run_is_lawful, and views_mean, which shows what the words mean by short journals.
use Rattle.std.specs.Prelude.{◌≡◌, ℕ, ◌<◌, ◌≤◌, ◌^◌, List, [], ◌∷◌, ◌++◌, Option, Some, None}
use Rattle.edge_api.specs.declared.call.Tag.{Tag}
use Rattle.edge_api.specs.declared.call.Call.TheVariants.{List as ListNames}
use Rattle.edge_api.specs.declared.call.Answer.TheVariants.{Names}
use Rattle.edge_api.specs.declared.call.Listed.{Listed}
use Rattle.edge_api.specs.Journal.{Moment, entries_of}
use Rattle.op_types.specs.declared.statement.Statement.{Statement}
use Rattle.table_rules.specs.Names.{log_prefix, commit_text}
use Rattle.statement_calls.specs.Listing.{newest}
use Rattle.actor_core.specs.Entries.{own}
use Rattle.table_changes.specs.Operations.{SameIfGiven}
use Rattle.table_laws.specs.History.{Put, history, put_under, rows_at, IsCommitted}
use Rattle.table_laws.specs.Runs.{version_read}
use Rattle.table_laws.specs.Folded.{folded}

-- the newest committed version, or that none is committed
abbrev pub IsNewest : List Put → Option ℕ → Type 0
IsNewest ps None = (v : ℕ) → v < 2 ^ 64 → put_under ps (commit_text v) ≡ None
IsNewest ps (Some v) = IsCommitted ps v × ((w : ℕ) → v < w → w < 2 ^ 64 → put_under ps (commit_text w) ≡ None)

-- a listing of the log shows the newest version that is committed at its moment
abbrev pub ListingIsNewest : List Moment → Type 0
ListingIsNewest moments =
    (before after : List Moment) (m : Moment) (listed : List Listed) → moments ≡ before ++ m ∷ after → m.entry.call ≡ ListNames log_prefix → m.entry.answer ≡ Names listed
    → IsNewest (history [] before) (newest listed)

-- a later statement of the same session
abbrev pub IsLater : Tag → Tag → Type 0
IsLater earlier later = (earlier.actor ≡ later.actor) × (earlier.statement < later.statement)

-- within a session the versions read never fall
abbrev pub ReadsNeverFall : List Moment → Type 0
ReadsNeverFall moments =
    (earlier later : Tag) (v w : ℕ) → IsLater earlier later → version_read (own earlier (entries_of moments)) ≡ Some v → version_read (own later (entries_of moments)) ≡ Some w → v ≤ w

-- and each is at least every version that the session has committed before
abbrev pub ReadsCoverCommits : List Moment → Type 0
ReadsCoverCommits moments =
    (p : Put) (later : Tag) (v w : ℕ) → v < 2 ^ 64 → put_under (history [] moments) (commit_text v) ≡ Some p → IsLater p.tag later → version_read (own later (entries_of moments)) ≡ Some w → v ≤ w

-- no put stands again under its name later
abbrev pub PutOnce : List Put → Type 0
PutOnce [] = Unit {0}
PutOnce (p ∷ ps) = (put_under ps p.name ≡ None) × PutOnce ps

-- each name is put once at most, that of a data file and that of a commit
abbrev pub NamesPutOnce : List Moment → Type 0
NamesPutOnce moments = PutOnce (history [] moments)

-- each version above 0 was committed by a statement of this session
abbrev pub IsOfSession : ℕ → List Moment → Type 0
IsOfSession actor moments = (v : ℕ) (p : Put) → 0 < v → v < 2 ^ 64 → put_under (history [] moments) (commit_text v) ≡ Some p → p.tag.actor ≡ actor

-- the versions of one session are what the operations give, one after another from no rows on, whatever rows they name
abbrev pub RowsOfOneSession : (Tag → Option Statement) → List Moment → Type 0
RowsOfOneSession script moments =
    (actor : ℕ) → IsOfSession actor moments → (v : ℕ) → v < 2 ^ 64 → IsCommitted (history [] moments) v
    → SameIfGiven (Some (rows_at (history [] moments) v)) (folded script (entries_of moments) (history [] moments) v)
