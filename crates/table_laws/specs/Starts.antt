-- When puts land: none before its statement has started, and none above the version that a statement reads before this one has.
-- IsLawful (Lawful) lists these laws for each moment of a journal, and the laws of retention will stand on them.
-- The crate above cites each_run_is_lawful, and views_mean, which shows what the words mean by short journals.
use Rattle.std.specs.Prelude.{◌≡◌, ℕ, ◌<◌, ◌≤◌, ◌^◌, List, [], ◌++◌, Some}
use Rattle.edge_api.specs.declared.call.Tag.{Tag}
use Rattle.edge_api.specs.Journal.{Moment, entries_of}
use Rattle.table_rules.specs.Names.{commit_text}
use Rattle.actor_core.specs.Entries.{own}
use Rattle.table_laws.specs.History.{Put, history, put_under}
use Rattle.table_laws.specs.Runs.{version_read, started_at}

-- a law holds of the moments so far, whatever follows
abbrev pub AtEachMoment : (List Moment → Type 0) → List Moment → Type 0
AtEachMoment Holds moments = (before after : List Moment) → moments ≡ before ++ after → Holds before

-- each put's statement has a start, and the put is no earlier
abbrev pub PutsFollowStarts : List Moment → Type 0
PutsFollowStarts moments =
    (name : List ℕ) (p : Put) → put_under (history [] moments) name ≡ Some p → (start : ℕ) × (started_at (own p.tag (entries_of moments)) ≡ Some start) × (start ≤ p.at)

-- what is committed above the version that a statement reads lands no earlier than the statement's start
abbrev pub NewerLandLater : List Moment → Type 0
NewerLandLater moments =
    (tag : Tag) (read start v : ℕ) (p : Put) → version_read (own tag (entries_of moments)) ≡ Some read → started_at (own tag (entries_of moments)) ≡ Some start
    → read < v → v < 2 ^ 64 → put_under (history [] moments) (commit_text v) ≡ Some p → start ≤ p.at
