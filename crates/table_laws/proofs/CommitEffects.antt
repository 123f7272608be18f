-- What a statement's operation does to the files of a table, and what is known of it before its commit is put.
use Rattle.std.specs.Prelude.{◌≡◌, ℕ, Bool, not, List, [], Option, None, Some, if◌then◌else◌}
use Rattle.edge_api.specs.declared.call.Tag.{Tag}
use Rattle.table_rules.specs.Names.{data_text}
use Rattle.snapshot_replay.specs.Table.{Commit as LogCommit}
use Rattle.statement_calls.specs.Texts.{read_commit}
use Rattle.table_changes.specs.Rows.{Row}
use Rattle.table_changes.specs.Table.{File, MetaData, Commit, Level, Serializable, level_of, lines_of}
use Rattle.table_changes.specs.Conflicts.{Clash, is_literal, first_clash}
use Rattle.table_changes.specs.Operations.{Operation, taken_files, reads_of}
use Rattle.table_changes.specs.Laws.{AllNew}
use Rattle.table_changes.proofs.Files.{Once}
use Rattle.table_laws.specs.Commits.{IsWholeFile, file_of, info_of, changes_of}
use Rattle.table_laws.specs.Laws.{AllAre}
use Rattle.table_laws.specs.Operations.{Scope, passes, may}

-- a data file of a statement that started then, by its part's number
abbrev pub new_file : Tag → ℕ → ℕ → File
new_file tag start part = file_of (record { path = data_text tag start part; stats = [] })

-- What a statement commits over the version that it read, but for the clock: the files that it takes out and its new ones, whether it calls itself a blind
-- append, and whether it changes rows. A file is the same whichever line names it, so whether rows change stands beside the files
pub record Plan : Type 0 where
  pub tag : Tag
  pub start : ℕ
  pub read : ℕ
  pub removed : List File
  pub added : List File
  pub blind : Bool
  pub changes : Bool

-- the plan of an operation, by the files of the version that was read, the rows of those that were got and the new files
abbrev pub plan_of : Tag → ℕ → ℕ → Operation Scope → (File → List Row) → List File → List File → Plan
plan_of tag start read op view fs added = record { tag = tag; start = start; read = read; removed = taken_files view op fs; added = added; blind = is_literal op.kind; changes = not op.moves }

-- a commit of these files
abbrev pub said : Bool → Bool → List File → List File → Commit
said blind changes removed added = record { info = Some (info_of blind); protocol = None; meta = None; txns = []; lines = lines_of 0 changes removed added }

-- what a plan's commit says
abbrev pub said_by : Plan → Commit
said_by plan = said plan.blind plan.changes plan.removed plan.added

-- the commit of an operation, whoever makes it
abbrev pub effect_of : Operation Scope → (File → List Row) → List File → List File → Commit
effect_of op view fs added = said (is_literal op.kind) (not op.moves) (taken_files view op fs) added

-- its files are whole, and no path is named twice
pub record IsWhole (plan : Plan) : Type 0 where
  pub removed : AllAre IsWholeFile plan.removed
  pub added : AllAre IsWholeFile plan.added
  pub once : Once plan.removed
  pub new : AllNew plan.added plan.removed

-- the text of a version's commit says this
abbrev pub Says : ℕ → List ℕ → Commit → Type 0
Says version text said = (t : LogCommit) × (read_commit version text ≡ Some t) × (changes_of t ≡ said)

-- The text of a version's commit was written for a plan: where the plan is whole, the text says it. That it is whole is never known by the statement alone;
-- it follows from all commits below (Serial)
pub record Writes (version : ℕ) (text : List ℕ) (plan : Plan) : Type 0 where
  pub back : IsWhole plan → Says version text (said_by plan)

-- the level at which an operation over a table of this metadata is checked
abbrev pub level_in : Operation Scope → Option MetaData → Level
level_in op meta = if op.strict then Serializable else level_of meta

-- the first clash of an operation with a winner
abbrev pub judge_of : Option MetaData → Operation Scope → (File → List Row) → List File → LogCommit → Option Clash
judge_of meta op view fs t = first_clash (reads_of passes may (level_in op meta) None view op fs) (changes_of t)
