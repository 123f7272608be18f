-- The versions of a table, by the puts that took effect in a journal: which are committed, and their metadata, live files and rows. The law (Laws) speaks
-- of a journal by these words alone.
-- The crate above cites each_run_is_lawful alone.
use Rattle.std.specs.Prelude.{ℕ, Bool, if◌then◌else◌, List, [], ◌∷◌, ◌++◌, Option, Some, None, IsSome, option_and_then}
use Rattle.std.specs.Str.{bytes_eq}
use Rattle.edge_api.specs.declared.call.Tag.{Tag}
use Rattle.edge_api.specs.declared.call.Call.{Call}
use Rattle.edge_api.specs.declared.call.Call.TheVariants.{Get, PutNew, Put as Replace, List as ListNames, Delete, Now, Wait}
use Rattle.edge_api.specs.declared.call.Answer.{Answer}
use Rattle.edge_api.specs.declared.call.Answer.TheVariants.{Fault}
use Rattle.edge_api.specs.declared.call.Object.{Object}
use Rattle.edge_api.specs.Journal.{Objects, Moment, after_moment, object_at}
use Rattle.row_base.specs.Schema.{TableSchema}
use Rattle.table_rules.specs.Names.{commit_text}
use Rattle.snapshot_replay.specs.Table.{Commit as LogCommit}
use Rattle.statement_calls.specs.Texts.{read_commit, read_file}
use Rattle.table_changes.specs.Rows.{Row}
use Rattle.table_changes.specs.Table.{File, MetaData, Commit, View, Level, Serializable, live_by, meta_by, level_of, rows_in}
use Rattle.table_changes.specs.Operations.{Operation}
use Rattle.table_files.specs.Commits.{nothing_said}
use Rattle.table_laws.specs.Commits.{changes_of, schema_of}

-- a put of a free name that took effect, with the clock at it
pub record Put : Type 0 where
  pub tag : Tag
  pub name : List ℕ
  pub body : List ℕ
  pub at : ℕ

-- a put, where its name is free
abbrev pub put_if_free : Option Object → Put → List Put
put_if_free None p = p ∷ []
put_if_free (Some there) p = []

-- what a call puts under a free name if it takes effect
abbrev pub puts_of : Objects → Tag → ℕ → Call → List Put
puts_of os tag clock (Get name) = []
puts_of os tag clock (PutNew name body) = put_if_free (object_at os name) (record { tag = tag; name = name; body = body; at = clock })
puts_of os tag clock (Replace name body) = []
puts_of os tag clock (ListNames prefix) = []
puts_of os tag clock (Delete name) = []
puts_of os tag clock Now = []
puts_of os tag clock (Wait time) = []

-- a call that was answered by a fault took effect or didn't
abbrev pub if_done : Answer → Bool → List Put → List Put
if_done Fault took_effect ps = if took_effect then ps else []
if_done answer took_effect ps = ps

-- what a moment puts
abbrev pub puts_at : Objects → Moment → List Put
puts_at os m = if_done m.entry.answer m.took_effect (puts_of os m.entry.tag m.clock m.entry.call)

-- the puts that took effect, in order
abbrev pub history : Objects → List Moment → List Put
history os [] = []
history os (m ∷ ms) = puts_at os m ++ history (after_moment os m) ms

-- the put under a name. Its body counts though the object may be gone
abbrev pub put_under : List Put → List ℕ → Option Put
put_under [] name = None
put_under (p ∷ ps) name = if bytes_eq p.name name then Some p else put_under ps name

-- the body of a put
abbrev pub body_of : Option Put → Option (List ℕ)
body_of None = None
body_of (Some p) = Some p.body

-- no items, where there is no list
abbrev pub or_none : {A : Type 0} → Option (List A) → List A
or_none None = []
or_none (Some xs) = xs

-- what a commit says, where it reads; else nothing
abbrev pub or_nothing : Option LogCommit → Commit
or_nothing None = nothing_said
or_nothing (Some t) = changes_of t

-- what the text put as a version's commit says
abbrev pub commit_at : List Put → ℕ → Commit
commit_at ps version = or_nothing (option_and_then (read_commit version) (body_of (put_under ps (commit_text version))))

-- the live files of a version, its metadata and its schema
abbrev pub live_at : List Put → ℕ → List File
live_at ps version = live_by (commit_at ps) version

abbrev pub meta_at : List Put → ℕ → Option MetaData
meta_at ps version = meta_by (commit_at ps) version

abbrev pub schema_at : List Put → ℕ → Option TableSchema
schema_at ps version = schema_of (meta_at ps version)

-- the level at which an operation that read a version is checked: the table's at that version, or the stricter one
abbrev pub level_for : {Scope : Type 0} → List Put → Operation Scope → ℕ → Level
level_for ps op version = if op.strict then Serializable else level_of (meta_at ps version)

-- the rows of a file: those of the body put under its name. The interim text is read without the table's metadata
abbrev pub rows_of : List Put → Option MetaData → File → List Row
rows_of ps meta a = or_none (option_and_then read_file (body_of (put_under ps a.name)))

-- how a table is seen by its metadata
abbrev pub view_of : List Put → View
view_of ps = record { schema = schema_of; rows = rows_of ps }

-- the rows of a version: those of its live files, as its metadata has them
abbrev pub rows_at : List Put → ℕ → List Row
rows_at ps version = rows_in (rows_of ps (meta_at ps version)) (live_at ps version)

-- the version's commit was put
abbrev pub IsCommitted : List Put → ℕ → Type 0
IsCommitted ps version = IsSome (put_under ps (commit_text version))
