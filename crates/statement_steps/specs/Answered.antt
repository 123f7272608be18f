-- Which outcomes a statement may have by the entries that it made: the chain of its phases.
use Rattle.std.specs.Prelude.{◌≡◌, ℕ, ◌+◌, ◌^◌, ◌≤◌, nat_lt, true, false, List, [], ◌∷◌, ◌++◌, length, Option, Some, None, Ok, MatchBool, MatchResult}
use Rattle.std.specs.List.{All}
use Rattle.edge_api.specs.declared.call.Tag.{Tag}
use Rattle.edge_api.specs.declared.call.Listed.{Listed}
use Rattle.row_base.specs.declared.limits.TheConstants.{VERSION_LIMIT}
use Rattle.row_base.specs.declared.row.Datum.{Datum}
use Rattle.row_base.specs.declared.row.ScannedFile.{ScannedFile}
use Rattle.row_base.specs.Schema.{TableSchema}
use Rattle.row_base.specs.Sorting.{Sorts}
use Rattle.log_actions.specs.declared.action.AddFile.{AddFile}
use Rattle.log_actions.specs.declared.action.MetaData.{MetaData}
use Rattle.log_actions.specs.declared.fault.Feature.TheVariants.{Versions}
use Rattle.log_state.specs.Table.{Table}
use Rattle.schema_text.specs.Schema.{schema_of}
use Rattle.schema_text.specs.SchemaWritten.{schema_text}
use Rattle.predicates.specs.declared.pred.Pred.TheVariants.{Always}
use Rattle.table_rules.specs.Names.{log_prefix, statement_text}
use Rattle.table_rules.specs.Properties.{rules_of}
use Rattle.table_rules.specs.declared.rules.Rules.{Rules}
use Rattle.table_definition.specs.Definitions.{definition_of}
use Rattle.table_definition.specs.declared.definition.Definition.{Definition}
use Rattle.commit_plans.specs.Made.{made_metadata}
use Rattle.commit_plans.specs.Plans.{table_plan, insert_plan}
use Rattle.commit_plans.specs.Properties.{made_properties}
use Rattle.statement_types.specs.declared.statement.Statement.{Statement}
use Rattle.statement_types.specs.declared.statement.Statement.TheVariants as statement
use Rattle.statement_types.specs.declared.statement.TableSpec.{TableSpec}
use Rattle.statement_types.specs.declared.refusal.Refusal.TheVariants as refusal
use Rattle.statement_types.specs.declared.reply.Reply.{Reply}
use Rattle.statement_types.specs.declared.reply.Reply.TheVariants.{Created, Committed, Rows, Waited}
use Rattle.statement_types.specs.declared.reply.CheckpointOutcome.TheVariants.{NotDue}
use Rattle.statement_checks.specs.Rows.{rows_in}
use Rattle.statement_checks.specs.Tables.{table_in}
use Rattle.call_phases.specs.Phases.{Entries}
use Rattle.call_phases.specs.Requests.{ReadsClock, ListsNames, WaitsFor}
use Rattle.snapshot_load.specs.Listing.{newest}
use Rattle.snapshot_load.specs.Loads.{LoadsAll}
use Rattle.snapshot_load.specs.declared.loaded.Asked.TheVariants.{Newest}
use Rattle.snapshot_load.specs.declared.loaded.Loaded.{Loaded}
use Rattle.snapshot_load.specs.declared.fault.LoadFailed.{LoadFailed}
use Rattle.scan.specs.Scans.{ScansAll}
use Rattle.scan.specs.declared.scan.Scanned.{Scanned}
use Rattle.write_files.specs.Files.{adds_from, IsReadable}
use Rattle.write_files.specs.Phase.{WritesOut}
use Rattle.write_files.specs.Pieces.{pieces_of}
use Rattle.commit_attempts.specs.Attempts.{Terms, AtAttempt}
use Rattle.commit_attempts.specs.declared.fault.Landed.{Landed}
use Rattle.statement_steps.specs.declared.finish.Finish.{Finish}
use Rattle.statement_steps.specs.declared.statement.OverTable.{OverTable}
use Rattle.statement_steps.specs.declared.statement.OverTable.TheVariants as over
use Rattle.statement_steps.specs.declared.statement.LoadedStatement.{LoadedStatement}
use Rattle.statement_steps.specs.declared.statement.LoadedStatement.TheVariants as loaded
use Rattle.statement_steps.specs.Judging.{Commit, Bodies, Judges}
use Rattle.statement_steps.specs.Outcome.{refused, refusal_of_call, refusal_of_load, refusal_of_definition, refusal_of_statement, refusal_of_rows, refusal_of_scan, refusal_of_put, refusal_of_attempt, IsOpen, Replies, Ends, OrNoMemory, AtPhase}

-- the rows of files, one file after another
abbrev pub rows_of_files : List ScannedFile → List (List Datum)
rows_of_files [] = []
rows_of_files (f ∷ fs) = f.rows ++ rows_of_files fs

-- what is kept after a load: the table of the later version
abbrev pub kept_after : Option Table → Table → Table
kept_after None t = t
kept_after (Some kept) t = kept

-- the terms of an append to the version that was read, by the statement's start and the table's rules
abbrev pub append_terms : ℕ → Rules → ℕ → Terms
append_terms start rules read = record { start = start; retention = rules.retention; first = read + 1 }

-- .. and of a table's making
abbrev pub making_terms : ℕ → Rules → Terms
making_terms start rules = record { start = start; retention = rules.retention; first = 0 }

-- an append's commit, with these files
abbrev pub append_of : Tag → ℕ → Definition → Table → List AddFile → Commit
append_of tag start d t files = record { plan = insert_plan t (statement_text tag start) d.rules.level None files; makes_table = false }

-- the metadata of the table that a statement makes with this schema (PROTOCOL.md, "Change Metadata")
abbrev pub metadata_of : Tag → ℕ → TableSpec → TableSchema → MetaData
metadata_of tag start spec schema = made_metadata (statement_text tag start) start (schema_text schema.columns) spec.partition (made_properties spec.properties)

-- the commit that makes it
abbrev pub making_of : Tag → ℕ → TableSpec → TableSchema → Rules → Commit
making_of tag start spec schema rules = record {
  plan = table_plan (statement_text tag start) start rules.level (schema_text schema.columns) spec.partition (made_properties spec.properties);
  makes_table = true;
}

-- the reply of a commit that landed, by the version that was read
abbrev pub committed : ℕ → Landed → Reply
committed read l = Committed l.version read l.attempts NotDue

-- the text of a table's schema, with the names of its partition columns, says this schema again
abbrev pub SchemaReads : TableSpec → TableSchema → Type 0
SchemaReads spec schema = schema_of (schema_text schema.columns) spec.partition ≡ Ok schema

-- the files of new rows can be put: their parts are numbered by 32 bits, and none is too long to be read
pub record CanBePut (s : TableSchema) (rows : List (List Datum)) (tag : Tag) (start : ℕ) : Type 0 where
  pub few : length (pieces_of s rows) ≤ 2 ^ 32
  pub readable : All IsReadable (adds_from s tag start true 0 (pieces_of s rows))

-- a statement's tag, how many attempts it may make, and its outcome
module _ (tag : Tag) (limit : ℕ) (out : Option Finish) where
  -- the attempts of a commit
  abbrev pub AtCommit : Option Table → Terms → Commit → (Landed → Reply) → Entries → Type 0
  AtCommit kept terms commit landed es =
      AtAttempt Bodies Judges terms (λ c. IsOpen out kept) (λ c f rest. Ends out kept (refusal_of_attempt f) rest) (λ c l rest. Replies out kept (landed l) rest) limit 0 [] commit es

  -- the data files of an append are put, and the commit that adds them is attempted
  abbrev pub Appends : List (List Datum) → ℕ → ℕ → Definition → Table → Option Table → Entries → Type 0
  Appends rows start read d t kept es =
      CanBePut d.schema rows tag start
      × AtPhase out (WritesOut d.schema rows tag start 0 true) (λ f. refused kept (refusal_of_put f))
      (λ files. AtCommit kept (append_terms start d.rules read) (append_of tag start d t files) (committed read)) es

  -- an insert: its rows have to fit the table's columns
  abbrev pub Inserts : List (List Datum) → ℕ → ℕ → Definition → Table → Option Table → Entries → Type 0
  Inserts rows start read d t kept es =
      MatchResult (rows_in d.schema rows) (λ taken. Appends taken start read d t kept es) (λ f. Ends out kept (refusal_of_rows d.schema.columns f) es)

  -- the files of a select are got: their rows in order, unless memory is wanting
  abbrev pub AfterScan : ℕ → Option Table → Scanned → Entries → Type 0
  AfterScan read kept s es =
      OrNoMemory out kept (λ rest. (rows : List (List Datum)) × Sorts (rows_of_files s.files) rows × Replies out kept (Rows read rows (length s.files) s.live) rest) es

  -- a select: the live files are got
  abbrev pub Selects : ℕ → Definition → Table → Option Table → Entries → Type 0
  Selects read d t kept es = AtPhase out (ScansAll d.schema Always t) (λ f. refused kept (refusal_of_scan f)) (AfterScan read kept) es

  -- what the statement does with a table of this definition
  abbrev pub Does : LoadedStatement → ℕ → ℕ → Definition → Table → Option Table → Entries → Type 0
  Does (loaded.Insert rows) start read d t kept es = Inserts rows start read d t kept es
  Does loaded.Select start read d t kept es = Selects read d t kept es

  -- once the table is loaded: it has to be one that can be used
  abbrev pub WithTable : LoadedStatement → ℕ → ℕ → Table → Option Table → Entries → Type 0
  WithTable s start read t kept es =
      OrNoMemory out kept (λ rest. MatchResult (definition_of t.protocol t.meta) (λ d. Does s start read d t kept rest) (λ f. Ends out kept (refusal_of_definition read f) rest)) es

  abbrev pub AfterLoad : LoadedStatement → ℕ → ℕ → Loaded → Entries → Type 0
  AfterLoad s start read l es = WithTable s start read l.state (Some (kept_after l.kept l.state)) es

  -- a version is loaded
  abbrev pub LoadsVersion : LoadedStatement → ℕ → List Listed → Option Table → ℕ → Entries → Type 0
  LoadsVersion s start l kept read es = AtPhase out (LoadsAll Newest l kept) (λ (f : LoadFailed). refused f.kept (refusal_of_load f.fault)) (AfterLoad s start read) es

  -- the newest version is loaded
  abbrev pub Loads : LoadedStatement → ℕ → List Listed → Option Table → Option ℕ → Entries → Type 0
  Loads s start l kept None es = Ends out kept refusal.NoTable es
  Loads s start l kept (Some v) es = MatchBool (nat_lt v VERSION_LIMIT) (LoadsVersion s start l kept v es) (Ends out kept (refusal.Unsupported Versions) es)

  -- a table of this schema is made, if its properties ask for nothing that isn't supported
  abbrev pub MakesSchema : TableSpec → ℕ → Option Table → TableSchema → Entries → Type 0
  MakesSchema spec start kept schema es =
      MatchResult (rules_of (metadata_of tag start spec schema)) (λ rules. SchemaReads spec schema × AtCommit kept (making_terms start rules) (making_of tag start spec schema rules) (λ l. Created) es)
      (λ f. Ends out kept (refusal.Unsupported f) es)

  -- a table is made where no commit is listed
  abbrev pub Makes : TableSpec → ℕ → Option Table → Option ℕ → Entries → Type 0
  Makes spec start kept None es =
      OrNoMemory out kept (λ rest. MatchResult (table_in spec.columns spec.partition spec.properties) (λ schema. MakesSchema spec start kept schema rest) (λ f. Ends out kept (refusal_of_statement f) rest)) es
  Makes spec start kept (Some v) es = Ends out kept refusal.TableThere es

  -- once the log is listed
  abbrev pub AfterList : OverTable → Option Table → ℕ → List Listed → Entries → Type 0
  AfterList (over.Make spec) kept start l es = Makes spec start kept (newest l) es
  AfterList (over.Load s) kept start l es = Loads s start l kept (newest l) es

  -- once the clock is read: the log is listed
  abbrev pub AfterClock : OverTable → Option Table → ℕ → Entries → Type 0
  AfterClock s kept start es = AtPhase out (ListsNames log_prefix) (λ f. refused kept (refusal_of_call f)) (AfterList s kept start) es

  -- a statement over the table begins: the clock is read
  abbrev pub Begins : OverTable → Option Table → Entries → Type 0
  Begins s kept es = AtPhase out ReadsClock (λ f. refused kept (refusal_of_call f)) (AfterClock s kept) es

  -- time passes
  abbrev pub Waits : ℕ → Option Table → Entries → Type 0
  Waits time kept es = AtPhase out (WaitsFor time) (λ f. refused kept (refusal_of_call f)) (λ u. Replies out kept Waited) es

  -- by the statement
  abbrev pub AnsweredBy : Statement → Option Table → Entries → Type 0
  AnsweredBy (statement.Table spec) kept es = Begins (over.Make spec) kept es
  AnsweredBy (statement.Insert rows) kept es = Begins (over.Load (loaded.Insert rows)) kept es
  AnsweredBy statement.Select kept es = Begins (over.Load loaded.Select) kept es
  AnsweredBy (statement.Wait time) kept es = Waits time kept es

-- a statement under a tag, with so many attempts at most and this table kept, has these entries and this outcome
abbrev pub Answered : Tag → ℕ → Option Table → Statement → Entries → Option Finish → Type 0
Answered tag limit kept s es out = AnsweredBy tag limit out s kept es
