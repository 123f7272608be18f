-- What a statement comes to: its reply, and the table that its session keeps for the next one. There is none while it is open.
use Rattle.std.specs.Prelude.{◌≡◌, ◌⊎◌, ℕ, List, [], Option, Some, None, slice_get}
use Rattle.row_base.specs.declared.schema.Column.{Column}
use Rattle.row_base.specs.declared.schema.RowFault.{RowFault}
use Rattle.row_base.specs.declared.schema.RowFault.TheVariants as of_row
use Rattle.log_state.specs.Table.{Table}
use Rattle.log_actions.specs.declared.fault.Feature.TheVariants as feature
use Rattle.log_actions.specs.declared.fault.LogFault.{LogFault}
use Rattle.parquet_meta.specs.declared.fault.FileFault.{FileFault}
use Rattle.parquet_meta.specs.declared.fault.FileFault.TheVariants as of_file
use Rattle.predicates.specs.declared.fault.BindFault.{BindFault}
use Rattle.predicates.specs.declared.fault.BindFault.TheVariants as of_statement
use Rattle.table_rules.specs.Names.{commit_text}
use Rattle.statement_types.specs.declared.refusal.Refusal.{Refusal}
use Rattle.statement_types.specs.declared.refusal.Refusal.TheVariants as refusal
use Rattle.statement_types.specs.declared.refusal.ObjectFault.{ObjectFault}
use Rattle.statement_types.specs.declared.refusal.ObjectFault.TheVariants as object
use Rattle.statement_types.specs.declared.refusal.RowWrong.{RowWrong}
use Rattle.statement_types.specs.declared.refusal.RowWrong.TheVariants as wrong
use Rattle.statement_types.specs.declared.refusal.Clash.{Clash}
use Rattle.statement_types.specs.declared.reply.Reply.{Reply}
use Rattle.statement_types.specs.declared.reply.Reply.TheVariants.{Refused}
use Rattle.statement_checks.specs.declared.fault.RowsFault.{RowsFault}
use Rattle.statement_checks.specs.declared.fault.RowsFault.TheVariants as of_rows
use Rattle.table_definition.specs.declared.fault.DefinitionFault.{DefinitionFault}
use Rattle.table_definition.specs.declared.fault.DefinitionFault.TheVariants as of_definition
use Rattle.call_phases.specs.Phases.{Entries}
use Rattle.call_phases.specs.Ending.{Ending}
use Rattle.call_phases.specs.Endings.{Then}
use Rattle.call_phases.specs.declared.fault.CallFault.{CallFault}
use Rattle.call_phases.specs.declared.fault.CallFault.TheVariants as of_call
use Rattle.call_phases.specs.declared.puts.PutFault.{PutFault}
use Rattle.call_phases.specs.declared.puts.PutFault.TheVariants as of_put
use Rattle.snapshot_load.specs.declared.fault.LoadFault.{LoadFault}
use Rattle.snapshot_load.specs.declared.fault.LoadFault.TheVariants as of_load
use Rattle.scan.specs.declared.fault.ScanBad.{ScanBad}
use Rattle.scan.specs.declared.fault.ScanBad.TheVariants as of_bad
use Rattle.scan.specs.declared.fault.ScanFault.{ScanFault}
use Rattle.scan.specs.declared.fault.ScanFault.TheVariants as of_scan
use Rattle.commit_attempts.specs.declared.fault.AttemptFault.{AttemptFault}
use Rattle.commit_attempts.specs.declared.fault.AttemptFault.TheVariants as of_attempt
use Rattle.commit_attempts.specs.declared.fault.WinnerFault.{WinnerFault}
use Rattle.commit_attempts.specs.declared.fault.WinnerFault.TheVariants as of_winner
use Rattle.statement_steps.specs.declared.finish.Finish.{Finish}

-- ---- the refusal after a fault of a phase or of a check

-- a reading of the clock, a listing or a wait
abbrev pub refusal_of_call : CallFault → Refusal
refusal_of_call (of_call.Fault call) = refusal.Fault call
refusal_of_call of_call.NoMemory = refusal.NoMemory

-- a line of a commit is wrong
abbrev pub line_fault : LogFault → ObjectFault
line_fault f = object.Line f.line f.kind

-- a load
abbrev pub refusal_of_load : LoadFault → Refusal
refusal_of_load of_load.NoTable = refusal.NoTable
refusal_of_load (of_load.LogGone name) = refusal.LogGone name
refusal_of_load (of_load.BadObject name fault) = refusal.BadObject name (line_fault fault)
refusal_of_load (of_load.Unsupported feature) = refusal.Unsupported feature
refusal_of_load (of_load.Fault call) = refusal.Fault call
refusal_of_load of_load.NoMemory = refusal.NoMemory

-- what a table of this version is
abbrev pub refusal_of_definition : ℕ → DefinitionFault → Refusal
refusal_of_definition version of_definition.Table = refusal.BadObject (commit_text version) object.Table
refusal_of_definition version (of_definition.Unsupported feature) = refusal.Unsupported feature
refusal_of_definition version of_definition.NoMemory = refusal.NoMemory

-- a name, a kind, a count or a property of a statement
abbrev pub refusal_of_statement : BindFault → Refusal
refusal_of_statement (of_statement.Column name) = refusal.BadStatement (of_statement.Column name)
refusal_of_statement (of_statement.Kind name) = refusal.BadStatement (of_statement.Kind name)
refusal_of_statement (of_statement.Twice name) = refusal.BadStatement (of_statement.Twice name)
refusal_of_statement of_statement.Count = refusal.BadStatement of_statement.Count
refusal_of_statement (of_statement.Property key) = refusal.BadStatement (of_statement.Property key)
refusal_of_statement (of_statement.Fixed key) = refusal.BadStatement (of_statement.Fixed key)
refusal_of_statement of_statement.NoMemory = refusal.NoMemory

-- the name of the column at a place
abbrev pub name_in : Option Column → List ℕ
name_in None = []
name_in (Some c) = c.name

abbrev pub name_at : List Column → ℕ → List ℕ
name_at columns place = name_in (slice_get columns place)

-- a row that doesn't fit these columns
abbrev pub wrong_of : List Column → RowFault → RowWrong
wrong_of columns of_row.Count = wrong.Count
wrong_of columns (of_row.Kind column) = wrong.Kind (name_at columns column)
wrong_of columns (of_row.Null column) = wrong.Null (name_at columns column)
wrong_of columns (of_row.EmptyPartition column) = wrong.EmptyPartition (name_at columns column)

abbrev pub refusal_of_rows : List Column → RowsFault → Refusal
refusal_of_rows columns (of_rows.Row row f) = refusal.Row row (wrong_of columns f)
refusal_of_rows columns of_rows.NoMemory = refusal.NoMemory

-- the bytes of a data file: what isn't supported is named, else the fault
abbrev pub refusal_of_file : List ℕ → FileFault → Refusal
refusal_of_file name of_file.Short = refusal.BadObject name object.Short
refusal_of_file name of_file.Magic = refusal.BadObject name object.Magic
refusal_of_file name of_file.Footer = refusal.BadObject name object.Footer
refusal_of_file name (of_file.Thrift at) = refusal.BadObject name (object.Thrift at)
refusal_of_file name (of_file.Shape column) = refusal.BadObject name (object.Shape column)
refusal_of_file name (of_file.Page at) = refusal.BadObject name (object.Page at)
refusal_of_file name (of_file.Codec codec) = refusal.Unsupported (feature.Codec codec)
refusal_of_file name (of_file.Encoding encoding) = refusal.Unsupported (feature.Encoding encoding)
refusal_of_file name (of_file.PageKind kind) = refusal.Unsupported (feature.PageKind kind)
refusal_of_file name (of_file.Physical column) = refusal.Unsupported (feature.ColumnType column)
refusal_of_file name of_file.Nested = refusal.Unsupported feature.NestedColumns
refusal_of_file name of_file.NoMemory = refusal.NoMemory

-- a live file
abbrev pub refusal_of_bad : List ℕ → ScanBad → Refusal
refusal_of_bad name (of_bad.File f) = refusal_of_file name f
refusal_of_bad name (of_bad.Value column) = refusal.BadObject name (object.Value column)

-- a scan
abbrev pub refusal_of_scan : ScanFault → Refusal
refusal_of_scan (of_scan.FileGone name) = refusal.FileGone name
refusal_of_scan (of_scan.BadObject name bad) = refusal_of_bad name bad
refusal_of_scan (of_scan.Unsupported feature) = refusal.Unsupported feature
refusal_of_scan (of_scan.Fault call) = refusal.Fault call
refusal_of_scan of_scan.NoMemory = refusal.NoMemory

-- the puts of data files
abbrev pub refusal_of_put : PutFault → Refusal
refusal_of_put (of_put.Fault call) = refusal.Fault call
refusal_of_put (of_put.NameTaken name) = refusal.NameTaken name
refusal_of_put of_put.NoMemory = refusal.NoMemory

-- a winner without a reading
abbrev pub winner_fault : WinnerFault → ObjectFault
winner_fault (of_winner.Log f) = line_fault f
winner_fault (of_winner.Value name) = object.Value name

-- the attempts of the commit
abbrev pub refusal_of_attempt : AttemptFault Clash → Refusal
refusal_of_attempt (of_attempt.Conflict winner c) = refusal.Conflict winner c
refusal_of_attempt (of_attempt.TooManyAttempts lost) = refusal.TooManyAttempts lost
refusal_of_attempt (of_attempt.Outlasted start now) = refusal.Outlasted start now
refusal_of_attempt (of_attempt.BadObject name f) = refusal.BadObject name (winner_fault f)
refusal_of_attempt (of_attempt.Unsupported feature) = refusal.Unsupported feature
refusal_of_attempt (of_attempt.Fault call) = refusal.Fault call
refusal_of_attempt (of_attempt.OutcomeUnknown version) = refusal.OutcomeUnknown version
refusal_of_attempt of_attempt.NoMemory = refusal.NoMemory
refusal_of_attempt (of_attempt.LogGone name) = refusal.LogGone name
refusal_of_attempt (of_attempt.TooLarge bytes) = refusal.TooLarge bytes

-- ---- what it comes to

-- it is refused, and this is kept
abbrev pub refused : Option Table → Refusal → Finish
refused kept r = record { reply = Refused r; kept = kept }

module _ (out : Option Finish) where
  -- the statement waits for a call, or memory was wanting for it, and this is kept
  abbrev pub IsOpen : Option Table → Type 0
  IsOpen kept = (out ≡ None) ⊎ (out ≡ Some (refused kept refusal.NoMemory))

  -- it has its reply, this is kept, and nothing follows
  abbrev pub Replies : Option Table → Reply → Entries → Type 0
  Replies kept reply es = (es ≡ []) × (out ≡ Some (record { reply = reply; kept = kept }))

  -- it is refused, this is kept, and nothing follows
  abbrev pub Ends : Option Table → Refusal → Entries → Type 0
  Ends kept r es = Replies kept (Refused r) es

  -- this comes, unless memory is wanting for it
  abbrev pub OrNoMemory : Option Table → (Entries → Type 0) → Entries → Type 0
  OrNoMemory kept next es = Ends kept refusal.NoMemory es ⊎ next es

  -- a phase, and what follows its result: the statement is open while the phase is, and comes to this after its fault
  abbrev pub AtPhase : {F X : Type 0} → (Entries → Ending F X → Type 0) → (F → Finish) → (X → Entries → Type 0) → Entries → Type 0
  AtPhase phase finish next es = Then phase (out ≡ None) (λ f. out ≡ Some (finish f)) next es
