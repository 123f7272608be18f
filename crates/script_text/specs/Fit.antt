-- What holds of every script that some bytes spell.
use Rattle.std.specs.Prelude.{◌≡◌, ℕ, ◌<◌, ◌≤◌, true, List, length, All, FitsSigned}
use Rattle.std.specs.Int.{w64}
use Rattle.row_base.specs.declared.limits.TheConstants.{MAX_ATTEMPTS, MAX_STATEMENT_ROWS, MAX_STATEMENTS, MAX_SCHEDULE_ITEMS, MAX_SESSIONS}
use Rattle.row_base.specs.declared.row.Datum.{Datum as ADatum}
use Rattle.row_base.specs.declared.row.Datum.TheVariants as datum
use Rattle.op_types.specs.declared.statement.Statement.{Statement as AStatement}
use Rattle.op_types.specs.declared.statement.Statement.TheVariants as statement
use Rattle.script_text.specs.declared.script.Script.{Script}
use Rattle.script_text.specs.declared.script.SessionScript.{SessionScript}
use Rattle.script_text.specs.declared.script.Header.{Header as AHeader}
use Rattle.script_text.specs.Places.{column_count, are_columns, table_of}

-- a long number, and not null
abbrev pub IsLong : ADatum → Type 0
IsLong (datum.Long n) = FitsSigned w64 n
IsLong datum.Null = ⊥
IsLong (datum.Integer n) = ⊥
IsLong (datum.Boolean b) = ⊥
IsLong (datum.Text t) = ⊥
IsLong (datum.Date d) = ⊥

-- at most MAX_STATEMENT_ROWS rows, each a long number for each of so many columns
pub record AreFitRows (columns : ℕ) (rows : List (List ADatum)) : Type 0 where
  pub count : length rows ≤ MAX_STATEMENT_ROWS
  pub lengths : All (λ r. length r ≡ columns) rows
  pub longs : All (All IsLong) rows

-- a statement over a table of so many columns
abbrev pub IsFitStatement : ℕ → AStatement → Type 0
IsFitStatement columns (statement.Insert rows) = AreFitRows columns rows
IsFitStatement columns statement.Select = Unit {0}
IsFitStatement columns (statement.Table spec) = ⊥

-- at most MAX_STATEMENTS statements over such a table
pub record IsFitSession (columns : ℕ) (session : SessionScript) : Type 0 where
  pub count : length session.statements ≤ MAX_STATEMENTS
  pub each : All (IsFitStatement columns) session.statements

-- the table has 1 to MAX_COLUMNS columns of different names, all long and not null
pub record IsFitHeader (h : AHeader) : Type 0 where
  pub names : List (List ℕ)
  pub table : h ≡ table_of names
  pub some : 1 ≤ length names
  pub distinct : are_columns names ≡ true

-- 1 to MAX_ATTEMPTS puts, at most MAX_SESSIONS sessions, and at most MAX_SCHEDULE_ITEMS items, each of one of the sessions
pub record IsFit (s : Script) : Type 0 where
  pub least : 1 ≤ s.attempts
  pub most : s.attempts ≤ MAX_ATTEMPTS
  pub header : IsFitHeader s.header
  pub sessions : length s.sessions ≤ MAX_SESSIONS
  pub each : All (IsFitSession (column_count s.header)) s.sessions
  pub count : length s.items ≤ MAX_SCHEDULE_ITEMS
  pub items : All (λ i. (0 < i.actor) × (i.actor ≤ length s.sessions)) s.items
