-- What holds of every script that some bytes spell.
use Rattle.std.specs.Prelude.{◌≡◌, ◌<◌, ◌≤◌, true, List, length, All}
use Rattle.row_base.specs.declared.limits.TheConstants.{MAX_ATTEMPTS, MAX_COLUMNS, MAX_STATEMENT_ROWS, MAX_STATEMENTS, MAX_SCHEDULE_ITEMS, MAX_SESSIONS, MAX_TEXT_BYTES, MAX_WAIT}
use Rattle.row_base.specs.declared.row.Datum.{Datum as ADatum}
use Rattle.schema_text.specs.PartitionWritten.{HasText}
use Rattle.statement_types.specs.Literals.{AreLiterals}
use Rattle.statement_types.specs.declared.statement.TableSpec.{TableSpec}
use Rattle.statement_types.specs.declared.statement.Statement.{Statement as AStatement}
use Rattle.statement_types.specs.declared.statement.Statement.TheVariants as statement
use Rattle.script_grammar.specs.Names.{is_name}
use Rattle.script_forms.specs.declared.script.Script.{Script}
use Rattle.script_forms.specs.declared.script.SessionScript.{SessionScript}
use Rattle.script_forms.specs.declared.script.Header.{Header as AHeader}
use Rattle.script_forms.specs.declared.script.Header.TheVariants as header
use Rattle.script_forms.specs.Limits.{are_keys}

-- 1 to MAX_STATEMENT_ROWS rows; each number is of 64 bits, each text has at most MAX_TEXT_BYTES bytes, and each date is of
-- the years 1 to 9999, so that each datum has a text
pub record AreFitRows (rows : List (List ADatum)) : Type 0 where
  pub some : 1 ≤ length rows
  pub count : length rows ≤ MAX_STATEMENT_ROWS
  pub literals : AreLiterals rows
  pub texts : All (λ r. All HasText r) rows

-- 1 to MAX_COLUMNS columns, whose names and those of the partition are names; each property has a key of its own, and no
-- text of it is too long
pub record IsFitTable (spec : TableSpec) : Type 0 where
  pub some : 1 ≤ length spec.columns
  pub most : length spec.columns ≤ MAX_COLUMNS
  pub columns : All (λ c. is_name c.name ≡ true) spec.columns
  pub partition : All (λ n. is_name n ≡ true) spec.partition
  pub keys : are_keys spec.properties ≡ true
  pub texts : All (λ p. (length p.key ≤ MAX_TEXT_BYTES) × (length p.value ≤ MAX_TEXT_BYTES)) spec.properties

abbrev pub IsFitStatement : AStatement → Type 0
IsFitStatement (statement.Table spec) = IsFitTable spec
IsFitStatement (statement.Insert rows) = AreFitRows rows
IsFitStatement statement.Select = Unit {0}
IsFitStatement (statement.Wait n) = n ≤ MAX_WAIT

-- at most MAX_STATEMENTS statements
pub record IsFitSession (session : SessionScript) : Type 0 where
  pub count : length session.statements ≤ MAX_STATEMENTS
  pub each : All IsFitStatement session.statements

abbrev pub IsFitHeader : AHeader → Type 0
IsFitHeader header.Existing = Unit {0}
IsFitHeader (header.Table spec) = IsFitTable spec

-- 1 to MAX_ATTEMPTS puts, at most MAX_SESSIONS sessions, and at most MAX_SCHEDULE_ITEMS items, each of one of the sessions
pub record IsFit (s : Script) : Type 0 where
  pub least : 1 ≤ s.attempts
  pub most : s.attempts ≤ MAX_ATTEMPTS
  pub header : IsFitHeader s.header
  pub sessions : length s.sessions ≤ MAX_SESSIONS
  pub each : All IsFitSession s.sessions
  pub count : length s.items ≤ MAX_SCHEDULE_ITEMS
  pub items : All (λ i. (0 < i.actor) × (i.actor ≤ length s.sessions)) s.items
