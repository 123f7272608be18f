-- Limits of a statement, and statements that pass none.
use Rattle.std.specs.Prelude.{ℕ, Bool, true, List, [], ◌∷◌, length, ◌&&◌, not, nat_le}
use Rattle.std.specs.List.{list_any, list_all}
use Rattle.std.specs.Str.{bytes_eq}
use Rattle.op_types.specs.declared.statement.Property.{Property}
use Rattle.row_base.specs.declared.limits.TheConstants.{MAX_COLUMNS, MAX_STATEMENT_ROWS, MAX_TEXT_BYTES, MAX_WAIT}
use Rattle.row_base.specs.declared.row.Datum.{Datum}
use Rattle.row_base.specs.declared.row.Datum.TheVariants as datum
use Rattle.statement_types.specs.Literals.{AreLiterals}
use Rattle.statement_types.specs.declared.statement.TableSpec.{TableSpec}
use Rattle.statement_types.specs.declared.statement.Statement.{Statement}
use Rattle.statement_types.specs.declared.statement.Statement.TheVariants as statement
use Rattle.script_forms.specs.declared.place.Stated.{Stated}
use Rattle.script_forms.specs.declared.place.Stated.TheVariants as stated

-- each key stands once
abbrev pub are_keys : List Property → Bool
are_keys [] = true
are_keys (p ∷ ps) = not (list_any (λ q. bytes_eq q.key p.key) ps) && are_keys ps

-- at most MAX_TEXT_BYTES bytes
abbrev pub is_short : List ℕ → Bool
is_short text = nat_le (length text) MAX_TEXT_BYTES

abbrev pub is_short_property : Property → Bool
is_short_property p = is_short p.key && is_short p.value

-- at most MAX_COLUMNS columns, and no text is too long
abbrev pub table_within : TableSpec → Bool
table_within spec = nat_le (length spec.columns) MAX_COLUMNS && list_all is_short_property spec.properties

abbrev pub is_short_datum : Datum → Bool
is_short_datum datum.Null = true
is_short_datum (datum.Long n) = true
is_short_datum (datum.Integer n) = true
is_short_datum (datum.Boolean b) = true
is_short_datum (datum.Text t) = is_short t
is_short_datum (datum.Date n) = true

-- at most MAX_STATEMENT_ROWS rows, and no text is too long
abbrev pub rows_within : List (List Datum) → Bool
rows_within rows = nat_le (length rows) MAX_STATEMENT_ROWS && list_all (λ r. list_all is_short_datum r) rows

-- a statement passes no limit
abbrev pub stated_within : Stated → Bool
stated_within (stated.Table spec) = table_within spec
stated_within (stated.Insert rows) = rows_within rows
stated_within stated.Select = true
stated_within (stated.Wait n) = nat_le n MAX_WAIT

-- what a script says for what its line gives
abbrev pub statement_of : Stated → Statement
statement_of (stated.Table spec) = statement.Table spec
statement_of (stated.Insert rows) = statement.Insert rows
statement_of stated.Select = statement.Select
statement_of (stated.Wait n) = statement.Wait n

-- its rows are literal rows
abbrev pub HasLiterals : Stated → Type 0
HasLiterals (stated.Table spec) = Unit {0}
HasLiterals (stated.Insert rows) = AreLiterals rows
HasLiterals stated.Select = Unit {0}
HasLiterals (stated.Wait n) = Unit {0}
