-- What the text of statistics says (PROTOCOL.md, "Per-file Statistics"). What is absent, or of another kind than it
-- should be, isn't known.
use Rattle.std.specs.Prelude.{ℕ, List, codes, Option, Some, None, option_map, option_and_then, if◌then◌else◌, ℤ}
use Rattle.serde_json.specs.Data.{Data}
use Rattle.serde_json.specs.Find.{as_number, as_str, as_u64, as_i64}
use Rattle.json_lines.specs.Kinds.{present}
use Rattle.json_lines.specs.Lines.{object_of_line}
use Rattle.row_base.specs.declared.row.Datum.{Datum}
use Rattle.row_base.specs.declared.row.Datum.TheVariants as datum
use Rattle.row_base.specs.declared.row.Kind.{Kind}
use Rattle.row_base.specs.declared.row.Kind.TheVariants as kind
use Rattle.row_base.specs.declared.schema.Column.{Column}
use Rattle.row_base.specs.Dates.{date_in}
use Rattle.row_base.specs.Schema.{TableSchema, is_i32}
use Rattle.file_stats.specs.declared.stats.ColumnStats.{ColumnStats}
use Rattle.file_stats.specs.declared.stats.Stats.{Stats}
use Rattle.file_stats.specs.Columns.{each_from, of_data_column}

-- how many
abbrev pub count_as : Data → Option ℕ
count_as d = option_and_then as_u64 (as_number d)

-- a number of 64 bits
abbrev pub long_as : Data → Option ℤ
long_as d = option_and_then as_i64 (as_number d)

-- a number of 32 bits
abbrev pub narrowed : ℤ → Option ℤ
narrowed n = if is_i32 n then Some n else None

-- a bound in a column of this kind; truth values have none
abbrev pub bound_as : Kind → Data → Option Datum
bound_as kind.Long d = option_map datum.Long (long_as d)
bound_as kind.Integer d = option_map datum.Integer (option_and_then narrowed (long_as d))
bound_as kind.Boolean d = None
bound_as kind.String d = option_map datum.Text (as_str d)
bound_as kind.Date d = option_map datum.Date (option_and_then date_in (as_str d))

-- what this member of the statistics says of the column of this name
abbrev pub said : List ℕ → List ℕ → Data → Option Data
said word name d = option_and_then (present name) (present word d)

-- what is said of a column
abbrev pub column_as : Data → Column → ColumnStats
column_as d c =
    record {
      nulls = option_and_then count_as (said (codes "nullCount") c.name d);
      least = option_and_then (bound_as c.kind) (said (codes "minValues") c.name d);
      greatest = option_and_then (bound_as c.kind) (said (codes "maxValues") c.name d);
    }

-- what is said of each column
abbrev pub columns_as : TableSchema → Data → List ColumnStats
columns_as s d = each_from (λ k c. of_data_column s k (column_as d c)) 0 s.columns

-- what is said of a file
abbrev pub stats_as : TableSchema → Data → Stats
stats_as s d = record { count = option_and_then count_as (present (codes "numRecords") d); columns = columns_as s d }

-- what a text says, where it is JSON of an object
abbrev pub stats_in : TableSchema → List ℕ → Option Stats
stats_in s text = option_map (stats_as s) (object_of_line text)
