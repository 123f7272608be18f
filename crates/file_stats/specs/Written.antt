-- The text that is written for statistics: compact JSON with members in byte order of their names (PROTOCOL.md,
-- "Per-file Statistics").
use Rattle.std.specs.Prelude.{ℕ, ◌+◌, if◌then◌else◌, List, [], ◌∷◌, codes, Option, Some, None, option_map, option_and_then, ℤ}
use Rattle.serde_json.specs.Data.{Data, null, boolean, number, string, object, Members, no_members, member}
use Rattle.serde_json.specs.Find.{of_integer}
use Rattle.serde_json.specs.Written.{compact_text}
use Rattle.json_lines.specs.Written.{with_member, integer_data}
use Rattle.row_base.specs.declared.row.Datum.{Datum}
use Rattle.row_base.specs.declared.row.Datum.TheVariants as datum
use Rattle.row_base.specs.declared.schema.Column.{Column}
use Rattle.row_base.specs.Dates.{text_of_day}
use Rattle.row_base.specs.Schema.{TableSchema, is_partition_column}
use Rattle.file_stats.specs.declared.bound.Bound.{Bound}
use Rattle.file_stats.specs.declared.bound.Bound.TheVariants.{Least, Greatest}
use Rattle.file_stats.specs.declared.write.Part.{Part}
use Rattle.file_stats.specs.declared.write.Part.TheVariants.{Bounds, Nulls}
use Rattle.file_stats.specs.declared.stats.ColumnStats.{ColumnStats}
use Rattle.file_stats.specs.declared.stats.Stats.{Stats}
use Rattle.file_stats.specs.Columns.{stats_at}
use Rattle.file_stats.specs.Kept.{kept_text, kept_day}

-- a number
abbrev pub number_data : ℤ → Data
number_data n = number (of_integer n)

-- the text of a day
abbrev pub day_data : ℤ → Data
day_data n = string (text_of_day n)

-- a bound, as far as it is kept
abbrev pub bound_data : Bound → Datum → Option Data
bound_data b datum.Null = None
bound_data b (datum.Boolean x) = None
bound_data b (datum.Long n) = Some (number_data n)
bound_data b (datum.Integer n) = Some (number_data n)
bound_data b (datum.Date n) = option_map day_data (kept_day n)
bound_data b (datum.Text t) = option_map string (kept_text b t)

-- the bound of a column
abbrev pub bound_in : Bound → ColumnStats → Option Datum
bound_in Least c = c.least
bound_in Greatest c = c.greatest

-- what this part of the statistics has of a column
abbrev pub part_data : Part → ColumnStats → Option Data
part_data (Bounds b) c = option_and_then (bound_data b) (bound_in b c)
part_data Nulls c = option_map integer_data c.nulls

-- and of the column at this place, unless it is a partition column
abbrev pub part_at : TableSchema → Part → Stats → ℕ → Option Data
part_at s p st k = if is_partition_column s k then None else part_data p (stats_at st k)

-- members with what there is of each column and its place, by its name, from this place on
abbrev pub members_from : (ℕ → Option Data) → ℕ → List Column → Members → Members
members_from data_at k [] ms = ms
members_from data_at k (c ∷ cs) ms = members_from data_at (k + 1) cs (with_member c.name (data_at k) ms)

-- a part of the statistics
unfoldable pub part_object : TableSchema → Part → Stats → Data
part_object s p st = object (members_from (part_at s p st) 0 s.columns no_members)

-- the statistics
unfoldable pub stats_data : TableSchema → Stats → Data
stats_data s st =
    object (with_member (codes "numRecords") (option_map integer_data st.count) (
    member (codes "maxValues") (part_object s (Bounds Greatest) st) (
    member (codes "minValues") (part_object s (Bounds Least) st) (
    member (codes "nullCount") (part_object s Nulls st) no_members))))

-- their text
abbrev pub stats_text : TableSchema → Stats → List ℕ
stats_text s st = compact_text (stats_data s st)
