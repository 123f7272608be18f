-- What is written of statistics: of a text that is long its beginning as a least value, and nothing as a greatest one.
use Rattle.std.specs.Prelude.{ℕ, ◌==◌, ◌&&◌, Bool, if◌then◌else◌, List, map, length, Option, Some, None, option_map, option_and_then, ℤ, pos, neg_ℤ, int_le}
use Rattle.std.specs.Fmt.{take_chars}
use Rattle.row_base.specs.declared.row.Datum.{Datum}
use Rattle.row_base.specs.declared.row.Datum.TheVariants as datum
use Rattle.file_stats.specs.declared.bound.Bound.{Bound}
use Rattle.file_stats.specs.declared.bound.Bound.TheVariants.{Least, Greatest}
use Rattle.file_stats.specs.declared.stats.ColumnStats.{ColumnStats}
use Rattle.file_stats.specs.declared.stats.Stats.{Stats}

-- a text is cut to its first 32 characters as a least value; as a greatest one it is kept where it has no more
abbrev pub kept_text : Bound → List ℕ → Option (List ℕ)
kept_text Least t = Some (take_chars 32 t)
kept_text Greatest t = if length (take_chars 32 t) == length t then Some t else None

-- a day from 0001-01-01 to 9999-12-31, which has a text
abbrev pub is_day_number : ℤ → Bool
is_day_number n = int_le (neg_ℤ (pos 719_162)) n && int_le n (pos 2_932_896)

-- the same day, where it has a text
abbrev pub kept_day : ℤ → Option ℤ
kept_day n = if is_day_number n then Some n else None

-- a value as a bound that is written; truth values have no bounds
abbrev pub kept : Bound → Datum → Option Datum
kept b datum.Null = None
kept b (datum.Boolean x) = None
kept b (datum.Long n) = Some (datum.Long n)
kept b (datum.Integer n) = Some (datum.Integer n)
kept b (datum.Date n) = option_map datum.Date (kept_day n)
kept b (datum.Text t) = option_map datum.Text (kept_text b t)

-- the statistics of a column
abbrev pub kept_column : ColumnStats → ColumnStats
kept_column c =
    record {
      nulls = c.nulls;
      least = option_and_then (kept Least) c.least;
      greatest = option_and_then (kept Greatest) c.greatest;
    }

-- the statistics of a file
abbrev pub kept_stats : Stats → Stats
kept_stats st = record { count = st.count; columns = map kept_column st.columns }
