-- The statistics of rows, column by column, and when statistics are true of rows.
use Rattle.std.specs.Prelude.{◌≡◌, ℕ, ◌+◌, Bool, true, false, if◌then◌else◌, List, [], ◌∷◌, map, length, Option, Some, None, slice_index_or, slice_get, option_and_then, IfSome}
use Rattle.std.specs.List.{filter, All}
use Rattle.std.specs.declared.cmp.Ordering.{Ordering}
use Rattle.std.specs.Ordering.{is_le, is_ge}
use Rattle.row_base.specs.declared.row.Datum.{Datum}
use Rattle.row_base.specs.declared.row.Datum.TheVariants as datum
use Rattle.row_base.specs.declared.schema.Column.{Column}
use Rattle.row_base.specs.RowOrder.{datum_cmp}
use Rattle.row_base.specs.Schema.{TableSchema, is_partition_column}
use Rattle.file_stats.specs.declared.bound.Bound.{Bound}
use Rattle.file_stats.specs.declared.bound.Bound.TheVariants.{Least, Greatest}
use Rattle.file_stats.specs.declared.stats.ColumnStats.{ColumnStats}
use Rattle.file_stats.specs.declared.stats.Stats.{Stats}

-- the null datum
abbrev pub is_null : Datum → Bool
is_null datum.Null = true
is_null (datum.Long n) = false
is_null (datum.Integer n) = false
is_null (datum.Boolean b) = false
is_null (datum.Text t) = false
is_null (datum.Date n) = false

-- what a row has in the column at this place
abbrev pub cell : List Datum → ℕ → Datum
cell row k = slice_index_or row k datum.Null

-- what the rows have in the column at this place
abbrev pub column_in : List (List Datum) → ℕ → List Datum
column_in rows k = map (λ r. cell r k) rows

-- how many data are null
abbrev pub null_count : List Datum → ℕ
null_count ds = length (filter is_null ds)

-- a value that stands so to another is a bound of it
abbrev pub bounds : Bound → Ordering → Bool
bounds Least o = is_le o
bounds Greatest o = is_ge o

-- a datum that isn't null
abbrev pub value_of : Datum → Option Datum
value_of d = if is_null d then None else Some d

-- what the row at place i has in the column at place k, where there is such a row and that isn't null
abbrev pub value_at : List (List Datum) → ℕ → ℕ → Option Datum
value_at rows i k = option_and_then (λ r. value_of (cell r k)) (slice_get rows i)

-- of two values, where there are two, the one that is a bound of the other
abbrev pub outer : Bound → Option Datum → Option Datum → Option Datum
outer b None o = o
outer b (Some d) None = Some d
outer b (Some d) (Some e) = if bounds b (datum_cmp d e) then Some d else Some e

-- the least or the greatest value that isn't null
unfoldable pub bound_of : Bound → List Datum → Option Datum
bound_of b [] = None
bound_of b (d ∷ ds) = outer b (value_of d) (bound_of b ds)

-- a column of which nothing is known
abbrev pub no_stats : ColumnStats
no_stats = record { nulls = None; least = None; greatest = None }

-- the statistics of these data
abbrev pub column_stats : List Datum → ColumnStats
column_stats ds = record { nulls = Some (null_count ds); least = bound_of Least ds; greatest = bound_of Greatest ds }

-- those of a data column; of a partition column there are none
abbrev pub of_data_column : TableSchema → ℕ → ColumnStats → ColumnStats
of_data_column s k c = if is_partition_column s k then no_stats else c

-- what there is of each column and its place, from this place on
abbrev pub each_from : {A : Type 0} → (ℕ → Column → A) → ℕ → List Column → List A
each_from f k [] = []
each_from f k (c ∷ cs) = f k c ∷ each_from f (k + 1) cs

-- the statistics of each column of rows
abbrev pub columns_of : TableSchema → List (List Datum) → List ColumnStats
columns_of s rows = each_from (λ k c. of_data_column s k (column_stats (column_in rows k))) 0 s.columns

-- the statistics of rows
abbrev pub stats_of : TableSchema → List (List Datum) → Stats
stats_of s rows = record { count = Some (length rows); columns = columns_of s rows }

-- the statistics of the column at this place
abbrev pub stats_at : Stats → ℕ → ColumnStats
stats_at st k = slice_index_or st.columns k no_stats

-- what is known of a column is true of these data
pub record IsTrueOf (c : ColumnStats) (ds : List Datum) : Type 0 where
  pub nulls_counted : IfSome c.nulls (λ n. n ≡ null_count ds)
  pub above : All (λ d. is_null d ≡ false → IfSome c.least (λ lo. is_le (datum_cmp lo d) ≡ true)) ds
  pub below : All (λ d. is_null d ≡ false → IfSome c.greatest (λ hi. is_le (datum_cmp d hi) ≡ true)) ds

-- what is known of a file is true of its rows
pub record AreTrue (st : Stats) (rows : List (List Datum)) : Type 0 where
  pub counted : IfSome st.count (λ n. n ≡ length rows)
  pub each_column : (k : ℕ) → IsTrueOf (stats_at st k) (column_in rows k)
