-- What statistics may be relied on for.
use Rattle.std.specs.Prelude.{◌≡◌, ℕ, ◌+◌, true, List, [], ◌∷◌, Some, IfSome}
use Rattle.serde_json.specs.Data.{Data}
use Rattle.row_base.specs.declared.row.Datum.{Datum}
use Rattle.row_base.specs.declared.row.Datum.TheVariants as datum
use Rattle.row_base.specs.declared.row.Kind.{Kind}
use Rattle.row_base.specs.declared.row.Kind.TheVariants as kind
use Rattle.row_base.specs.declared.schema.Column.{Column}
use Rattle.row_base.specs.Numbers.{is_i64}
use Rattle.row_base.specs.Schema.{TableSchema, is_partition_column, is_of_kind, is_i32}
use Rattle.file_stats.specs.declared.stats.ColumnStats.{ColumnStats}
use Rattle.file_stats.specs.declared.stats.Stats.{Stats}
use Rattle.file_stats.specs.Columns.{no_stats, stats_of, AreTrue}
use Rattle.file_stats.specs.Kept.{kept_stats}
use Rattle.file_stats.specs.Reading.{bound_as}

-- the statistics of rows are true of them
abbrev pub StatsAreTrue : Type 0
StatsAreTrue = (s : TableSchema) (rows : List (List Datum)) → AreTrue (stats_of s rows) rows

-- what is kept of true statistics is true
abbrev pub KeptStatsAreTrue : Type 0
KeptStatsAreTrue = (st : Stats) (rows : List (List Datum)) → AreTrue st rows → AreTrue (kept_stats st) rows

-- a bound that is read is a value of its column's kind
abbrev pub BoundsAreOfTheirKind : Type 0
BoundsAreOfTheirKind = (k : Kind) (d : Data) → IfSome (bound_as k d) (λ b. is_of_kind k b ≡ true)

-- a number of the width that its kind has
abbrev pub HasWidth : Datum → Type 0
HasWidth datum.Null = Unit {0}
HasWidth (datum.Long n) = is_i64 n ≡ true
HasWidth (datum.Integer n) = is_i32 n ≡ true
HasWidth (datum.Boolean b) = Unit {0}
HasWidth (datum.Text t) = Unit {0}
HasWidth (datum.Date n) = Unit {0}

-- both bounds of a column are so
pub record HaveWidth (c : ColumnStats) : Type 0 where
  pub least : IfSome c.least HasWidth
  pub greatest : IfSome c.greatest HasWidth

-- a bound of a column of this kind whose text, where it has one, reads as it: a number has the width of its kind. Truth
-- values and days outside the years 1 to 9999 have no text
abbrev pub FitsKind : Kind → Datum → Type 0
FitsKind kind.Long (datum.Long n) = is_i64 n ≡ true
FitsKind kind.Integer (datum.Integer n) = is_i32 n ≡ true
FitsKind kind.Boolean (datum.Boolean b) = Unit {0}
FitsKind kind.String (datum.Text t) = Unit {0}
FitsKind kind.Date (datum.Date n) = Unit {0}
FitsKind k d = ⊥

-- of a partition column nothing is known, and a data column's bounds are read back
pub record ColumnFits (s : TableSchema) (k : ℕ) (c : Column) (st : ColumnStats) : Type 0 where
  pub nothing : is_partition_column s k ≡ true → st ≡ no_stats
  pub least : IfSome st.least (FitsKind c.kind)
  pub greatest : IfSome st.greatest (FitsKind c.kind)

-- the same of each column from this place on, of which there are as many as in the schema
abbrev pub ColumnsFit : TableSchema → ℕ → List Column → List ColumnStats → Type 0
ColumnsFit s k [] [] = Unit {0}
ColumnsFit s k (c ∷ cs) (st ∷ sts) = ColumnFits s k c st × ColumnsFit s (k + 1) cs sts
ColumnsFit s k cs sts = ⊥

-- statistics of a schema's columns
abbrev pub StatsFit : TableSchema → Stats → Type 0
StatsFit s st = ColumnsFit s 0 s.columns st.columns
