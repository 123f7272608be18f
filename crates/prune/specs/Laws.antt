-- Facts that hold of a file's rows, and what follows of a predicate.
use Rattle.std.specs.Prelude.{◌≡◌, ◌≢◌, ℕ, List, true, false, IfSome}
use Rattle.std.specs.List.{All}
use Rattle.std.specs.Ordering.{is_le}
use Rattle.row_base.specs.declared.row.Datum.{Datum}
use Rattle.row_base.specs.RowOrder.{datum_cmp}
use Rattle.row_base.specs.Schema.{TableSchema, is_partition_column}
use Rattle.predicates.specs.declared.truth.Truth.TheVariants.{Yes}
use Rattle.predicates.specs.declared.pred.Pred.{Pred}
use Rattle.predicates.specs.Truths.{is_null, cell, truth_of}
use Rattle.file_stats.specs.declared.stats.Stats.{Stats}
use Rattle.file_stats.specs.Columns.{AreTrue}
use Rattle.prune.specs.declared.column.ColumnFacts.{ColumnFacts}
use Rattle.prune.specs.Facts.{possible_in, facts_at}
use Rattle.prune.specs.Known.{facts_of}
use Rattle.prune.specs.Sets.{has}

-- what is known of a column holds of what a row has in it
pub record HoldsOf (f : ColumnFacts) (d : Datum) : Type 0 where
  pub null : is_null d ≡ true → f.can_be_null ≡ true
  pub value : is_null d ≡ false → f.can_be_value ≡ true
  pub least : is_null d ≡ false → IfSome f.least (λ lo. is_le (datum_cmp lo d) ≡ true)
  pub greatest : is_null d ≡ false → IfSome f.greatest (λ hi. is_le (datum_cmp d hi) ≡ true)

-- and so of each column
abbrev pub HoldsOfRow : List ColumnFacts → List Datum → Type 0
HoldsOfRow fs row = (c : ℕ) → HoldsOf (facts_at fs c) (cell row c)

-- the truth that a row gives is one of those that its file may have
abbrev pub EachTruthIsPossible : Type 0
EachTruthIsPossible =
    (fs : List ColumnFacts) (row : List Datum) → HoldsOfRow fs row → (p : Pred ℕ) → has (possible_in fs p) (truth_of row p) ≡ true

-- where `Yes` isn't possible, it is the truth of no row
abbrev pub NoRowIsLost : Type 0
NoRowIsLost =
    (fs : List ColumnFacts) (rows : List (List Datum)) → All (HoldsOfRow fs) rows → (p : Pred ℕ) → (possible_in fs p).yes ≡ false → All (λ row. truth_of row p ≢ Yes) rows

-- what the log says of a file is true of its rows: the statistics, and the values of the partition columns
pub record DescribesRows (s : TableSchema) (values : List Datum) (st : Stats) (rows : List (List Datum)) : Type 0 where
  pub statistics : AreTrue st rows
  pub partition : (k : ℕ) → is_partition_column s k ≡ true → All (λ row. cell row k ≡ cell values k) rows

-- then its facts hold of each row
abbrev pub FactsHold : Type 0
FactsHold =
    (s : TableSchema) (values : List Datum) (st : Stats) (rows : List (List Datum)) → DescribesRows s values st rows → All (HoldsOfRow (facts_of s values st)) rows
