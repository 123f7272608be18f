-- Facts of a file hold of its rows where what the log says of it is true of them.
use Rattle.std.proofs.Common.{◌≡◌, ℕ, ◌<◌, ◌≤◌, ◌+◌, Bool, true, false, not, if◌then◌else◌, List, [], ◌∷◌, length, slice_index_or, Option, Some, None, suc, zero, arith, refl, sym, ap, ◌∙◌, subst}
use Rattle.std.specs.Prelude.{IfSome}
use Rattle.std.proofs.lemmas.Bool.{ne_eqb}
use Rattle.std.specs.Ordering.{is_le}
use Rattle.std.proofs.lemmas.Cmp.{tied_itself}
use Rattle.row_base.specs.declared.row.Datum.{Datum}
use Rattle.row_base.specs.declared.row.Datum.TheVariants as datum
use Rattle.row_base.specs.declared.schema.Column.{Column}
use Rattle.row_base.specs.RowOrderLaws.{datum_cmp_total}
use Rattle.row_base.specs.Schema.{TableSchema, is_partition_column}
use Rattle.predicates.specs.Truths.{is_null, cell}
use Rattle.file_stats.specs.declared.stats.ColumnStats.{ColumnStats}
use Rattle.file_stats.specs.declared.stats.Stats.{Stats}
use Rattle.file_stats.specs.Columns as columns
use Rattle.file_stats.specs.Columns.{null_count, column_in, stats_at, each_from, IsTrueOf, AreTrue}
use Rattle.file_stats.proofs.Truths.{each_at}
use Rattle.prune.specs.declared.column.ColumnFacts.{ColumnFacts}
use Rattle.prune.specs.Facts.{no_facts}
use Rattle.prune.specs.Known.{is_count, are_same, known_of, exact_facts, column_facts, facts_of}
use Rattle.prune.specs.Laws.{HoldsOf, DescribesRows, FactsHold}

-- ---- one column

same_null : (d : Datum) → columns.is_null d ≡ is_null d
same_null datum.Null = refl
same_null (datum.Long n) = refl
same_null (datum.Integer n) = refl
same_null (datum.Boolean b) = refl
same_null (datum.Text t) = refl
same_null (datum.Date n) = refl

count_le : (ds : List Datum) → null_count ds ≤ length ds
count_le [] = omega arith
count_le (x ∷ ds) = by (columns.is_null x) refl (count_le ds)
  where
    by : (b : Bool) → columns.is_null x ≡ b → null_count ds ≤ length ds → null_count (x ∷ ds) ≤ length (x ∷ ds)
    by true e h = rw e (omega (arith, h))
    by false e h = rw e (omega (arith, h))

null_here : (ds : List Datum) (k : ℕ) (d : Datum) → k < length ds → columns.is_null (slice_index_or ds k d) ≡ true → 0 < null_count ds
null_here [] k d l e = absurd (omega (arith, l))
null_here (x ∷ ds) zero d l e = rw e (omega arith)
null_here (x ∷ ds) (suc k) d l e = by (columns.is_null x) refl (null_here ds k d (omega (arith, l)) e)
  where
    by : (b : Bool) → columns.is_null x ≡ b → 0 < null_count ds → 0 < null_count (x ∷ ds)
    by true n h = rw n (omega arith)
    by false n h = rw n h

value_here : (ds : List Datum) (k : ℕ) (d : Datum) → k < length ds → columns.is_null (slice_index_or ds k d) ≡ false → null_count ds < length ds
value_here [] k d l e = absurd (omega (arith, l))
value_here (x ∷ ds) zero d l e = rw e (omega (arith, count_le ds))
value_here (x ∷ ds) (suc k) d l e = by (columns.is_null x) refl (value_here ds k d (omega (arith, l)) e)
  where
    by : (b : Bool) → columns.is_null x ≡ b → null_count ds < length ds → null_count (x ∷ ds) < length (x ∷ ds)
    by true n h = rw n (omega (arith, h))
    by false n h = rw n (omega (arith, h))

positive : (o : Option ℕ) (m : ℕ) → IfSome o (λ n. n ≡ m) → 0 < m → not (is_count o 0) ≡ true
positive None m e l = refl
positive (Some n) m e l = ap not (ne_eqb n 0 (λ z. omega (arith, z, e, l)))

fewer : (o p : Option ℕ) (m k : ℕ) → IfSome o (λ n. n ≡ m) → IfSome p (λ n. n ≡ k) → k < m → not (are_same o p) ≡ true
fewer None p m k e f l = refl
fewer (Some n) None m k e f l = refl
fewer (Some n) (Some j) m k e f l = ap not (ne_eqb j n (λ z. omega (arith, z, e, f, l)))

-- true counts and bounds hold of each value of the column
known_holds : (count : Option ℕ) (c : ColumnStats) (ds : List Datum) → IfSome count (λ n. n ≡ length ds) → IsTrueOf c ds → (k : ℕ) (d : Datum) → k < length ds → HoldsOf (known_of count c) (slice_index_or ds k d)
known_holds count c ds counted t k d l =
    let some : 0 < length ds = omega (arith, l) in
    let x = slice_index_or ds k d in
    record {
      null = λ e. rw (positive count (length ds) counted some, positive c.nulls (null_count ds) t.nulls_counted (null_here ds k d l (same_null x ∙ e))) refl;
      value = λ e. rw (positive count (length ds) counted some, fewer count c.nulls (length ds) (null_count ds) counted t.nulls_counted (value_here ds k d l (same_null x ∙ e))) refl;
      least = λ e. t.above k d l (same_null x ∙ e);
      greatest = λ e. t.below k d l (same_null x ∙ e);
    }

exact_holds : (d : Datum) → HoldsOf (exact_facts d) d
exact_holds d =
    record {
      null = λ e. e;
      value = λ e. ap not e;
      least = λ e. ap is_le (tied_itself datum_cmp_total d);
      greatest = λ e. ap is_le (tied_itself datum_cmp_total d);
    }

nothing_holds : (d : Datum) → HoldsOf no_facts d
nothing_holds d = record { null = λ e. refl; value = λ e. refl; least = λ e. tt; greatest = λ e. tt }

-- ---- each column of each row

-- what a row has in a column stands in the column at the row's place
cell_in : (rows : List (List Datum)) (j k : ℕ) (row : List Datum) (d : Datum) → j < length rows → slice_index_or (column_in rows k) j d ≡ cell (slice_index_or rows j row) k
cell_in [] j k row d l = absurd (omega (arith, l))
cell_in (r ∷ rows) zero k row d l = refl
cell_in (r ∷ rows) (suc j) k row d l = cell_in rows j k row d (omega (arith, l))

column_length : (rows : List (List Datum)) (k : ℕ) → length (column_in rows k) ≡ length rows
column_length [] k = refl
column_length (r ∷ rows) k = ap suc (column_length rows k)

count_of_column : (o : Option ℕ) (m n : ℕ) → IfSome o (λ c. c ≡ n) → m ≡ n → IfSome o (λ c. c ≡ m)
count_of_column None m n h e = tt
count_of_column (Some c) m n h e = h ∙ sym e

known_at_row : (st : Stats) (rows : List (List Datum)) → AreTrue st rows → (j k : ℕ) (row : List Datum) → j < length rows → HoldsOf (known_of st.count (stats_at st k)) (cell (slice_index_or rows j row) k)
known_at_row st rows t j k row l =
    let within : j < length (column_in rows k) = omega (arith, l, column_length rows k) in
    subst (HoldsOf (known_of st.count (stats_at st k))) (cell_in rows j k row datum.Null l)
    (known_holds st.count (stats_at st k) (column_in rows k) (count_of_column st.count (length (column_in rows k)) (length rows) t.counted (column_length rows k)) (t.each_column k) j datum.Null within)

column_holds : (s : TableSchema) (values : List Datum) (st : Stats) (rows : List (List Datum)) → DescribesRows s values st rows → (j : ℕ) (row : List Datum) → j < length rows → (k : ℕ)
    → HoldsOf (column_facts s values st k) (cell (slice_index_or rows j row) k)
column_holds s values st rows h j row l k = by (is_partition_column s k) refl
  where
    by : (b : Bool) → is_partition_column s k ≡ b → HoldsOf (if b then exact_facts (cell values k) else known_of st.count (stats_at st k)) (cell (slice_index_or rows j row) k)
    by true e = subst (HoldsOf (exact_facts (cell values k))) (sym (h.partition k e j row l)) (exact_holds (cell values k))
    by false e = known_at_row st rows h.statistics j k row l

pub facts_width : (s : TableSchema) (values : List Datum) (st : Stats) → length (facts_of s values st) ≡ length s.columns
facts_width s values st = each_length (λ k c. column_facts s values st k) 0 s.columns
  where
    each_length : (f : ℕ → Column → ColumnFacts) (i : ℕ) (cs : List Column) → length (each_from f i cs) ≡ length cs
    each_length f i [] = refl
    each_length f i (c ∷ cs) = ap suc (each_length f (i + 1) cs)

pub facts_hold : FactsHold
facts_hold s values st rows h j row l =
    each_at (λ k f. HoldsOf f (cell (slice_index_or rows j row) k)) (λ k c. column_facts s values st k) no_facts (λ k c. column_holds s values st rows h j row l k)
    (λ k. nothing_holds (cell (slice_index_or rows j row) k)) s.columns
