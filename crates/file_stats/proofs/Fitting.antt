-- The statistics of rows that fit a schema fit it too.
use Rattle.std.proofs.Common.{◌≡◌, ℕ, ◌<◌, ◌+◌, Bool, true, false, not, if◌then◌else◌, ◌&&◌, ◌==◌, List, [], ◌∷◌, length, slice_index_or, Option, Some, None, suc, zero, arith, refl, sym, ap, ◌∙◌, subst}
use Rattle.std.specs.Prelude.{IfSome}
use Rattle.std.specs.List.{All, list_any}
use Rattle.row_base.specs.declared.row.Datum.{Datum}
use Rattle.row_base.specs.declared.row.Datum.TheVariants as datum
use Rattle.row_base.specs.declared.row.Kind.{Kind}
use Rattle.row_base.specs.declared.row.Kind.TheVariants as kind
use Rattle.row_base.specs.declared.schema.Column.{Column}
use Rattle.row_base.specs.declared.schema.RowFault.TheVariants as fault
use Rattle.row_base.specs.RowOrder.{datum_cmp}
use Rattle.row_base.specs.Schema.{TableSchema, FitsSchema, is_partition_column, is_of_kind, is_empty_text, datum_fault}
use Rattle.file_stats.specs.declared.bound.Bound.{Bound}
use Rattle.file_stats.specs.declared.bound.Bound.TheVariants.{Least, Greatest}
use Rattle.file_stats.specs.declared.stats.ColumnStats.{ColumnStats}
use Rattle.file_stats.specs.Columns.{is_null, cell, column_in, bounds, value_of, outer, bound_of, no_stats, column_stats, of_data_column, each_from, columns_of}
use Rattle.file_stats.specs.Laws.{HasWidth, HaveWidth, FitsKind, ColumnFits, ColumnsFit}

-- a value that fits its column is of the column's kind
of_kind : (p : List ℕ) (k : ℕ) (c : Column) (d : Datum) → is_null d ≡ false → datum_fault p k c d ≡ None → is_of_kind c.kind d ≡ true
of_kind p k c d v e = by d v e
  where
    tested : (d : Datum) (b : Bool) → is_of_kind c.kind d ≡ b → (if not b then Some (fault.Kind k) else (if is_empty_text d && list_any (λ i. i == k) p then Some (fault.EmptyPartition k) else None)) ≡ None → is_of_kind c.kind d ≡ true
    tested d true is e = is
    tested d false is e = cc

    by : (d : Datum) → is_null d ≡ false → datum_fault p k c d ≡ None → is_of_kind c.kind d ≡ true
    by datum.Null v e = cc
    by (datum.Long n) v e = tested (datum.Long n) (is_of_kind c.kind (datum.Long n)) refl e
    by (datum.Integer n) v e = tested (datum.Integer n) (is_of_kind c.kind (datum.Integer n)) refl e
    by (datum.Boolean b) v e = tested (datum.Boolean b) (is_of_kind c.kind (datum.Boolean b)) refl e
    by (datum.Text t) v e = tested (datum.Text t) (is_of_kind c.kind (datum.Text t)) refl e
    by (datum.Date n) v e = tested (datum.Date n) (is_of_kind c.kind (datum.Date n)) refl e

-- the outer one of two is one of them
outer_is : (P : Datum → Type 0) (b : Bound) (o p : Option Datum) → IfSome o P → IfSome p P → IfSome (outer b o p) P
outer_is P b None p h k = k
outer_is P b (Some d) None h k = h
outer_is P b (Some d) (Some e) h k = by (bounds b (datum_cmp d e))
  where
    by : (t : Bool) → IfSome (if t then Some d else Some e) P
    by true = h
    by false = k

-- a bound is one of the values
bound_is : (P : Datum → Type 0) (b : Bound) (ds : List Datum) → All (λ d. is_null d ≡ false → P d) ds → IfSome (bound_of b ds) P
unfolding bound_of
bound_is P b [] h = tt
bound_is P b (d ∷ ds) h = outer_is P b (value_of d) (bound_of b ds) (by (is_null d) refl) (bound_is P b ds (λ k e l. h (suc k) e (omega (arith, l))))
  where
    by : (t : Bool) → is_null d ≡ t → IfSome (if t then None else Some d) P
    by true e = tt
    by false e = h 0 d (omega arith) e

-- the values of a column are of its kind, where each row fits
column_of_kind : (s : TableSchema) (k : ℕ) (c : Column) → k < length s.columns → slice_index_or s.columns k c ≡ c → (rows : List (List Datum)) → All (FitsSchema s) rows
    → All (λ d. is_null d ≡ false → is_of_kind c.kind d ≡ true) (column_in rows k)
column_of_kind s k c l is [] h j d m v = absurd (omega (arith, m))
column_of_kind s k c l is (r ∷ rows) h zero d m v =
    let row = h 0 r (omega arith) in
    let within : k < length r = omega (arith, l, row.count) in
    of_kind s.partition k c (cell r k) v (subst (λ x. datum_fault s.partition k x (cell r k) ≡ None) is (row.each k c datum.Null within))
column_of_kind s k c l is (r ∷ rows) h (suc j) d m v =
    column_of_kind s k c l is rows (λ i e n. h (suc i) e (omega (arith, n))) j d (omega (arith, m)) v

-- of its kind, and of its width
fits_kind : (k : Kind) (d : Datum) → is_of_kind k d ≡ true → HasWidth d → FitsKind k d
fits_kind kind.Long (datum.Long n) e w = w
fits_kind kind.Integer (datum.Integer n) e w = w
fits_kind kind.Boolean (datum.Boolean b) e w = tt
fits_kind kind.String (datum.Text t) e w = tt
fits_kind kind.Date (datum.Date n) e w = tt
fits_kind k d e w = absurd (cc)

bound_fits : (k : Kind) (o : Option Datum) → IfSome o (λ d. is_of_kind k d ≡ true) → IfSome o HasWidth → IfSome o (FitsKind k)
bound_fits k None e w = tt
bound_fits k (Some d) e w = fits_kind k d e w

column_fits : (s : TableSchema) (rows : List (List Datum)) → All (FitsSchema s) rows → (k : ℕ) (c : Column) → k < length s.columns → slice_index_or s.columns k c ≡ c
    → HaveWidth (of_data_column s k (column_stats (column_in rows k))) → ColumnFits s k c (of_data_column s k (column_stats (column_in rows k)))
column_fits s rows h k c l is = by (is_partition_column s k) refl
  where
    by : (b : Bool) → is_partition_column s k ≡ b → HaveWidth (if b then no_stats else column_stats (column_in rows k))
        → ColumnFits s k c (if b then no_stats else column_stats (column_in rows k))
    by true e w = record { nothing = λ p. refl; least = tt; greatest = tt }
    by false e w =
        let kinds = column_of_kind s k c l is rows h in
        record {
          nothing = λ p. absurd (cc);
          least = bound_fits c.kind (bound_of Least (column_in rows k)) (bound_is (λ d. is_of_kind c.kind d ≡ true) Least (column_in rows k) kinds) w.least;
          greatest = bound_fits c.kind (bound_of Greatest (column_in rows k)) (bound_is (λ d. is_of_kind c.kind d ≡ true) Greatest (column_in rows k) kinds) w.greatest;
        }

-- the columns from place i on are those of the schema
abbrev AreFrom : TableSchema → ℕ → List Column → Type 0
AreFrom s i cs = (j : ℕ) (d : Column) → j < length cs → (i + j < length s.columns) × (slice_index_or s.columns (i + j) d ≡ slice_index_or cs j d)

fit_from : (s : TableSchema) (rows : List (List Datum)) → All (FitsSchema s) rows → (i : ℕ) (cs : List Column) → AreFrom s i cs
    → All HaveWidth (each_from (λ k c. of_data_column s k (column_stats (column_in rows k))) i cs)
    → ColumnsFit s i cs (each_from (λ k c. of_data_column s k (column_stats (column_in rows k))) i cs)
fit_from s rows h i [] from w = tt
fit_from s rows h i (c ∷ cs) from w =
    let same : i + 0 ≡ i = omega arith in
    let here = subst (λ m. (m < length s.columns) × (slice_index_or s.columns m c ≡ c)) same (from 0 c (omega arith)) in (
      column_fits s rows h i c here.0 here.1 (w 0 no_stats (omega arith)),
      fit_from s rows h (i + 1) cs (λ j d l. behind j d (from (suc j) d (omega (arith, l)))) (λ k d l. w (suc k) d (omega (arith, l))),
    )
  where
    behind : (j : ℕ) (d : Column) → (i + suc j < length s.columns) × (slice_index_or s.columns (i + suc j) d ≡ slice_index_or cs j d)
        → (i + 1 + j < length s.columns) × (slice_index_or s.columns (i + 1 + j) d ≡ slice_index_or cs j d)
    behind j d p = let e : i + suc j ≡ i + 1 + j = omega arith in subst (λ m. (m < length s.columns) × (slice_index_or s.columns m d ≡ slice_index_or cs j d)) e p

pub columns_fit : (s : TableSchema) (rows : List (List Datum)) (cs : List ColumnStats) → All (FitsSchema s) rows → cs ≡ columns_of s rows → All HaveWidth cs → ColumnsFit s 0 s.columns cs
columns_fit s rows cs h e w =
    subst (ColumnsFit s 0 s.columns) (sym e) (fit_from s rows h 0 s.columns (λ j d l. whole j d l) (subst (All HaveWidth) e w))
  where
    whole : (j : ℕ) (d : Column) → j < length s.columns → (0 + j < length s.columns) × (slice_index_or s.columns (0 + j) d ≡ slice_index_or s.columns j d)
    whole j d l = let e : j ≡ 0 + j = omega arith in subst (λ m. (m < length s.columns) × (slice_index_or s.columns m d ≡ slice_index_or s.columns j d)) e (l, refl)
