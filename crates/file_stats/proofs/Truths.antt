-- The statistics of rows are true of them, and so is what is kept of true statistics.
use Rattle.std.proofs.Common.{◌≡◌, ◌==◌, ℕ, ◌<◌, ◌+◌, ◌-◌, Bool, true, false, if◌then◌else◌, List, [], ◌∷◌, length, map, slice_index_or, Option, Some, None, suc, zero, arith, refl, sym, ap, ◌∙◌, subst, ℤ}
use Rattle.std.specs.Prelude.{IfSome, option_and_then, option_map}
use Rattle.std.specs.Fmt.{take_chars, is_char_start}
use Rattle.std.specs.declared.cmp.Ordering.{Ordering}
use Rattle.std.specs.declared.cmp.Ordering.TheVariants.{Less, Equal, Greater}
use Rattle.std.specs.Ordering.{is_le, is_ge, nat_cmp, ordering_then}
use Rattle.std.specs.Cmp.Lexicographic.{slice_cmp}
use Rattle.std.proofs.lemmas.Cmp.{tied_itself, nat_cmp_total}
use Rattle.serde_json.specs.Data.{Data}
use Rattle.serde_json.specs.Find.{as_str}
use Rattle.row_base.specs.declared.row.Datum.{Datum}
use Rattle.row_base.specs.declared.row.Datum.TheVariants as datum
use Rattle.row_base.specs.declared.row.Kind.{Kind}
use Rattle.row_base.specs.declared.row.Kind.TheVariants as kind
use Rattle.row_base.specs.declared.schema.Column.{Column}
use Rattle.row_base.specs.RowOrder.{datum_cmp}
use Rattle.row_base.specs.RowOrderLaws.{datum_cmp_total}
use Rattle.row_base.specs.Dates.{date_in}
use Rattle.row_base.specs.Schema.{TableSchema, is_partition_column, is_of_kind}
use Rattle.file_stats.specs.declared.bound.Bound.{Bound}
use Rattle.file_stats.specs.declared.bound.Bound.TheVariants.{Least, Greatest}
use Rattle.file_stats.specs.declared.stats.ColumnStats.{ColumnStats}
use Rattle.file_stats.specs.declared.stats.Stats.{Stats}
use Rattle.file_stats.specs.Columns.{is_null, column_in, null_count, bounds, value_of, outer, bound_of, no_stats, column_stats, of_data_column, each_from, columns_of, stats_of, stats_at, IsTrueOf, AreTrue}
use Rattle.file_stats.specs.Kept.{kept_text, is_day_number, kept_day, kept, kept_column, kept_stats}
use Rattle.file_stats.specs.Reading.{long_as, narrowed, bound_as}
use Rattle.file_stats.specs.Laws.{StatsAreTrue, KeptStatsAreTrue, BoundsAreOfTheirKind}
use Rattle.file_stats.proofs.Orders.{chained, le_le, ge-is}

-- ---- a bound of a value

abbrev Le : Datum → Datum → Type 0
Le d e = is_le (datum_cmp d e) ≡ true

-- a value is a bound of another
abbrev Bounds : Bound → Datum → Datum → Type 0
Bounds b d e = bounds b (datum_cmp d e) ≡ true

le_trans : (x y z : Datum) → Le x y → Le y z → Le x z
le_trans x y z h k = ap is_le (chained datum_cmp_total x y z h k) ∙ le_le (datum_cmp x y) (datum_cmp y z) h k

-- a greatest value is at least the other
turned : (d e : Datum) → Bounds Greatest d e → Le e d
turned d e h = sym (ge-is datum_cmp_total d e) ∙ h

back : (d e : Datum) → Le e d → Bounds Greatest d e
back d e h = ge-is datum_cmp_total d e ∙ h

bounds_itself : (b : Bound) (d : Datum) → Bounds b d d
bounds_itself Least d = ap is_le (tied_itself datum_cmp_total d)
bounds_itself Greatest d = ap is_ge (tied_itself datum_cmp_total d)

bounds_trans : (b : Bound) (x y z : Datum) → Bounds b x y → Bounds b y z → Bounds b x z
bounds_trans Least x y z h k = le_trans x y z h k
bounds_trans Greatest x y z h k = back x z (le_trans z y x (turned y z k) (turned x y h))

either_way : (p : Ordering) → is_le p ≡ false → is_ge p ≡ true
either_way Less e = cc
either_way Equal e = cc
either_way Greater e = refl

either_back : (p : Ordering) → is_ge p ≡ false → is_le p ≡ true
either_back Less e = refl
either_back Equal e = cc
either_back Greater e = cc

other_way : (b : Bound) (d e : Datum) → bounds b (datum_cmp d e) ≡ false → Bounds b e d
other_way Least d e f = turned d e (either_way (datum_cmp d e) f)
other_way Greatest d e f = back e d (either_back (datum_cmp d e) f)

-- there is a bound, and it is one of d
abbrev IsBounded : Bound → Option Datum → Datum → Type 0
IsBounded b None d = false ≡ true
IsBounded b (Some x) d = Bounds b x d

outer_first : (b : Bound) (x : Datum) (o : Option Datum) → IsBounded b (outer b (Some x) o) x
outer_first b x None = bounds_itself b x
outer_first b x (Some e) = by (bounds b (datum_cmp x e)) refl
  where
    by : (t : Bool) → bounds b (datum_cmp x e) ≡ t → IsBounded b (if t then Some x else Some e) x
    by true h = bounds_itself b x
    by false h = other_way b x e h

outer_rest : (b : Bound) (x d : Datum) (o : Option Datum) → IsBounded b o d → IsBounded b (outer b (Some x) o) d
outer_rest b x d None h = cc
outer_rest b x d (Some e) h = by (bounds b (datum_cmp x e)) refl
  where
    by : (t : Bool) → bounds b (datum_cmp x e) ≡ t → IsBounded b (if t then Some x else Some e) d
    by true k = bounds_trans b x e d k h
    by false k = h

bounded : (b : Bound) (ds : List Datum) (k : ℕ) (d : Datum) → k < length ds → is_null (slice_index_or ds k d) ≡ false → IsBounded b (bound_of b ds) (slice_index_or ds k d)
unfolding bound_of
bounded b [] k d l n = absurd (omega (arith, l))
bounded b (x ∷ ds) zero d l n = rw n (outer_first b x (bound_of b ds))
bounded b (x ∷ ds) (suc k) d l n = by (is_null x) (bounded b ds k d (omega (arith, l)) n)
  where
    by : (t : Bool) → IsBounded b (bound_of b ds) (slice_index_or ds k d) → IsBounded b (outer b (if t then None else Some x) (bound_of b ds)) (slice_index_or ds k d)
    by true h = h
    by false h = outer_rest b x (slice_index_or ds k d) (bound_of b ds) h

below_of : (o : Option Datum) (d : Datum) → IsBounded Least o d → IfSome o (λ lo. Le lo d)
below_of None d h = cc
below_of (Some lo) d h = h

above_of : (o : Option Datum) (d : Datum) → IsBounded Greatest o d → IfSome o (λ hi. Le d hi)
above_of None d h = cc
above_of (Some hi) d h = turned hi d h

-- ---- the statistics of rows

nothing_is_true : (ds : List Datum) → IsTrueOf no_stats ds
nothing_is_true ds = record { nulls_counted = tt; above = λ k d l n. tt; below = λ k d l n. tt }

column_is_true : (ds : List Datum) → IsTrueOf (column_stats ds) ds
column_is_true ds =
    record {
      nulls_counted = refl;
      above = λ k d l n. below_of (bound_of Least ds) (slice_index_or ds k d) (bounded Least ds k d l n);
      below = λ k d l n. above_of (bound_of Greatest ds) (slice_index_or ds k d) (bounded Greatest ds k d l n);
    }

data_column_is_true : (s : TableSchema) (k : ℕ) (ds : List Datum) → IsTrueOf (of_data_column s k (column_stats ds)) ds
data_column_is_true s k ds = by (is_partition_column s k)
  where
    by : (b : Bool) → IsTrueOf (if b then no_stats else column_stats ds) ds
    by true = nothing_is_true ds
    by false = column_is_true ds

each_from_at : {A : Type 0} (P : ℕ → A → Type 0) (f : ℕ → Column → A) (none : A) → ((k : ℕ) (c : Column) → P k (f k c)) → ((k : ℕ) → P k none) → (i : ℕ) (cs : List Column) (k : ℕ) → P (i + k) (slice_index_or (each_from f i cs) k none)
each_from_at P f none h n i [] k = n (i + k)
each_from_at P f none h n i (c ∷ cs) zero = let e : i ≡ i + 0 = omega arith in subst (λ m. P m (f i c)) e (h i c)
each_from_at P f none h n i (c ∷ cs) (suc k) =
    let e : i + 1 + k ≡ i + suc k = omega arith in
    subst (λ m. P m (slice_index_or (each_from f (i + 1) cs) k none)) e (each_from_at P f none h n (i + 1) cs k)

-- what holds of what there is of each column, and of what stands for a column that isn't there, holds at each place
pub each_at : {A : Type 0} (P : ℕ → A → Type 0) (f : ℕ → Column → A) (none : A) → ((k : ℕ) (c : Column) → P k (f k c)) → ((k : ℕ) → P k none) → (cs : List Column) (k : ℕ) → P k (slice_index_or (each_from f 0 cs) k none)
each_at P f none h n cs k =
    let e : 0 + k ≡ k = omega arith in
    subst (λ m. P m (slice_index_or (each_from f 0 cs) k none)) e (each_from_at P f none h n 0 cs k)

pub stats_are_true : StatsAreTrue
stats_are_true s rows =
    record {
      counted = refl;
      each_column =
          each_at (λ k c. IsTrueOf c (column_in rows k)) (λ k c. of_data_column s k (column_stats (column_in rows k))) no_stats (λ k c. data_column_is_true s k (column_in rows k))
          (λ k. nothing_is_true (column_in rows k)) s.columns;
    }

-- the same, part by part
pub are_true : (s : TableSchema) (rows : List (List Datum)) (n : ℕ) (cs : List ColumnStats) → n ≡ length rows → cs ≡ columns_of s rows → AreTrue (record { count = Some n; columns = cs }) rows
are_true s rows n cs e f =
    let all = stats_are_true s rows in
    record {
      counted = e;
      each_column = λ k. subst (λ x. IsTrueOf (slice_index_or x k no_stats) (column_in rows k)) (sym f) (all.each_column k);
    }

-- ---- what is kept of statistics

-- the first characters of a text are at most the text
chars_at_most : (n : ℕ) (t : List ℕ) → is_le (slice_cmp nat_cmp (take_chars n t) t) ≡ true
unfolding take_chars
chars_at_most n [] = refl
chars_at_most n (b ∷ t) = by (is_char_start b) (n == 0) (chars_at_most n t) (chars_at_most (n - 1) t)
  where
    more : (s : List ℕ) → is_le (slice_cmp nat_cmp s t) ≡ true → is_le (slice_cmp nat_cmp (b ∷ s) (b ∷ t)) ≡ true
    more s h = ap (λ o. is_le (ordering_then o (slice_cmp nat_cmp s t))) (tied_itself nat_cmp_total b) ∙ h

    by : (s z : Bool) → is_le (slice_cmp nat_cmp (take_chars n t) t) ≡ true → is_le (slice_cmp nat_cmp (take_chars (n - 1) t) t) ≡ true
        → is_le (slice_cmp nat_cmp (if s then (if z then [] else b ∷ take_chars (n - 1) t) else b ∷ take_chars n t) (b ∷ t)) ≡ true
    by true true h k = refl
    by true false h k = more (take_chars (n - 1) t) k
    by false z h k = more (take_chars n t) h

kept_day_below : (n : ℤ) (d : Datum) → Le (datum.Date n) d → IfSome (option_map datum.Date (kept_day n)) (λ lo. Le lo d)
kept_day_below n d h = by (is_day_number n)
  where
    by : (b : Bool) → IfSome (option_map datum.Date (if b then Some n else None)) (λ lo. Le lo d)
    by true = h
    by false = tt

kept_day_above : (n : ℤ) (d : Datum) → Le d (datum.Date n) → IfSome (option_map datum.Date (kept_day n)) (λ hi. Le d hi)
kept_day_above n d h = by (is_day_number n)
  where
    by : (b : Bool) → IfSome (option_map datum.Date (if b then Some n else None)) (λ hi. Le d hi)
    by true = h
    by false = tt

kept_below : (o : Option Datum) (d : Datum) → IfSome o (λ lo. Le lo d) → IfSome (option_and_then (kept Least) o) (λ lo. Le lo d)
kept_below None d h = tt
kept_below (Some datum.Null) d h = tt
kept_below (Some (datum.Boolean b)) d h = tt
kept_below (Some (datum.Long n)) d h = h
kept_below (Some (datum.Integer n)) d h = h
kept_below (Some (datum.Date n)) d h = kept_day_below n d h
kept_below (Some (datum.Text t)) d h = le_trans (datum.Text (take_chars 32 t)) (datum.Text t) d (chars_at_most 32 t) h

kept_above : (o : Option Datum) (d : Datum) → IfSome o (λ hi. Le d hi) → IfSome (option_and_then (kept Greatest) o) (λ hi. Le d hi)
kept_above None d h = tt
kept_above (Some datum.Null) d h = tt
kept_above (Some (datum.Boolean b)) d h = tt
kept_above (Some (datum.Long n)) d h = h
kept_above (Some (datum.Integer n)) d h = h
kept_above (Some (datum.Date n)) d h = kept_day_above n d h
kept_above (Some (datum.Text t)) d h = by (length (take_chars 32 t) == length t)
  where
    by : (b : Bool) → IfSome (option_map datum.Text (if b then Some t else None)) (λ hi. Le d hi)
    by true = h
    by false = tt

kept_is_true : (c : ColumnStats) (ds : List Datum) → IsTrueOf c ds → IsTrueOf (kept_column c) ds
kept_is_true c ds h =
    record {
      nulls_counted = h.nulls_counted;
      above = λ k d l n. kept_below c.least (slice_index_or ds k d) (h.above k d l n);
      below = λ k d l n. kept_above c.greatest (slice_index_or ds k d) (h.below k d l n);
    }

kept_at : (cs : List ColumnStats) (k : ℕ) → slice_index_or (map kept_column cs) k no_stats ≡ kept_column (slice_index_or cs k no_stats)
kept_at [] k = refl
kept_at (c ∷ cs) zero = refl
kept_at (c ∷ cs) (suc k) = kept_at cs k

pub kept_stats_are_true : KeptStatsAreTrue
kept_stats_are_true st rows h =
    record {
      counted = h.counted;
      each_column = λ k. subst (λ c. IsTrueOf c (column_in rows k)) (sym (kept_at st.columns k)) (kept_is_true (stats_at st k) (column_in rows k) (h.each_column k));
    }

-- ---- kinds

each_some : {A : Type 0} (P : Datum → Type 0) (f : A → Datum) (o : Option A) → ((x : A) → P (f x)) → IfSome (option_map f o) P
each_some P f None h = tt
each_some P f (Some x) h = h x

pub bounds_are_of_their_kind : BoundsAreOfTheirKind
bounds_are_of_their_kind kind.Long d = each_some (λ b. is_of_kind kind.Long b ≡ true) datum.Long (long_as d) (λ n. refl)
bounds_are_of_their_kind kind.Integer d = each_some (λ b. is_of_kind kind.Integer b ≡ true) datum.Integer (option_and_then narrowed (long_as d)) (λ n. refl)
bounds_are_of_their_kind kind.Boolean d = tt
bounds_are_of_their_kind kind.String d = each_some (λ b. is_of_kind kind.String b ≡ true) datum.Text (as_str d) (λ t. refl)
bounds_are_of_their_kind kind.Date d = each_some (λ b. is_of_kind kind.Date b ≡ true) datum.Date (option_and_then date_in (as_str d)) (λ n. refl)
