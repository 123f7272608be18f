-- What is written of statistics reads as what is kept of them.
use Rattle.std.proofs.Common.{◌≡◌, ◌≢◌, ◌==◌, ◌≤◌, ◌<◌, ◌^◌, ℕ, ◌+◌, suc, zero, Bool, true, false, ◌||◌, ◌&&◌, nat_lt, if◌then◌else◌, List, [], ◌∷◌, length, map, slice_index_or, codes, Option, Some, None, ℤ, pos, negsuc, neg_ℤ, refl, sym, ap, ◌∙◌, subst, arith}
use Rattle.std.specs.Prelude.{IfSome, option_and_then, option_map}
use Rattle.std.specs.List.{All, AllPairs}
use Rattle.std.specs.Fmt.{take_chars}
use Rattle.std.specs.Ordering.{nat_cmp, match_ordering}
use Rattle.std.specs.Cmp.Lexicographic.{slice_cmp}
use Rattle.std.specs.declared.cmp.Ordering.{Ordering}
use Rattle.std.specs.declared.cmp.Ordering.TheVariants.{Less, Equal, Greater}
use Rattle.std.proofs.lemmas.Bool.{ltb-true, lt-ltb, and_parts}
use Rattle.std.proofs.lemmas.Float.{T_from_true}
use lib.Signed.{le_z}
use Rattle.serde_json.specs.Data.{Data, null, boolean, number, string, array, object, Members, no_members, member, put, depth, members_depth}
use Rattle.serde_json.specs.Find.{get, get_member, as_number, as_str, as_u64, as_i64, of_integer}
use Rattle.serde_json.specs.Written.{has_float, members_have_float}
use Rattle.serde_json.proofs.Views.{get_member-put, get_member-put_other}
use Rattle.json_lines.specs.Kinds.{as_itself, unless_null, present}
use Rattle.json_lines.specs.Lines.{value_of_line, object_of_line}
use Rattle.json_lines.specs.Written.{with_member, integer_data}
use Rattle.row_base.specs.declared.row.Datum.{Datum}
use Rattle.row_base.specs.declared.row.Datum.TheVariants as datum
use Rattle.row_base.specs.declared.row.Kind.{Kind}
use Rattle.row_base.specs.declared.row.Kind.TheVariants as kind
use Rattle.row_base.specs.declared.schema.Column.{Column}
use Rattle.row_base.specs.Dates.{IsDayNumber, date_in, text_of_day}
use Rattle.row_base.specs.Numbers.{is_i64}
use Rattle.row_base.specs.Schema.{TableSchema, IsSchema, is_partition_column, is_i32}
use Rattle.row_base.proofs.DateLemmas.{number_given_back}
use Rattle.file_stats.specs.declared.bound.Bound.{Bound}
use Rattle.file_stats.specs.declared.bound.Bound.TheVariants.{Least, Greatest}
use Rattle.file_stats.specs.declared.write.Part.{Part}
use Rattle.file_stats.specs.declared.write.Part.TheVariants.{Bounds, Nulls}
use Rattle.file_stats.specs.declared.stats.ColumnStats.{ColumnStats}
use Rattle.file_stats.specs.declared.stats.Stats.{Stats}
use Rattle.file_stats.specs.Columns.{no_stats, of_data_column, each_from, stats_at}
use Rattle.file_stats.specs.Kept.{kept_text, is_day_number, kept_day, kept, kept_column, kept_stats}
use Rattle.file_stats.specs.Laws.{FitsKind, ColumnFits, ColumnsFit, StatsFit}
use Rattle.file_stats.specs.Reading.{count_as, long_as, narrowed, bound_as, said, column_as, columns_as, stats_as, stats_in}
use Rattle.file_stats.specs.Written.{number_data, day_data, bound_data, bound_in, part_data, part_at, members_from, part_object, stats_data}

-- ---- one bound

-- what is said of a value that there may be
abbrev if_said : {A : Type 0} → (Data → Option A) → Option Data → Option A
if_said kind o = option_and_then kind (option_and_then unless_null o)

long_back : (n : ℤ) → is_i64 n ≡ true → long_as (number_data n) ≡ Some n
long_back (pos n) e = ap (λ b. if b then Some (pos n) else None) e
long_back (negsuc n) e = refl

wide : (n : ℤ) → is_i32 n ≡ true → is_i64 n ≡ true
wide (pos n) e = let h : n < 2 ^ 31 = ltb-true n (2 ^ 31) e in lt-ltb n (2 ^ 63) (omega arith)
wide (negsuc n) e = let h : n < 2 ^ 31 = ltb-true n (2 ^ 31) e in lt-ltb n (2 ^ 63) (omega arith)

integer_back : (n : ℤ) → is_i32 n ≡ true → option_and_then narrowed (long_as (number_data n)) ≡ Some n
integer_back n e = ap (option_and_then narrowed) (long_back n (wide n e)) ∙ ap (λ b. if b then Some n else None) e

-- a number that passes the test is that of a day
of_test : (n : ℤ) → is_day_number n ≡ true → IsDayNumber n
of_test n e =
    let p = and_parts (le_z (neg_ℤ (pos 719_162)) n) (le_z n (pos 2_932_896)) e in
    (record { le = T_from_true (le_z (neg_ℤ (pos 719_162)) n) p.0 }, record { le = T_from_true (le_z n (pos 2_932_896)) p.1 })

day_back : (n : ℤ) (b : Bool) → is_day_number n ≡ b → if_said (bound_as kind.Date) (option_map day_data (if b then Some n else None)) ≡ option_map datum.Date (if b then Some n else None)
day_back n true e = ap (option_map datum.Date) (number_given_back n (of_test n e))
day_back n false e = refl

text_back : (o : Option (List ℕ)) → if_said (bound_as kind.String) (option_map string o) ≡ option_map datum.Text o
text_back None = refl
text_back (Some t) = refl

value_back : (b : Bound) (k : Kind) (d : Datum) → FitsKind k d → if_said (bound_as k) (bound_data b d) ≡ kept b d
value_back b kind.Long (datum.Long n) h = ap (option_map datum.Long) (long_back n h)
value_back b kind.Integer (datum.Integer n) h = ap (option_map datum.Integer) (integer_back n h)
value_back b kind.Boolean (datum.Boolean x) h = refl
value_back b kind.String (datum.Text t) h = text_back (kept_text b t)
value_back b kind.Date (datum.Date n) h = day_back n (is_day_number n) refl
value_back b k d h = absurd h

bound_back : (b : Bound) (k : Kind) (o : Option Datum) → IfSome o (FitsKind k) → if_said (bound_as k) (option_and_then (bound_data b) o) ≡ option_and_then (kept b) o
bound_back b k None h = refl
bound_back b k (Some d) h = value_back b k d h

count_back : (o : Option ℕ) → if_said count_as (option_map integer_data o) ≡ o
count_back None = refl
count_back (Some n) = refl

-- ---- members by the names of columns

-- none of the columns has this name
abbrev IsNoName : List ℕ → List Column → Type 0
IsNoName name [] = Unit {0}
IsNoName name (c ∷ cs) = (name ≢ c.name) × IsNoName name cs

-- each column has a name of its own
abbrev HaveOwnNames : List Column → Type 0
HaveOwnNames [] = Unit {0}
HaveOwnNames (c ∷ cs) = IsNoName c.name cs × HaveOwnNames cs

no_name : (name : List ℕ) (cs : List Column) → ((j : ℕ) (d : Column) → j < length cs → name ≢ (slice_index_or cs j d).name) → IsNoName name cs
no_name name [] h = tt
no_name name (c ∷ cs) h = (h 0 c (omega arith), no_name name cs (λ j d l. h (suc j) d (omega (arith, l))))

own_names : (cs : List Column) → AllPairs (λ c d. c.name ≢ d.name) cs → HaveOwnNames cs
own_names [] h = tt
own_names (c ∷ cs) h =
    (no_name c.name cs (λ j d l. h 0 (suc j) d (omega arith) (omega (arith, l))), own_names cs (λ i j d l m. h (suc i) (suc j) d (omega (arith, l)) (omega (arith, m))))

with_other : (q k : List ℕ) (o : Option Data) (ms : Members) → q ≢ k → get_member q (with_member k o ms) ≡ get_member q ms
unfolding with_member
with_other q k None ms e = refl
with_other q k (Some d) ms e = get_member-put_other q k d ms e

with_itself : (k : List ℕ) (o : Option Data) (ms : Members) → get_member k ms ≡ None → get_member k (with_member k o ms) ≡ o
unfolding with_member
with_itself k None ms e = e
with_itself k (Some d) ms e = get_member-put k d ms

-- a name that none of the columns has keeps what it had
stays : (f : ℕ → Option Data) (q : List ℕ) (i : ℕ) (cs : List Column) (ms : Members) → IsNoName q cs → get_member q (members_from f i cs ms) ≡ get_member q ms
stays f q i [] ms h = refl
stays f q i (c ∷ cs) ms h = stays f q (i + 1) cs (with_member c.name (f i) ms) h.1 ∙ with_other q c.name (f i) ms h.0

-- none of the columns' names is there
abbrev AreFree : List Column → Members → Type 0
AreFree [] ms = Unit {0}
AreFree (c ∷ cs) ms = (get_member c.name ms ≡ None) × AreFree cs ms

still_free : (name : List ℕ) (o : Option Data) (cs : List Column) (ms : Members) → IsNoName name cs → AreFree cs ms → AreFree cs (with_member name o ms)
still_free name o [] ms n h = tt
still_free name o (c ∷ cs) ms n h = (with_other c.name name o ms (λ e. n.0 (sym e)) ∙ h.0, still_free name o cs ms n.1 h.1)

-- members that say of each column what f says of its place
abbrev SayEach : (ℕ → Option Data) → ℕ → List Column → Members → Type 0
SayEach f i [] ms = Unit {0}
SayEach f i (c ∷ cs) ms = (get_member c.name ms ≡ f i) × SayEach f (i + 1) cs ms

say_each : (f : ℕ → Option Data) (i : ℕ) (cs : List Column) (ms : Members) → HaveOwnNames cs → AreFree cs ms → SayEach f i cs (members_from f i cs ms)
say_each f i [] ms n h = tt
say_each f i (c ∷ cs) ms n h =
    (stays f c.name (i + 1) cs (with_member c.name (f i) ms) n.0 ∙ with_itself c.name (f i) ms h.0, say_each f (i + 1) cs (with_member c.name (f i) ms) n.1 (still_free c.name (f i) cs ms n.0 h.1))

all_free : (cs : List Column) → AreFree cs no_members
all_free [] = tt
all_free (c ∷ cs) = (refl, all_free cs)

-- ---- the parts of the object

abbrev three_parts : Data → Data → Data → Members
three_parts a b c = member (codes "maxValues") a (member (codes "minValues") b (member (codes "nullCount") c no_members))

abbrev whole : Option ℕ → Data → Data → Data → Data
whole o a b c = object (with_member (codes "numRecords") (option_map integer_data o) (three_parts a b c))

count_there : (o : Option ℕ) (a b c : Data) → present (codes "numRecords") (whole o a b c) ≡ option_map integer_data o
unfolding present with_member
count_there None a b c = refl
count_there (Some n) a b c = refl

greatest_there : (o : Option ℕ) (a b c : Data) → present (codes "maxValues") (whole o a b c) ≡ unless_null a
unfolding present with_member
greatest_there None a b c = refl
greatest_there (Some n) a b c = refl

least_there : (o : Option ℕ) (a b c : Data) → present (codes "minValues") (whole o a b c) ≡ unless_null b
unfolding present with_member
least_there None a b c = refl
least_there (Some n) a b c = refl

nulls_there : (o : Option ℕ) (a b c : Data) → present (codes "nullCount") (whole o a b c) ≡ unless_null c
unfolding present with_member
nulls_there None a b c = refl
nulls_there (Some n) a b c = refl

-- the members of a part
abbrev members_of_part : TableSchema → Part → Stats → Members
members_of_part s p st = members_from (part_at s p st) 0 s.columns no_members

said_greatest : (s : TableSchema) (st : Stats) (name : List ℕ) → said (codes "maxValues") name (stats_data s st) ≡ option_and_then unless_null (get_member name (members_of_part s (Bounds Greatest) st))
unfolding stats_data part_object present
said_greatest s st name = ap (option_and_then (present name)) (greatest_there st.count (part_object s (Bounds Greatest) st) (part_object s (Bounds Least) st) (part_object s Nulls st))

said_least : (s : TableSchema) (st : Stats) (name : List ℕ) → said (codes "minValues") name (stats_data s st) ≡ option_and_then unless_null (get_member name (members_of_part s (Bounds Least) st))
unfolding stats_data part_object present
said_least s st name = ap (option_and_then (present name)) (least_there st.count (part_object s (Bounds Greatest) st) (part_object s (Bounds Least) st) (part_object s Nulls st))

said_nulls : (s : TableSchema) (st : Stats) (name : List ℕ) → said (codes "nullCount") name (stats_data s st) ≡ option_and_then unless_null (get_member name (members_of_part s Nulls st))
unfolding stats_data part_object present
said_nulls s st name = ap (option_and_then (present name)) (nulls_there st.count (part_object s (Bounds Greatest) st) (part_object s (Bounds Least) st) (part_object s Nulls st))

-- ---- each column

one_on : (i j : ℕ) → i + suc j ≡ i + 1 + j
one_on i j = omega arith

abbrev column_of : Option ℕ → Option Datum → Option Datum → ColumnStats
column_of n lo hi = record { nulls = n; least = lo; greatest = hi }

-- what is read of a column where this is said
abbrev read_from : Kind → Option Data → Option Data → Option Data → ColumnStats
read_from k n lo hi = column_of (option_and_then count_as n) (option_and_then (bound_as k) lo) (option_and_then (bound_as k) hi)

read_same : (k : Kind) (n m lo low hi high : Option Data) → n ≡ m → lo ≡ low → hi ≡ high → read_from k n lo hi ≡ read_from k m low high
read_same k n m lo low hi high e f g = ap (λ x. read_from k x lo hi) e ∙ ap (λ x. read_from k m x hi) f ∙ ap (λ x. read_from k m low x) g

-- a data column, of which each part says what there is
data_back : (k : Kind) (st : ColumnStats) → IfSome st.least (FitsKind k) → IfSome st.greatest (FitsKind k)
    → read_from k (option_and_then unless_null (part_data Nulls st)) (option_and_then unless_null (part_data (Bounds Least) st)) (option_and_then unless_null (part_data (Bounds Greatest) st)) ≡ kept_column st
data_back k st lo hi =
    ap (λ n. column_of n (if_said (bound_as k) (part_data (Bounds Least) st)) (if_said (bound_as k) (part_data (Bounds Greatest) st))) (count_back st.nulls)
    ∙ ap (λ l. column_of st.nulls l (if_said (bound_as k) (part_data (Bounds Greatest) st))) (bound_back Least k st.least lo)
    ∙ ap (λ g. column_of st.nulls (option_and_then (kept Least) st.least) g) (bound_back Greatest k st.greatest hi)

-- what a part says of a column
abbrev part_in : TableSchema → Part → ℕ → ColumnStats → Option Data
part_in s p k col = if is_partition_column s k then None else part_data p col

one_back : (s : TableSchema) (all : Stats) (c : Column) (k : ℕ) (col : ColumnStats) → ColumnFits s k c col
    → get_member c.name (members_of_part s Nulls all) ≡ part_in s Nulls k col
    → get_member c.name (members_of_part s (Bounds Least) all) ≡ part_in s (Bounds Least) k col
    → get_member c.name (members_of_part s (Bounds Greatest) all) ≡ part_in s (Bounds Greatest) k col
    → of_data_column s k (column_as (stats_data s all) c) ≡ kept_column col
one_back s all c k col fits nulls least greatest = by (is_partition_column s k) refl
  where
    by : (b : Bool) → is_partition_column s k ≡ b → (if b then no_stats else column_as (stats_data s all) c) ≡ kept_column col
    by true e = ap kept_column (sym (fits.nothing e))
    by false e =
        let part = λ (p : Part). ap (λ b. if b then None else part_data p col) e in
        read_same c.kind (said (codes "nullCount") c.name (stats_data s all)) (option_and_then unless_null (part_data Nulls col))
        (said (codes "minValues") c.name (stats_data s all)) (option_and_then unless_null (part_data (Bounds Least) col))
        (said (codes "maxValues") c.name (stats_data s all)) (option_and_then unless_null (part_data (Bounds Greatest) col))
        (said_nulls s all c.name ∙ ap (option_and_then unless_null) (nulls ∙ part Nulls))
        (said_least s all c.name ∙ ap (option_and_then unless_null) (least ∙ part (Bounds Least)))
        (said_greatest s all c.name ∙ ap (option_and_then unless_null) (greatest ∙ part (Bounds Greatest)))
        ∙ data_back c.kind col fits.least fits.greatest

-- the columns from this place on
columns_back : (s : TableSchema) (all : Stats) (i : ℕ) (cs : List Column) (cols : List ColumnStats) → ColumnsFit s i cs cols
    → ((j : ℕ) → slice_index_or cols j no_stats ≡ stats_at all (i + j))
    → SayEach (part_at s Nulls all) i cs (members_of_part s Nulls all)
    → SayEach (part_at s (Bounds Least) all) i cs (members_of_part s (Bounds Least) all)
    → SayEach (part_at s (Bounds Greatest) all) i cs (members_of_part s (Bounds Greatest) all)
    → each_from (λ k c. of_data_column s k (column_as (stats_data s all) c)) i cs ≡ map kept_column cols
columns_back s all i [] [] fits at nulls least greatest = refl
columns_back s all i [] (col ∷ cols) fits at nulls least greatest = absurd fits
columns_back s all i (c ∷ cs) [] fits at nulls least greatest = absurd fits
columns_back s all i (c ∷ cs) (col ∷ cols) fits at nulls least greatest =
    let same : i + 0 ≡ i = omega arith in
    let here : stats_at all i ≡ col = sym (at 0 ∙ ap (stats_at all) same) in
    let part = λ (p : Part). ap (part_in s p i) here in
    let head : of_data_column s i (column_as (stats_data s all) c) ≡ kept_column col =
    one_back s all c i col fits.0 (nulls.0 ∙ part Nulls) (least.0 ∙ part (Bounds Least)) (greatest.0 ∙ part (Bounds Greatest)) in
    let behind : (j : ℕ) → slice_index_or cols j no_stats ≡ stats_at all (i + 1 + j) = λ j. at (suc j) ∙ ap (stats_at all) (one_on i j) in
    ap (λ x. x ∷ each_from (λ k c. of_data_column s k (column_as (stats_data s all) c)) (i + 1) cs) head
    ∙ ap (λ xs. kept_column col ∷ xs) (columns_back s all (i + 1) cs cols fits.1 behind nulls.1 least.1 greatest.1)

counted : (o : Option ℕ) → option_and_then count_as (option_map integer_data o) ≡ o
counted None = refl
counted (Some n) = refl

count_read : (s : TableSchema) (st : Stats) → option_and_then count_as (present (codes "numRecords") (stats_data s st)) ≡ st.count
unfolding stats_data
count_read s st =
    ap (option_and_then count_as) (count_there st.count (part_object s (Bounds Greatest) st) (part_object s (Bounds Least) st) (part_object s Nulls st)) ∙ counted st.count

from_none : (j : ℕ) → j ≡ 0 + j
from_none j = omega arith

abbrev file_of : Option ℕ → List ColumnStats → Stats
file_of n cs = record { count = n; columns = cs }

all_back : (s : TableSchema) (st : Stats) → IsSchema s → StatsFit s st → stats_as s (stats_data s st) ≡ kept_stats st
all_back s st is fits =
    let own = own_names s.columns is.names in
    let each = λ (p : Part). say_each (part_at s p st) 0 s.columns no_members own (all_free s.columns) in
    let columns : columns_as s (stats_data s st) ≡ map kept_column st.columns =
    columns_back s st 0 s.columns st.columns fits (λ j. ap (stats_at st) (from_none j)) (each Nulls) (each (Bounds Least)) (each (Bounds Greatest)) in
    ap (λ n. file_of n (columns_as s (stats_data s st))) (count_read s st) ∙ ap (file_of st.count) columns

as_object : (s : TableSchema) (st : Stats) → as_itself (stats_data s st) ≡ Some (stats_data s st)
unfolding stats_data
as_object s st = refl

-- a text that is the JSON of statistics reads as what is kept of them
pub stats_back : (text : List ℕ) (s : TableSchema) (st : Stats) → value_of_line text ≡ Some (stats_data s st) → IsSchema s → StatsFit s st → stats_in s text ≡ Some (kept_stats st)
unfolding object_of_line
stats_back text s st e is fits =
    ap (λ o. option_map (stats_as s) (option_and_then as_itself o)) e ∙ ap (option_map (stats_as s)) (as_object s st) ∙ ap Some (all_back s st is fits)

-- ---- no float, and few levels

-- what holds of each member's value
abbrev AllMembers : (Data → Type 0) → Members → Type 0
AllMembers P no_members = Unit {0}
AllMembers P (member k d ms) = P d × AllMembers P ms

placed : (P : Data → Type 0) (o : Ordering) (k l : List ℕ) (d e : Data) (ms later : Members) → P d → P e → AllMembers P ms → AllMembers P later
    → AllMembers P (match_ordering o (member k d (member l e ms)) (member l d ms) (member l e later))
placed P Less k l d e ms later p q all more = (p, (q, all))
placed P Equal k l d e ms later p q all more = (p, all)
placed P Greater k l d e ms later p q all more = (q, more)

all_put : (P : Data → Type 0) (k : List ℕ) (d : Data) (ms : Members) → P d → AllMembers P ms → AllMembers P (put k d ms)
all_put P k d no_members p all = (p, tt)
all_put P k d (member l e ms) p all = placed P (slice_cmp nat_cmp k l) k l d e ms (put k d ms) p all.0 all.1 (all_put P k d ms p all.1)

all_with : (P : Data → Type 0) (k : List ℕ) (o : Option Data) (ms : Members) → IfSome o P → AllMembers P ms → AllMembers P (with_member k o ms)
unfolding with_member
all_with P k None ms p all = all
all_with P k (Some d) ms p all = all_put P k d ms p all

all_from : (P : Data → Type 0) (f : ℕ → Option Data) → ((k : ℕ) → IfSome (f k) P) → (i : ℕ) (cs : List Column) (ms : Members) → AllMembers P ms → AllMembers P (members_from f i cs ms)
all_from P f h i [] ms all = all
all_from P f h i (c ∷ cs) ms all = all_from P f h (i + 1) cs (with_member c.name (f i) ms) (all_with P c.name (f i) ms (h i) all)

-- without a float, and with so many levels at most
abbrev IsPlain : ℕ → Data → Type 0
IsPlain levels d = (has_float d ≡ false) × (depth d ≤ levels)

neither : (a b : Bool) → a ≡ false → b ≡ false → (a || b) ≡ false
neither true b h k = h
neither false b h k = k

no_float_in : (levels : ℕ) (ms : Members) → AllMembers (IsPlain levels) ms → members_have_float ms ≡ false
no_float_in levels no_members all = refl
no_float_in levels (member k d ms) all = neither (has_float d) (members_have_float ms) all.0.0 (no_float_in levels ms all.1)

few_levels : (levels : ℕ) (ms : Members) → AllMembers (IsPlain levels) ms → members_depth ms ≤ levels
few_levels levels no_members all = omega arith
few_levels levels (member k d ms) all = let here = all.0.1 in let rest = few_levels levels ms all.1 in omega arith

object_plain : (levels : ℕ) (ms : Members) → AllMembers (IsPlain levels) ms → IsPlain (levels + 1) (object ms)
object_plain levels ms all = (no_float_in levels ms all, (let rest = few_levels levels ms all in omega arith))

number_plain : (n : ℤ) → IsPlain 0 (number_data n)
number_plain (pos n) = (refl, omega arith)
number_plain (negsuc n) = (refl, omega arith)

each_plain : {A : Type 0} (f : A → Data) (o : Option A) → ((x : A) → IsPlain 0 (f x)) → IfSome (option_map f o) (IsPlain 0)
each_plain f None h = tt
each_plain f (Some x) h = h x

bound_plain : (b : Bound) (o : Option Datum) → IfSome (option_and_then (bound_data b) o) (IsPlain 0)
bound_plain b None = tt
bound_plain b (Some datum.Null) = tt
bound_plain b (Some (datum.Boolean x)) = tt
bound_plain b (Some (datum.Long n)) = number_plain n
bound_plain b (Some (datum.Integer n)) = number_plain n
bound_plain b (Some (datum.Date n)) = each_plain day_data (kept_day n) (λ d. (refl, omega arith))
bound_plain b (Some (datum.Text t)) = each_plain string (kept_text b t) (λ u. (refl, omega arith))

part_plain : (p : Part) (c : ColumnStats) → IfSome (part_data p c) (IsPlain 0)
part_plain (Bounds b) c = bound_plain b (bound_in b c)
part_plain Nulls c = each_plain integer_data c.nulls (λ n. (refl, omega arith))

at_plain : (s : TableSchema) (p : Part) (st : Stats) (k : ℕ) → IfSome (part_at s p st k) (IsPlain 0)
at_plain s p st k = by (is_partition_column s k)
  where
    by : (b : Bool) → IfSome (if b then None else part_data p (stats_at st k)) (IsPlain 0)
    by true = tt
    by false = part_plain p (stats_at st k)

object_of_part_plain : (s : TableSchema) (p : Part) (st : Stats) → IsPlain 1 (part_object s p st)
unfolding part_object
object_of_part_plain s p st = object_plain 0 (members_of_part s p st) (all_from (IsPlain 0) (part_at s p st) (at_plain s p st) 0 s.columns no_members tt)

count_plain : (o : Option ℕ) → IfSome (option_map integer_data o) (IsPlain 1)
count_plain None = tt
count_plain (Some n) = (refl, omega arith)

whole_plain : (o : Option ℕ) (a b c : Data) → IsPlain 1 a → IsPlain 1 b → IsPlain 1 c → IsPlain 2 (whole o a b c)
whole_plain o a b c p q r =
    object_plain 1 (with_member (codes "numRecords") (option_map integer_data o) (three_parts a b c))
    (all_with (IsPlain 1) (codes "numRecords") (option_map integer_data o) (three_parts a b c) (count_plain o) (p, (q, (r, tt))))

stats_plain : (s : TableSchema) (st : Stats) → IsPlain 2 (stats_data s st)
unfolding stats_data
stats_plain s st =
    whole_plain st.count (part_object s (Bounds Greatest) st) (part_object s (Bounds Least) st) (part_object s Nulls st)
    (object_of_part_plain s (Bounds Greatest) st) (object_of_part_plain s (Bounds Least) st) (object_of_part_plain s Nulls st)

pub no_float : (s : TableSchema) (st : Stats) → has_float (stats_data s st) ≡ false
no_float s st = (stats_plain s st).0

pub shallow : (s : TableSchema) (st : Stats) → depth (stats_data s st) ≤ 127
shallow s st = let few = (stats_plain s st).1 in omega arith
