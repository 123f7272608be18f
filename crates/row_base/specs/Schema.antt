-- What a schema is, which rows fit it, and the first fault of columns and of rows.
use Rattle.std.specs.Prelude.{◌≡◌, ◌≢◌, ℕ, ◌+◌, ◌^◌, ◌<◌, ◌≤◌, ◌==◌, nat_lt, nat_le, Bool, true, false, not, ◌||◌, ◌&&◌, ◌⊎◌, if◌then◌else◌, List, [], ◌∷◌, ◌++◌, length, Option, Some, None, ℤ, pos, negsuc, take, slice_index, slice_index_or}
use Rattle.std.specs.List.{list_any, position, All, AllPairs}
use Rattle.std.specs.Option.{option_map, option_map_or, option_or}
use Rattle.std.specs.Cmp.Lexicographic.{pointwise}
use Rattle.row_base.specs.declared.row.Datum.{Datum}
use Rattle.row_base.specs.declared.row.Datum.TheVariants as datum
use Rattle.row_base.specs.declared.row.Kind.{Kind}
use Rattle.row_base.specs.declared.row.Kind.TheVariants as kind
use Rattle.row_base.specs.declared.schema.Column.{Column}
use Rattle.row_base.specs.declared.schema.SchemaFault.{SchemaFault}
use Rattle.row_base.specs.declared.schema.SchemaFault.TheVariants as schema
use Rattle.row_base.specs.declared.schema.RowFault.{RowFault}
use Rattle.row_base.specs.declared.schema.RowFault.TheVariants as fault

-- a schema: its columns, and the places among them of the columns by which the table is partitioned
pub record TableSchema : Type 0 where
  pub columns : List Column
  pub partition : List ℕ

-- the first element that is wrong after those before it, with its place
abbrev pub first_after : {A : Type 0} → (List A → A → Bool) → List A → List A → Option (ℕ × A)
first_after wrong before [] = None
first_after wrong before (x ∷ xs) =
    if wrong before x then Some (length before, x) else first_after wrong (before ++ x ∷ []) xs

-- at place k stands the first element that is wrong after those before it
pub record IsFirstWrong {A : Type 0} (wrong : List A → A → Bool) (xs : List A) (k : ℕ) : Type 0 where
  pub within : k < length xs
  pub here : (d : A) → wrong (take k xs) (slice_index_or xs k d) ≡ true
  pub before : (j : ℕ) (d : A) → j < k → wrong (take j xs) (slice_index_or xs j d) ≡ false

-- a column of this name is among these
abbrev pub is_named : List Column → List ℕ → Bool
is_named columns name = list_any (λ c. pointwise ◌==◌ c.name name) columns

-- a column whose name stood before
abbrev pub repeats_name : List Column → Column → Bool
repeats_name before c = is_named before c.name

-- a place that none of so many columns has, that stood before, or with which no column is left for data
abbrev pub is_wrong_place : ℕ → List ℕ → ℕ → Bool
is_wrong_place count before place =
    not (nat_lt place count) || list_any (λ p. p == place) before || (length before + 1 == count)

-- one column at least, and 64 at most
abbrev pub is_column_count : ℕ → Bool
is_column_count n = nat_lt 0 n && nat_le n 64

-- the place of the column of this name
abbrev pub column_place : TableSchema → List ℕ → Option ℕ
column_place s name = position (λ c. pointwise ◌==◌ c.name name) s.columns

-- the column at this place is a partition column
abbrev pub is_partition_column : TableSchema → ℕ → Bool
is_partition_column s place = list_any (λ p. p == place) s.partition

-- why columns and places make no schema: the count first, then the names, then the places
abbrev pub schema_fault : List Column → List ℕ → Option SchemaFault
schema_fault columns partition =
    if is_column_count (length columns) then
    option_or (option_map (λ x. schema.Twice x.0) (first_after repeats_name [] columns))
    (option_map (λ x. schema.Partition x.1) (first_after (is_wrong_place (length columns)) [] partition))
    else Some schema.Columns

-- what holds of every schema
pub record IsSchema (s : TableSchema) : Type 0 where
  pub least : 0 < length s.columns
  pub most : length s.columns ≤ 64
  pub names : AllPairs (λ c d. c.name ≢ d.name) s.columns
  pub places : All (λ p. p < length s.columns) s.partition
  pub once : AllPairs ◌≢◌ s.partition
  pub data_left : length s.partition < length s.columns

-- what a fault of columns and places says of them
abbrev pub IsSchemaFault : List Column → List ℕ → SchemaFault → Type 0
IsSchemaFault columns partition schema.Columns = (length columns ≡ 0) ⊎ (64 < length columns)
IsSchemaFault columns partition (schema.Twice k) = IsFirstWrong repeats_name columns k
IsSchemaFault columns partition (schema.Partition p) =
    (k : ℕ) × IsFirstWrong (is_wrong_place (length columns)) partition k × (slice_index partition k ≡ p)

-- a datum that isn't null is of one kind
abbrev pub is_of_kind : Kind → Datum → Bool
is_of_kind kind.Long (datum.Long n) = true
is_of_kind kind.Integer (datum.Integer n) = true
is_of_kind kind.Boolean (datum.Boolean b) = true
is_of_kind kind.String (datum.Text t) = true
is_of_kind kind.Date (datum.Date n) = true
is_of_kind k d = false

-- the text without a byte, which a table's log reads as null where it is a partition value
abbrev pub is_empty_text : Datum → Bool
is_empty_text (datum.Text []) = true
is_empty_text d = false

-- what is wrong with a datum in the column at this place
abbrev pub datum_fault : List ℕ → ℕ → Column → Datum → Option RowFault
datum_fault partition place column datum.Null =
    if column.nullable then None else Some (fault.Null place)
datum_fault partition place column d =
    if not (is_of_kind column.kind d) then Some (fault.Kind place)
    else (if is_empty_text d && list_any (λ p. p == place) partition then Some (fault.EmptyPartition place) else None)

-- the same of the first column that is wrong, from this place on
abbrev pub first_datum_fault : List ℕ → ℕ → List Column → List Datum → Option RowFault
first_datum_fault partition place (c ∷ cs) (d ∷ ds) =
    option_or (datum_fault partition place c d) (first_datum_fault partition (place + 1) cs ds)
first_datum_fault partition place cs ds = None

-- why a row doesn't fit a schema: it has another number of data, or a wrong datum
abbrev pub row_fault : TableSchema → List Datum → Option RowFault
row_fault s row =
    if length row == length s.columns then first_datum_fault s.partition 0 s.columns row
    else Some fault.Count

-- a row fits: it has a datum for each column, and none is wrong
pub record FitsSchema (s : TableSchema) (row : List Datum) : Type 0 where
  pub count : length row ≡ length s.columns
  pub each : (k : ℕ) (c : Column) (d : Datum) → k < length row → datum_fault s.partition k (slice_index_or s.columns k c) (slice_index_or row k d) ≡ None

-- the first column that is wrong, and how
pub record IsFirstWrongDatum (s : TableSchema) (row : List Datum) (f : RowFault) : Type 0 where
  pub place : ℕ
  pub count : length row ≡ length s.columns
  pub within : place < length row
  pub here : (c : Column) (d : Datum) → datum_fault s.partition place (slice_index_or s.columns place c) (slice_index_or row place d) ≡ Some f
  pub before : (j : ℕ) (c : Column) (d : Datum) → j < place → datum_fault s.partition j (slice_index_or s.columns j c) (slice_index_or row j d) ≡ None

-- what a fault of a row says of it
abbrev pub IsRowFault : TableSchema → List Datum → RowFault → Type 0
IsRowFault s row f = ((f ≡ fault.Count) × (length row ≢ length s.columns)) ⊎ IsFirstWrongDatum s row f

-- a number of 32 bits with a sign
abbrev pub is_i32 : ℤ → Bool
is_i32 (pos n) = nat_lt n (2 ^ 31)
is_i32 (negsuc n) = nat_lt n (2 ^ 31)

-- the integer that a long is in a column of integers, where it fits
abbrev pub narrowed_number : Kind → Datum → Option ℤ
narrowed_number kind.Integer (datum.Long n) = if is_i32 n then Some n else None
narrowed_number k d = None

-- a datum as a column takes it
abbrev pub settled_datum : Kind → Datum → Datum
settled_datum k d = option_map_or datum.Integer (narrowed_number k d) d

-- the row with each datum as its column takes it
abbrev pub settled : List Column → List Datum → List Datum
settled (c ∷ cs) (d ∷ ds) = settled_datum c.kind d ∷ settled cs ds
settled cs ds = ds
