-- The values of a file's partition columns that are written (PROTOCOL.md, "Partition Value Serialization").
use Rattle.std.specs.Prelude.{◌≡◌, ℕ, ◌+◌, ◌==◌, true, false, if◌then◌else◌, List, [], ◌∷◌, map, codes, slice_index_or, Option, Some}
use Rattle.std.specs.BTreeMap.{insert_entry}
use Rattle.std.specs.Cmp.Lexicographic.{slice_cmp}
use Rattle.std.specs.Fmt.{signed_decimal}
use Rattle.std.specs.List.{list_any}
use Rattle.std.specs.Ordering.{nat_cmp}
use Rattle.json_lines.specs.Kinds.{NullableEntry}
use Rattle.row_base.specs.declared.row.Datum.{Datum}
use Rattle.row_base.specs.declared.row.Datum.TheVariants as datum
use Rattle.row_base.specs.declared.schema.Column.{Column}
use Rattle.row_base.specs.Dates.{IsDayNumber, text_of_day}
use Rattle.row_base.specs.Schema.{TableSchema}
use Rattle.schema_text.specs.Partition.{filled, datum_by}

-- a date is a day of the years 1 to 9999
abbrev pub HasText : Datum → Type 0
HasText datum.Null = Unit {0}
HasText (datum.Long n) = Unit {0}
HasText (datum.Integer n) = Unit {0}
HasText (datum.Boolean b) = Unit {0}
HasText (datum.Text t) = Unit {0}
HasText (datum.Date n) = IsDayNumber n

-- the text of a datum
abbrev pub datum_text : Datum → List ℕ
datum_text datum.Null = []
datum_text (datum.Long n) = signed_decimal n
datum_text (datum.Integer n) = signed_decimal n
datum_text (datum.Boolean true) = codes "true"
datum_text (datum.Boolean false) = codes "false"
datum_text (datum.Text t) = t
datum_text (datum.Date n) = text_of_day n

-- the datum at a place of a row, which is null where the row lacks it
abbrev pub datum_at : List Datum → ℕ → Datum
datum_at row place = slice_index_or row place datum.Null

-- texts by the names of columns
abbrev pub Texts : Type 0
Texts = List (List ℕ × List ℕ)

-- the texts of the partition columns from this place on, put by the columns' names among those that are there
abbrev pub texts_from : List ℕ → List Datum → ℕ → List Column → Texts → Texts
texts_from partition row place [] ts = ts
texts_from partition row place (c ∷ cs) ts =
    texts_from partition row (place + 1) cs
    (if list_any (λ p. p == place) partition then insert_entry (slice_cmp nat_cmp) ts c.name (datum_text (datum_at row place)) else ts)

-- the value that a text is
abbrev pub value_of : List ℕ × List ℕ → NullableEntry
value_of t = record { name = t.0; value = Some t.1 }

-- the values that texts are
abbrev pub values_of : Texts → List NullableEntry
values_of ts = map value_of ts

-- the values of a row's partition columns, in byte order of the columns' names
unfoldable pub partition_values : TableSchema → List Datum → List NullableEntry
partition_values s row = values_of (texts_from s.partition row 0 s.columns [])

-- some text, or none, stands for the datum in this column
abbrev pub HasValue : Column → Datum → Type 0
HasValue c d = (text : Option (List ℕ)) × (datum_by c (filled text) ≡ Some d)

-- each partition column from this place on can have the row's datum
abbrev pub HasValues : List ℕ → List Datum → ℕ → List Column → Type 0
HasValues partition row place [] = Unit {0}
HasValues partition row place (c ∷ cs) =
    (list_any (λ p. p == place) partition ≡ true → HasValue c (datum_at row place)) × HasValues partition row (place + 1) cs

-- the row's data in the partition columns from this place on, and null in the other columns
abbrev pub data_from : List ℕ → List Datum → ℕ → List Column → List Datum
data_from partition row place [] = []
data_from partition row place (c ∷ cs) =
    (if list_any (λ p. p == place) partition then datum_at row place else datum.Null) ∷ data_from partition row (place + 1) cs

-- the row with its data in the partition columns alone
abbrev pub partition_data : TableSchema → List Datum → List Datum
partition_data s row = data_from s.partition row 0 s.columns
