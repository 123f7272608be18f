-- What a Parquet file reads as, for a table of its own columns (parquet.thrift, Type and ConvertedType).
use Rattle.std.specs.Prelude.{◌≡◌, ◌⊎◌, ℕ, ◌%◌, ◌^◌, if◌then◌else◌, Bool, true, false, ℤ, pos, Option, Some, None, Result, Ok, IfOk, List, [], ◌++◌, length, count_by, sum_by, filter_map, codes}
use Rattle.std.specs.Fmt.{decimal}
use Rattle.std.specs.Ordering.{int_eq}
use Rattle.row_base.specs.Schema.{TableSchema, schema_fault}
use Rattle.row_base.specs.declared.row.Datum.{Datum}
use Rattle.row_base.specs.declared.row.Datum.TheVariants as datum
use Rattle.row_base.specs.declared.row.Kind.{Kind}
use Rattle.row_base.specs.declared.row.Kind.TheVariants as kind
use Rattle.row_base.specs.declared.schema.Column.{Column}
use Rattle.row_base.specs.declared.schema.SchemaFault.{SchemaFault}
use Rattle.row_base.specs.Faults.{◌>>=◌}
use Rattle.parquet_meta.specs.Footer.{footer_of}
use Rattle.parquet_meta.specs.declared.fault.FileFault.{FileFault}
use Rattle.parquet_meta.specs.declared.meta.SchemaElement.{SchemaElement}
use Rattle.parquet_plain.specs.Reading.{file_rows}
use Rattle.parquet_plain.specs.Tree.{is_optional}

-- ---- the columns

abbrev pub is_date : Option ℤ → Bool
is_date None = false
is_date (Some n) = int_eq n (pos 6)

abbrev pub kind_of_type : ℤ → Option ℤ → Option Kind
kind_of_type n converted =
    if int_eq n (pos 0) then Some kind.Boolean
    else if int_eq n (pos 1) then (if is_date converted then Some kind.Date else Some kind.Integer)
    else if int_eq n (pos 2) then Some kind.Long
    else if int_eq n (pos 6) then Some kind.String
    else None

-- the kind of a physical type's values; the converted type 6 is a date's
abbrev pub kind_of : Option ℤ → Option ℤ → Option Kind
kind_of None converted = None
kind_of (Some n) converted = kind_of_type n converted

abbrev pub column_by : SchemaElement → Option Kind → Option Column
column_by e None = None
column_by e (Some kind) = Some (record { name = e.name; kind = kind; nullable = is_optional e.repetition_type })

-- the column of an element, if it has a kind
unfoldable pub column_of : SchemaElement → Option Column
column_of e = column_by e (kind_of e.physical_type e.converted_type)

abbrev pub schema_by : List Column → Option SchemaFault → Option TableSchema
schema_by columns None = Some (record { columns = columns; partition = [] })
schema_by columns (Some fault) = None

-- the schema of the columns that have a kind, if they make one
unfoldable pub schema_of : List SchemaElement → Option TableSchema
schema_of elements = let columns = filter_map column_of elements in schema_by columns (schema_fault columns [])

-- ---- the rows

abbrev pub rows_by : List ℕ → Option TableSchema → Result (Option (List (List Datum))) FileFault
rows_by file None = Ok None
rows_by file (Some schema) = file_rows schema file >>= λ rows. Ok (Some rows)

-- the rows of a file for the table of its own columns, if these make a schema, or the first fault
unfoldable pub rows_in : List ℕ → Result (Option (List (List Datum))) FileFault
rows_in file = footer_of file >>= λ meta. rows_by file (schema_of meta.schema)

abbrev pub is_null : Datum → Bool
is_null datum.Null = true
is_null (datum.Long n) = false
is_null (datum.Integer n) = false
is_null (datum.Boolean b) = false
is_null (datum.Text t) = false
is_null (datum.Date n) = false

-- how many data of rows are null
abbrev pub null_count : List (List Datum) → ℕ
null_count rows = sum_by (count_by is_null) rows

-- ---- the text

-- the text for rows
abbrev pub rows_text : ℕ → ℕ → List ℕ
rows_text count nulls = decimal count ++ (codes " rows, " ++ (decimal nulls ++ codes " nulls"))

-- the text for what a file reads as
abbrev pub found_text : Option (List (List Datum)) → List ℕ
found_text None = codes "no table"
found_text (Some rows) = rows_text (length rows) (null_count rows % 2 ^ 64)

-- the text where memory ran out
abbrev pub wanting_text : List ℕ
wanting_text = codes "out of memory"

-- A file that can be read has the text for what it reads as, unless memory ran out. The text of a fault is free.
abbrev pub IsFileText : List ℕ → List ℕ → Type 0
IsFileText file text = IfOk (rows_in file) (λ found. (text ≡ found_text found) ⊎ (text ≡ wanting_text))
