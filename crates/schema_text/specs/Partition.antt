-- What the values of a file's partition columns stand for (PROTOCOL.md, "Partition Value Serialization").
use Rattle.std.specs.Prelude.{ℕ, ◌+◌, ◌==◌, nat_le, Bool, true, false, if◌then◌else◌, List, [], ◌∷◌, length, codes, Option, Some, None, option_map, Result, Ok, Err, ℤ, option_and_then}
use Rattle.std.specs.List.{list_any}
use Rattle.std.specs.Str.{bytes_eq}
use Rattle.std.specs.Cmp.Lexicographic.{pointwise}
use Rattle.json_lines.specs.Kinds.{NullableEntry}
use Rattle.row_base.specs.declared.limits.TheConstants.{MAX_TEXT_BYTES}
use Rattle.row_base.specs.declared.row.Datum.{Datum}
use Rattle.row_base.specs.declared.row.Datum.TheVariants as datum
use Rattle.row_base.specs.declared.row.Kind.{Kind}
use Rattle.row_base.specs.declared.row.Kind.TheVariants as kind
use Rattle.row_base.specs.declared.schema.Column.{Column}
use Rattle.row_base.specs.Dates.{date_in}
use Rattle.row_base.specs.Numbers.{long_in}
use Rattle.row_base.specs.Schema.{TableSchema, is_i32}
use Rattle.schema_text.specs.declared.fault.SchemaTextFault.{SchemaTextFault}
use Rattle.schema_text.specs.declared.fault.SchemaTextFault.TheVariants as faults
use Rattle.row_base.specs.Faults.{◌>>=◌}

-- a long in decimal
abbrev pub long_datum : List ℕ → Option Datum
long_datum text = option_map datum.Long (long_in text)

-- a number of 32 bits
abbrev pub if_i32 : ℤ → Option ℤ
if_i32 z = if is_i32 z then Some z else None

-- the number of 32 bits that a text writes
abbrev pub integer_in : List ℕ → Option ℤ
integer_in text = option_and_then if_i32 (long_in text)

-- an integer in decimal
abbrev pub integer_datum : List ℕ → Option Datum
integer_datum text = option_map datum.Integer (integer_in text)

-- a truth value
abbrev pub boolean_datum : List ℕ → Option Datum
boolean_datum text =
    if bytes_eq text (codes "true") then Some (datum.Boolean true)
    else (if bytes_eq text (codes "false") then Some (datum.Boolean false) else None)

-- a text has at most MAX_TEXT_BYTES
abbrev pub text_datum : List ℕ → Option Datum
text_datum text = if nat_le (length text) MAX_TEXT_BYTES then Some (datum.Text text) else None

-- a date
abbrev pub date_datum : List ℕ → Option Datum
date_datum text = option_map datum.Date (date_in text)

-- the datum of a kind that a text stands for
abbrev pub datum_of : Kind → List ℕ → Option Datum
datum_of kind.Long text = long_datum text
datum_of kind.Integer text = integer_datum text
datum_of kind.Boolean text = boolean_datum text
datum_of kind.String text = text_datum text
datum_of kind.Date text = date_datum text

-- null, where it may stand
abbrev pub null_datum : Bool → Option Datum
null_datum nullable = if nullable then Some datum.Null else None

-- the empty text stands for null
abbrev pub filled : Option (List ℕ) → Option (List ℕ)
filled None = None
filled (Some []) = None
filled (Some (b ∷ bs)) = Some (b ∷ bs)

-- the text of the column of this name, where it isn't null; a column without a value is null
abbrev pub text_of : List NullableEntry → List ℕ → Option (List ℕ)
text_of [] name = None
text_of (v ∷ vs) name = if pointwise ◌==◌ v.name name then filled v.value else text_of vs name

-- the datum that a column has by a text, or by none
abbrev pub datum_by : Column → Option (List ℕ) → Option Datum
datum_by c None = null_datum c.nullable
datum_by c (Some text) = datum_of c.kind text

-- the datum that there is, or the fault of the column of this name
abbrev pub or_value : List ℕ → Option Datum → Result Datum SchemaTextFault
or_value name None = Err (faults.Value name)
or_value name (Some d) = Ok d

-- the datum of a partition column
unfoldable pub datum_in : List NullableEntry → Column → Result Datum SchemaTextFault
datum_in values c = or_value c.name (datum_by c (text_of values c.name))

-- the datum of the column at this place, which is null in a column that isn't a partition column
abbrev pub cell : List ℕ → List NullableEntry → ℕ → Column → Result Datum SchemaTextFault
cell partition values place c = if list_any (λ p. p == place) partition then datum_in values c else Ok datum.Null

-- the data of the columns from this place on
abbrev pub cells : List ℕ → List NullableEntry → ℕ → List Column → Result (List Datum) SchemaTextFault
cells partition values place [] = Ok []
cells partition values place (c ∷ cs) =
    cell partition values place c >>= λ d.
    cells partition values (place + 1) cs >>= λ ds.
    Ok (d ∷ ds)

-- the row that the values stand for, or the first column whose value has no reading
unfoldable pub partition_row : TableSchema → List NullableEntry → Result (List Datum) SchemaTextFault
partition_row s values = cells s.partition values 0 s.columns
