-- The tables whose Parquet files are timed.
use Rattle.std.specs.Prelude.{◌≡◌, ◌⊎◌, ℕ, suc, ◌<◌, ◌/◌, ◌%◌, ◌==◌, if◌then◌else◌, Bool, true, false, List, [], ◌∷◌, ◌++◌, length, map, pos, codes}
use Rattle.std.specs.Fmt.{decimal}
use Rattle.std.specs.List.{range_with_len}
use Rattle.row_base.specs.Schema.{TableSchema}
use Rattle.row_base.specs.declared.limits.TheConstants.{MAX_FILE_ROWS, MAX_OBJECT_BYTES}
use Rattle.row_base.specs.declared.row.Datum.{Datum}
use Rattle.row_base.specs.declared.row.Datum.TheVariants as datum
use Rattle.row_base.specs.declared.row.Kind.{Kind}
use Rattle.row_base.specs.declared.row.Kind.TheVariants as kind
use Rattle.row_base.specs.declared.schema.Column.{Column}
use Rattle.parquet_meta.specs.declared.fault.FileFault.TheVariants as faults
use Rattle.parquet_plain.specs.Written.{file_text}
use Rattle.format_kernels.specs.Register.{state_after}
use Rattle.format_kernels.specs.declared.fault.KernelFault.{KernelFault}
use Rattle.format_kernels.specs.declared.fault.KernelFault.TheVariants as failed
use Rattle.format_kernels.specs.declared.kernel.Step.{Step}
use Rattle.format_kernels.specs.declared.kernel.Step.TheVariants as steps
use Rattle.format_kernels.specs.declared.kernel.Table.{Table}
use Rattle.format_kernels.specs.declared.kernel.Table.TheVariants as tables

-- ---- the columns

abbrev pub column : List ℕ → Kind → Bool → Column
column name kind nullable = record { name = name; kind = kind; nullable = nullable }

abbrev pub columns_of : Table → List Column
columns_of tables.Longs = column (codes "k") kind.Long false ∷ column (codes "v") kind.Long false ∷ []
columns_of tables.Words = column (codes "text") kind.String false ∷ []
columns_of tables.Texts = column (codes "text") kind.String false ∷ []
columns_of tables.Booleans = column (codes "flag") kind.Boolean true ∷ []

-- the schema of a table, without partition columns
abbrev pub schema_of : Table → TableSchema
schema_of table = record { columns = columns_of table; partition = [] }

-- ---- the rows

abbrev pub word_of : ℕ → List ℕ
word_of number = codes "word " ++ decimal number

-- the texts of the table of repeated texts
unfoldable pub words : List (List ℕ)
words = map word_of (range_with_len 0 100)

-- null, true or false
abbrev pub flag_of : ℕ → Datum
flag_of number = if number == 0 then datum.Null else datum.Boolean (number == 1)

-- a text that no other row has
abbrev pub text_of : ℕ → ℕ → List ℕ
text_of number state = codes "text " ++ (decimal number ++ (codes " " ++ decimal state))

-- the row of a number and a state of the shift register
abbrev pub row_of : Table → ℕ → ℕ → List Datum
row_of tables.Longs number state = datum.Long (pos number) ∷ datum.Long (pos (state / 2)) ∷ []
row_of tables.Words number state = datum.Text (word_of (state % 100)) ∷ []
row_of tables.Texts number state = datum.Text (text_of number state) ∷ []
row_of tables.Booleans number state = flag_of (state % 3) ∷ []

-- the row of a number, by the state after as many steps
abbrev pub numbered_row : Table → ℕ → List Datum
numbered_row table number = row_of table number (state_after (suc number))

-- so many rows of a table, numbered from 0
unfoldable pub rows_of : Table → ℕ → List (List Datum)
rows_of table count = map (numbered_row table) (range_with_len 0 count)

-- ---- what is given

-- the number of bytes of the file, where it is the last step that it is written or copied, and else the number of rows
abbrev pub answer_of : Step → Table → ℕ → ℕ
answer_of steps.Rows table count = count
answer_of steps.Write table count = length (file_text (schema_of table) (rows_of table count))
answer_of steps.Copy table count = length (file_text (schema_of table) (rows_of table count))
answer_of steps.Read table count = count

-- why nothing is given: memory ran out, a file doesn't hold so many rows, or what was written is too long to be read
abbrev pub IsFailure : Table → ℕ → KernelFault → Type 0
IsFailure table count failed.NoMemory = Unit {0}
IsFailure table count failed.Rows = MAX_FILE_ROWS < count
IsFailure table count (failed.Parquet f) = (f ≡ faults.NoMemory) ⊎ (MAX_OBJECT_BYTES < length (file_text (schema_of table) (rows_of table count)))
IsFailure table count (failed.Pack f) = ⊥
IsFailure table count (failed.Line line) = ⊥
