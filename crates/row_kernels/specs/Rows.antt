-- The rows that the kernels run over.
use Rattle.std.specs.Prelude.{ℕ, ◌*◌, ◌%◌, Bool, false, List, [], ◌∷◌, map, pos, codes}
use Rattle.std.specs.List.{range_with_len}
use Rattle.row_base.specs.Schema.{TableSchema}
use Rattle.row_base.specs.declared.row.Datum.{Datum}
use Rattle.row_base.specs.declared.row.Datum.TheVariants as datum
use Rattle.row_base.specs.declared.row.Kind.{Kind}
use Rattle.row_base.specs.declared.row.Kind.TheVariants as kind
use Rattle.row_base.specs.declared.schema.Column.{Column}

-- the row of a number: `id` is as many steps, `v` its last digit
abbrev pub row_of : ℕ → ℕ → List Datum
row_of step number = datum.Long (pos (number * step)) ∷ datum.Long (pos (number % 10)) ∷ []

-- so many rows, numbered from 0
unfoldable pub rows_of : ℕ → ℕ → List (List Datum)
rows_of step count = map (row_of step) (range_with_len 0 count)

-- so many rows of one long, which is the row's number
unfoldable pub key_rows : ℕ → List (List Datum)
key_rows count = map (λ number. datum.Long (pos number) ∷ []) (range_with_len 0 count)

abbrev pub column : List ℕ → Kind → Bool → Column
column name kind nullable = record { name = name; kind = kind; nullable = nullable }

-- `id` and another column
abbrev pub columns_with : Column → List Column
columns_with other = column (codes "id") kind.Long false ∷ other ∷ []

-- their schema, without partition columns
abbrev pub schema_with : Column → TableSchema
schema_with other = record { columns = columns_with other; partition = [] }

-- the schema of the rows of two longs
abbrev pub schema : TableSchema
schema = schema_with (column (codes "v") kind.Long false)
