-- The schema that a text and the names of the partition columns stand for, or why they stand for none: the first fault
-- by place. The fields come in order, and at one field its shape first, then its type, then an invariant.
use Rattle.std.specs.Prelude.{ℕ, ◌==◌, nat_lt, not, ◌&&◌, if◌then◌else◌, List, [], ◌∷◌, ◌++◌, length, Option, Some, None, option_map, option_and_then, Result, Ok, Err}
use Rattle.std.specs.List.{position}
use Rattle.std.specs.Cmp.Lexicographic.{pointwise}
use Rattle.serde_json.specs.Data.{Data, Items, no_items, item}
use Rattle.row_base.specs.declared.limits.TheConstants.{MAX_COLUMNS}
use Rattle.row_base.specs.declared.row.Kind.{Kind}
use Rattle.row_base.specs.declared.schema.Column.{Column}
use Rattle.row_base.specs.declared.schema.SchemaFault.{SchemaFault}
use Rattle.row_base.specs.Schema.{TableSchema, is_named, schema_fault}
use Rattle.schema_text.specs.declared.fault.SchemaTextFault.{SchemaTextFault}
use Rattle.schema_text.specs.declared.fault.SchemaTextFault.TheVariants as faults
use Rattle.schema_text.specs.declared.field.Field.{Field}
use Rattle.row_base.specs.Faults.{◌>>=◌}
use Rattle.schema_text.specs.Fields.{field_of, fields_of_text}

-- what there is, or the fault of the shape
abbrev pub or_shape : {A : Type 0} → Option A → Result A SchemaTextFault
or_shape None = Err faults.Shape
or_shape (Some x) = Ok x

-- the column of a field whose type is supported, unless it has an invariant
abbrev pub column_of_kind : Field → Option Kind → Result Column SchemaTextFault
column_of_kind f None = Err (faults.Kind f.name)
column_of_kind f (Some k) =
    if f.has_invariant then Err (faults.Invariant f.name) else Ok (record { name = f.name; kind = k; nullable = f.nullable })

-- the column of a field behind these columns: at most MAX_COLUMNS, with names of their own
unfoldable pub column_of : List Column → Field → Result Column SchemaTextFault
column_of before f =
    if nat_lt (length before) MAX_COLUMNS && not (is_named before f.name) then column_of_kind f f.kind else Err faults.Shape

-- the column of a field's data behind these columns
unfoldable pub next_column : List Column → Data → Result Column SchemaTextFault
next_column before d = or_shape (field_of d) >>= column_of before

-- these columns and those of the fields behind them
abbrev pub columns_from : List Column → Items → Result (List Column) SchemaTextFault
columns_from before no_items = Ok before
columns_from before (item d ds) = next_column before d >>= λ c. columns_from (before ++ c ∷ []) ds

-- the place of the column of this name
unfoldable pub place_in : List Column → List ℕ → Option ℕ
place_in columns name = position (λ c. pointwise ◌==◌ c.name name) columns

-- the places of the columns of these names, where there are such columns
abbrev pub places_in : List Column → List (List ℕ) → Option (List ℕ)
places_in columns [] = Some []
places_in columns (name ∷ names) =
    option_and_then (λ p. option_map (λ ps. p ∷ ps) (places_in columns names)) (place_in columns name)

-- what there is, unless there is a fault
abbrev pub shape_of : {A : Type 0} → Option SchemaFault → A → Result A SchemaTextFault
shape_of None x = Ok x
shape_of (Some f) x = Err faults.Shape

-- the schema of these columns, partitioned by the columns at these places
abbrev pub schema_at : List Column → List ℕ → Result TableSchema SchemaTextFault
schema_at columns places = shape_of (schema_fault columns places) (record { columns = columns; partition = places })

-- the same, partitioned by the columns of these names
unfoldable pub schema_by : List (List ℕ) → List Column → Result TableSchema SchemaTextFault
schema_by names columns = or_shape (places_in columns names) >>= schema_at columns

-- the schema that a text stands for, partitioned by the columns of these names
unfoldable pub schema_of : List ℕ → List (List ℕ) → Result TableSchema SchemaTextFault
schema_of text names = or_shape (fields_of_text text) >>= columns_from [] >>= schema_by names
