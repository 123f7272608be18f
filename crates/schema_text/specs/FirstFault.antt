-- What a schema's text stands for, and the first fault of one that stands for no schema, field by field.
use Rattle.std.specs.Prelude.{◌≡◌, ◌≢◌, ℕ, ◌<◌, Bool, true, false, List, [], ◌∷◌, ◌++◌, length, Some, None}
use Rattle.std.specs.List.{All}
use Rattle.serde_json.specs.Data.{Data, Items, no_items, item}
use Rattle.row_base.specs.declared.limits.TheConstants.{MAX_COLUMNS}
use Rattle.row_base.specs.declared.row.Kind.{Kind}
use Rattle.row_base.specs.declared.schema.Column.{Column}
use Rattle.row_base.specs.Schema.{TableSchema, IsSchema}
use Rattle.schema_text.specs.declared.field.Field.{Field}
use Rattle.schema_text.specs.declared.fault.SchemaTextFault.{SchemaTextFault}
use Rattle.schema_text.specs.declared.fault.SchemaTextFault.TheVariants as faults
use Rattle.schema_text.specs.Fields.{field_of, fields_of_text}
use Rattle.schema_text.specs.Schema.{places_in}

-- the items of a JSON list
abbrev pub items_list : Items → List Data
items_list no_items = []
items_list (item d ds) = d ∷ items_list ds

-- behind these columns a field has the shape that it needs: its form, a name of its own, and a place among the first MAX_COLUMNS
pub record HasShape (before : List Column) (d : Data) (f : Field) : Type 0 where
  pub form : field_of d ≡ Some f
  pub own_name : All (λ c. c.name ≢ f.name) before
  pub few : length before < MAX_COLUMNS

-- a field of a supported type and without an invariant stands for this column
abbrev pub IsColumn : List Column → Data → Column → Type 0
IsColumn before d c = HasShape before d (record { name = c.name; kind = Some c.kind; nullable = c.nullable; has_invariant = false })

-- fields stand for columns, each behind those before it
pub data StandFor : List Data → List Column → Type 0 where
  nothing : StandFor [] []
  next : (ds : List Data) (cs : List Column) (d : Data) (c : Column) → StandFor ds cs → IsColumn cs d c → StandFor (ds ++ d ∷ []) (cs ++ c ∷ [])

-- what a fault says of the field behind these columns
abbrev pub IsFieldFault : List Column → Data → SchemaTextFault → Type 0
IsFieldFault before d faults.Shape = (f : Field) → HasShape before d f → ⊥
IsFieldFault before d (faults.Kind name) =
    (nullable invariant : Bool) × HasShape before d (record { name = name; kind = None; nullable = nullable; has_invariant = invariant })
IsFieldFault before d (faults.Invariant name) =
    (kind : Kind) × (nullable : Bool) × HasShape before d (record { name = name; kind = Some kind; nullable = nullable; has_invariant = true })
IsFieldFault before d (faults.Value name) = ⊥
IsFieldFault before d faults.NoMemory = ⊥

-- the fields before one stand for columns, and this one has the fault
pub record IsFirstFieldFault (ds : List Data) (e : SchemaTextFault) : Type 0 where
  pub front : List Data
  pub field : Data
  pub behind : List Data
  pub columns : List Column
  pub is : ds ≡ front ++ field ∷ behind
  pub good : StandFor front columns
  pub wrong : IsFieldFault columns field e

-- the text is a struct type whose fields stand for the schema's columns, and these names are those of its partition columns
pub record IsTextOf (text : List ℕ) (names : List (List ℕ)) (s : TableSchema) : Type 0 where
  pub fields : Items
  pub are : fields_of_text text ≡ Some fields
  pub columns : StandFor (items_list fields) s.columns
  pub places : places_in s.columns names ≡ Some s.partition

-- the first fault: the text is no struct type; a field's; or with these names all columns together are no schema
pub data IsFirstFault (text : List ℕ) (names : List (List ℕ)) : SchemaTextFault → Type 0 where
  no_struct : fields_of_text text ≡ None → IsFirstFault text names faults.Shape
  of_field : (fields : Items) (e : SchemaTextFault) → fields_of_text text ≡ Some fields → IsFirstFieldFault (items_list fields) e → IsFirstFault text names e
  no_schema : (fields : Items) (cs : List Column) → fields_of_text text ≡ Some fields → StandFor (items_list fields) cs
      → ((ps : List ℕ) → places_in cs names ≡ Some ps → IsSchema (record { columns = cs; partition = ps }) → ⊥) → IsFirstFault text names faults.Shape
