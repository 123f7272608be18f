-- The fields of a schema's text (PROTOCOL.md, "Schema Serialization Format").
use Rattle.std.specs.Prelude.{ℕ, Bool, false, if◌then◌else◌, List, codes, Option, Some, None, option_map, is_some}
use Rattle.std.specs.Str.{bytes_eq}
use Rattle.serde_json.specs.Data.{Data, null, boolean, number, string, array, object, Items}
use Rattle.serde_json.specs.Find.{as_str, as_bool, as_array}
use Rattle.row_base.specs.Readings.{◌>>=◌}
use Rattle.json_lines.specs.Kinds.{as_itself, present, needed}
use Rattle.json_lines.specs.Lines.{object_of_line}
use Rattle.row_base.specs.declared.row.Kind.{Kind}
use Rattle.row_base.specs.declared.row.Kind.TheVariants as kind
use Rattle.schema_text.specs.declared.field.Field.{Field}

-- the kind of a primitive type that is supported
unfoldable pub kind_named : List ℕ → Option Kind
kind_named name =
    if bytes_eq name (codes "long") then Some kind.Long
    else (if bytes_eq name (codes "integer") then Some kind.Integer
    else (if bytes_eq name (codes "boolean") then Some kind.Boolean
    else (if bytes_eq name (codes "string") then Some kind.String
    else (if bytes_eq name (codes "date") then Some kind.Date else None))))

-- a type is a text or an object; that of an object is nested, and isn't supported
abbrev pub type_in : Data → Option (Option Kind)
type_in null = None
type_in (boolean b) = None
type_in (number n) = None
type_in (string name) = Some (kind_named name)
type_in (array ds) = None
type_in (object ms) = Some None

-- metadata is an object, which may have an invariant (PROTOCOL.md, "Column Invariants")
abbrev pub invariant_in : Data → Option Bool
invariant_in d = option_map (λ m. is_some (present (codes "delta.invariants") m)) (as_itself d)

-- a field has the form of a field: a name, a type, whether it is nullable, and metadata
unfoldable pub field_of : Data → Option Field
field_of d =
    needed as_str (codes "name") d >>= λ name.
    needed type_in (codes "type") d >>= λ type.
    needed as_bool (codes "nullable") d >>= λ nullable.
    needed invariant_in (codes "metadata") d >>= λ invariant.
    Some (record { name = name; kind = type; nullable = nullable; has_invariant = invariant })

-- the name of a struct type's kind
abbrev pub names_struct : Option (List ℕ) → Bool
names_struct None = false
names_struct (Some name) = bytes_eq name (codes "struct")

-- a struct type
unfoldable pub is_struct : Data → Bool
is_struct d = names_struct (needed as_str (codes "type") d)

-- the fields of a struct type, which need not have the form of fields
unfoldable pub struct_fields : Data → Option Items
struct_fields d = if is_struct d then needed as_array (codes "fields") d else None

-- the fields of the struct type that a text is
unfoldable pub fields_of_text : List ℕ → Option Items
fields_of_text text = object_of_line text >>= struct_fields
