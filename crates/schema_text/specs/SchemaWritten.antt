-- The text that is written for a schema: compact JSON with members in byte order of their names (PROTOCOL.md,
-- "Schema Serialization Format").
use Rattle.std.specs.Prelude.{ℕ, List, map, codes}
use Rattle.serde_json.specs.Data.{Data, boolean, string, array, object, Items, no_members, member}
use Rattle.serde_json.specs.View.{items_of}
use Rattle.serde_json.specs.Written.{compact_text}
use Rattle.row_base.specs.declared.row.Kind.{Kind}
use Rattle.row_base.specs.declared.row.Kind.TheVariants as kind
use Rattle.row_base.specs.declared.schema.Column.{Column}

-- the name of a type
abbrev pub kind_text : Kind → List ℕ
kind_text kind.Long = codes "long"
kind_text kind.Integer = codes "integer"
kind_text kind.Boolean = codes "boolean"
kind_text kind.String = codes "string"
kind_text kind.Date = codes "date"

-- the field of a column
abbrev pub field_data : Column → Data
field_data c = object (
    member (codes "metadata") (object no_members) (
    member (codes "name") (string c.name) (
    member (codes "nullable") (boolean c.nullable) (
    member (codes "type") (string (kind_text c.kind)) no_members))))

-- the fields of columns
abbrev pub fields_data : List Column → Items
fields_data cs = items_of (map field_data cs)

-- the struct type of columns
unfoldable pub schema_data : List Column → Data
schema_data cs = object (
    member (codes "fields") (array (fields_data cs)) (
    member (codes "type") (string (codes "struct")) no_members))

-- its text
abbrev pub schema_text : List Column → List ℕ
schema_text cs = compact_text (schema_data cs)
