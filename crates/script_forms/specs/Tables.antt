-- The form of a table that is to be made.
use Rattle.std.specs.Prelude.{Bool, true, false, Some, None, codes, map, option_map}
use Rattle.std.proofs.Common.{inl, inr}
use Rattle.op_types.specs.declared.statement.Property.{Property}
use Rattle.row_base.specs.declared.row.Kind.{Kind}
use Rattle.row_base.specs.declared.row.Kind.TheVariants.{Long, Integer, Boolean, String, Date}
use Rattle.row_base.specs.declared.schema.Column.{Column}
use Rattle.script_grammar.specs.Shape.{Shape, nothing, a_name, a_text, after, parens, assigned, both, listed, maybe, choice, Value}
use Rattle.script_forms.specs.declared.table.TableForm.{TableForm}

-- long, integer, boolean, string or date
abbrev pub kind : Shape
kind =
    choice (codes "long") nothing
    (choice (codes "integer") nothing
    (choice (codes "boolean") nothing
    (choice (codes "string") nothing
    (after (codes "date") nothing))))

-- [not null]
abbrev pub nullable : Shape
nullable = maybe (codes "not") (after (codes "null") nothing)

-- NAME KIND [not null]
abbrev pub column : Shape
column = both a_name (both kind nullable)

-- 'KEY' = 'VALUE'
abbrev pub property : Shape
property = both a_text (assigned a_text)

-- [partitioned by (NAMES)]
abbrev pub partition : Shape
partition = maybe (codes "partitioned") (after (codes "by") (parens (listed a_name)))

-- [with (PROPERTIES)]
abbrev pub properties : Shape
properties = maybe (codes "with") (parens (listed property))

-- (COLUMNS) [partitioned by (NAMES)] [with (PROPERTIES)]
abbrev pub table : Shape
table = both (parens (listed column)) (both partition properties)

-- ---- as values of the shapes

abbrev pub kind_value : Kind → Value kind
kind_value Long = inl tt
kind_value Integer = inr (inl tt)
kind_value Boolean = inr (inr (inl tt))
kind_value String = inr (inr (inr (inl tt)))
kind_value Date = inr (inr (inr (inr tt)))

abbrev pub nullable_value : Bool → Value nullable
nullable_value true = None
nullable_value false = Some tt

abbrev pub column_value : Column → Value column
column_value c = (c.name, (kind_value c.kind, nullable_value c.nullable))

abbrev pub property_value : Property → Value property
property_value p = (p.key, p.value)

abbrev pub table_value : TableForm → Value table
table_value t = (map column_value t.columns, (t.partition, option_map (map property_value) t.properties))

-- ---- and back

abbrev pub kind_of : Value kind → Kind
kind_of (inl u) = Long
kind_of (inr (inl u)) = Integer
kind_of (inr (inr (inl u))) = Boolean
kind_of (inr (inr (inr (inl u)))) = String
kind_of (inr (inr (inr (inr u)))) = Date

abbrev pub nullable_of : Value nullable → Bool
nullable_of None = true
nullable_of (Some u) = false

abbrev pub column_of : Value column → Column
column_of v = record { name = v.0; kind = kind_of v.1.0; nullable = nullable_of v.1.1 }

abbrev pub property_of : Value property → Property
property_of v = record { key = v.0; value = v.1 }

abbrev pub table_of : Value table → TableForm
table_of v = record { columns = map column_of v.0; partition = v.1.0; properties = option_map (map property_of) v.1.1 }
