-- The elements of a file's schema and the columns of a table (parquet.thrift, "SchemaElement"; README.md, "Types").
use Rattle.std.specs.Prelude.{ℕ, ◌+◌, ◌^◌, ◌==◌, nat_lt, Bool, true, false, not, ◌&&◌, ◌||◌, if◌then◌else◌, List, [], ◌∷◌, length, Option, Some, None, is_none, Result, Ok, Err, ℤ, pos, negsuc}
use Rattle.std.specs.List.{list_any}
use Rattle.std.specs.Ordering.{int_eq}
use Rattle.std.specs.Cmp.Lexicographic.{pointwise}
use Rattle.row_base.specs.declared.row.Kind.{Kind}
use Rattle.row_base.specs.declared.row.Kind.TheVariants as kind
use Rattle.row_base.specs.declared.schema.Column.{Column}
use Rattle.row_base.specs.Schema.{TableSchema}
use Rattle.parquet_meta.specs.declared.fault.FileFault.{FileFault}
use Rattle.parquet_meta.specs.declared.fault.FileFault.TheVariants as faults
use Rattle.parquet_meta.specs.declared.meta.SchemaElement.{SchemaElement}
use Rattle.row_base.specs.Faults.{◌>>=◌}
use Rattle.parquet_plain.specs.declared.source.Leaf.{Leaf}
use Rattle.parquet_plain.specs.declared.source.Source.{Source}
use Rattle.parquet_plain.specs.declared.source.Source.TheVariants as source

-- two names are one
abbrev pub same_name : List ℕ → List ℕ → Bool
same_name a b = pointwise ◌==◌ a b

-- the column at this place is a partition column
abbrev pub is_partition : List ℕ → ℕ → Bool
is_partition partition place = list_any (λ p. p == place) partition

-- the number of the physical type that holds a kind's values
abbrev pub physical_of : Kind → ℤ
physical_of kind.Long = pos 2
physical_of kind.Integer = pos 1
physical_of kind.Boolean = pos 0
physical_of kind.String = pos 6
physical_of kind.Date = pos 1

-- a number that isn't below 0 and has 31 bits at most
abbrev pub is_in_range : ℤ → Bool
is_in_range (pos n) = nat_lt n (2 ^ 31)
is_in_range (negsuc n) = false

abbrev pub is_absent_or_in_range : Option ℤ → Bool
is_absent_or_in_range None = true
is_absent_or_in_range (Some z) = is_in_range z

-- the numbers of an element that are used
abbrev pub has_numbers_in_range : SchemaElement → Bool
has_numbers_in_range e =
    (is_absent_or_in_range e.physical_type && is_absent_or_in_range e.repetition_type)
    && (is_absent_or_in_range e.num_children && is_absent_or_in_range e.converted_type)

abbrev pub is_positive : ℤ → Bool
is_positive (pos n) = nat_lt 0 n
is_positive (negsuc n) = false

abbrev pub is_there_and_positive : Option ℤ → Bool
is_there_and_positive None = false
is_there_and_positive (Some z) = is_positive z

-- an element that holds others
abbrev pub is_group : SchemaElement → Bool
is_group e = is_none e.physical_type || is_there_and_positive e.num_children

-- REQUIRED, as an element without a repetition type is too, or OPTIONAL
abbrev pub is_flat : Option ℤ → Bool
is_flat None = true
is_flat (Some z) = int_eq z (pos 0) || int_eq z (pos 1)

-- OPTIONAL
abbrev pub is_optional : Option ℤ → Bool
is_optional None = false
is_optional (Some z) = int_eq z (pos 1)

-- how many children an element has
abbrev pub children_of : Option ℤ → ℕ
children_of None = 0
children_of (Some (pos n)) = n
children_of (Some (negsuc n)) = 0

abbrev pub has_type : Option ℤ → ℤ → Bool
has_type None type = false
has_type (Some z) type = int_eq z type

-- the leaf of a column that the element at this place is
abbrev pub leaf_at : Column → ℕ → SchemaElement → Leaf
leaf_at c place e = record { name = c.name; kind = c.kind; nullable = c.nullable; place = place; optional = is_optional e.repetition_type }

-- the leaf of a column: the first element of its name, from this place on
abbrev pub leaf_from : Column → ℕ → List SchemaElement → Option Leaf
leaf_from c place [] = None
leaf_from c place (e ∷ es) =
    if same_name e.name c.name
    then Some (leaf_at c place e)
    else leaf_from c (place + 1) es

abbrev pub source_by : Column → Option Leaf → Source
source_by c None = if c.nullable then source.Nulls else source.Lacking c.name
source_by c (Some l) = source.Leaf l

-- where the values of the column at this place come from
abbrev pub source_of : List ℕ → List SchemaElement → ℕ → Column → Source
source_of partition leaves place c = if is_partition partition place then source.Nulls else source_by c (leaf_from c 0 leaves)

-- the same of each column, from this place on
abbrev pub sources_from : List ℕ → List SchemaElement → ℕ → List Column → List Source
sources_from partition leaves place [] = []
sources_from partition leaves place (c ∷ cs) = source_of partition leaves place c ∷ sources_from partition leaves (place + 1) cs

-- the element at this place is a column's leaf, and has another physical type than the column's kind
abbrev pub is_other_type : ℕ → SchemaElement → Source → Bool
is_other_type place e source.Nulls = false
is_other_type place e (source.Lacking name) = false
is_other_type place e (source.Leaf l) = (l.place == place) && not (has_type e.physical_type (physical_of l.kind))

-- the element at this place is one of so many children, its numbers are in range, and it isn't REPEATED
abbrev pub is_leaf : ℕ → ℕ → SchemaElement → Bool
is_leaf children place e = has_numbers_in_range e && is_flat e.repetition_type && nat_lt place children

-- the element at this place below a root of so many children is a leaf that can be read
unfoldable pub leaf_checked : List Source → ℕ → ℕ → SchemaElement → Result (Unit {0}) FileFault
leaf_checked sources children place e =
    if is_group e then Err faults.Nested
    else (if list_any (is_other_type place e) sources then Err (faults.Physical e.name)
    else (if is_leaf children place e then Ok tt else Err (faults.Shape e.name)))

-- the same of each element, from this place on
abbrev pub leaves_checked : List Source → ℕ → ℕ → List SchemaElement → Result (Unit {0}) FileFault
leaves_checked sources children place [] = Ok tt
leaves_checked sources children place (e ∷ es) =
    leaf_checked sources children place e >>= λ _. leaves_checked sources children (place + 1) es

abbrev pub if_all : ℕ → SchemaElement → List SchemaElement → List Source → Result (List Source) FileFault
if_all children root leaves sources =
    leaves_checked sources children 0 leaves >>= λ _.
    if nat_lt (length leaves) children then Err (faults.Shape root.name) else Ok sources

-- The sources of the columns, where the elements are a root and as many leaves as it has children.
unfoldable pub sources_in : TableSchema → List SchemaElement → Result (List Source) FileFault
sources_in s [] = Err (faults.Shape [])
sources_in s (root ∷ leaves) =
    if has_numbers_in_range root
    then if_all (children_of root.num_children) root leaves (sources_from s.partition leaves 0 s.columns)
    else Err (faults.Shape root.name)
