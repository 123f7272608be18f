-- What is written: fields in ascending ids, the absent ones left out, and a stop (Thrift compact protocol, "Struct";
-- Parquet format, parquet.thrift).
use Rattle.std.specs.Prelude.{◌≡◌, ℕ, Bool, true, false, List, [], ◌∷◌, ◌++◌, length, ℤ, pos, Option, Some, None}
use Rattle.thrift_compact.specs.declared.wire.Wire.{Wire}
use Rattle.thrift_compact.specs.declared.wire.Wire.TheVariants as wires
use Rattle.thrift_compact.specs.Writing.{number_bytes, binary_bytes, list_bytes, field_bytes}
use Rattle.parquet_meta.specs.declared.meta.FileMeta.{FileMeta}
use Rattle.parquet_meta.specs.declared.meta.SchemaElement.{SchemaElement}
use Rattle.parquet_meta.specs.declared.meta.RowGroup.{RowGroup}
use Rattle.parquet_meta.specs.declared.meta.ColumnChunk.{ColumnChunk}
use Rattle.parquet_meta.specs.declared.meta.ColumnMetaData.{ColumnMetaData}
use Rattle.parquet_meta.specs.declared.head.PageHead.{PageHead}
use Rattle.parquet_meta.specs.declared.head.DataPageHead.{DataPageHead}
use Rattle.parquet_meta.specs.declared.head.DictionaryPageHead.{DictionaryPageHead}

-- a field to be written: its id, its wire type, and the text of its value
pub record Written : Type 0 where
  pub id : ℤ
  pub wire : Wire
  pub text : List ℕ

-- fields behind one of the id `last`, and a stop; an absent one is left out
unfoldable pub fields_text : ℤ → List (Option Written) → List ℕ
fields_text last [] = 0 ∷ []
fields_text last (None ∷ others) = fields_text last others
fields_text last (Some field ∷ others) = field_bytes last field.id field.wire ++ (field.text ++ fields_text field.id others)

-- a field that is always written
abbrev pub always : ℤ → Wire → List ℕ → Option Written
always id wire text = Some (record { id = id; wire = wire; text = text })

-- a field that is written where there is a value
abbrev pub if_some : {A : Type 0} → ℤ → Wire → (A → List ℕ) → Option A → Option Written
if_some id wire text (Some value) = always id wire (text value)
if_some id wire text None = None

-- A field was written behind one of the id `last`: whatever fields follow, what was there before them all, with the text
-- of all, is what is there now, with the text of those that follow.
pub record Writes (old : List ℕ) (last : ℤ) (new : List ℕ) (now : ℤ) (field : Option Written) : Type 0 where
  pub follows : (others : List (Option Written)) → new ++ fields_text now others ≡ old ++ fields_text last (field ∷ others)

-- the texts of elements, one behind another
unfoldable pub texts_of : {A : Type 0} → (A → List ℕ) → List A → List ℕ
texts_of text [] = []
texts_of text (first ∷ others) = text first ++ texts_of text others

-- a list
abbrev pub list_text : {A : Type 0} → Wire → (A → List ℕ) → List A → List ℕ
list_text wire text elements = list_bytes wire (length elements) ++ texts_of text elements

-- ColumnMetaData
unfoldable pub column_text : ColumnMetaData → List ℕ
column_text column = fields_text (pos 0) (
    always (pos 1) wires.I32 (number_bytes column.physical_type)
    ∷ if_some (pos 2) wires.List (list_text wires.I32 number_bytes) column.encodings
    ∷ always (pos 3) wires.List (list_text wires.Binary binary_bytes column.path_in_schema)
    ∷ always (pos 4) wires.I32 (number_bytes column.codec)
    ∷ always (pos 5) wires.I64 (number_bytes column.num_values)
    ∷ if_some (pos 6) wires.I64 number_bytes column.total_uncompressed_size
    ∷ always (pos 7) wires.I64 (number_bytes column.total_compressed_size)
    ∷ always (pos 9) wires.I64 (number_bytes column.data_page_offset)
    ∷ if_some (pos 11) wires.I64 number_bytes column.dictionary_page_offset
    ∷ [])

-- ColumnChunk
unfoldable pub chunk_text : ColumnChunk → List ℕ
chunk_text chunk = fields_text (pos 0) (
    if_some (pos 1) wires.Binary binary_bytes chunk.file_path
    ∷ if_some (pos 2) wires.I64 number_bytes chunk.file_offset
    ∷ always (pos 3) wires.Struct (column_text chunk.meta_data)
    ∷ [])

-- RowGroup
unfoldable pub group_text : RowGroup → List ℕ
group_text group = fields_text (pos 0) (
    always (pos 1) wires.List (list_text wires.Struct chunk_text group.columns)
    ∷ if_some (pos 2) wires.I64 number_bytes group.total_byte_size
    ∷ always (pos 3) wires.I64 (number_bytes group.num_rows)
    ∷ [])

-- SchemaElement
unfoldable pub element_text : SchemaElement → List ℕ
element_text element = fields_text (pos 0) (
    if_some (pos 1) wires.I32 number_bytes element.physical_type
    ∷ if_some (pos 3) wires.I32 number_bytes element.repetition_type
    ∷ always (pos 4) wires.Binary (binary_bytes element.name)
    ∷ if_some (pos 5) wires.I32 number_bytes element.num_children
    ∷ if_some (pos 6) wires.I32 number_bytes element.converted_type
    ∷ [])

-- the text of a file's metadata
unfoldable pub footer_text : FileMeta → List ℕ
footer_text meta = fields_text (pos 0) (
    if_some (pos 1) wires.I32 number_bytes meta.version
    ∷ always (pos 2) wires.List (list_text wires.Struct element_text meta.schema)
    ∷ always (pos 3) wires.I64 (number_bytes meta.num_rows)
    ∷ always (pos 4) wires.List (list_text wires.Struct group_text meta.row_groups)
    ∷ [])

-- DataPageHeader
unfoldable pub data_text : DataPageHead → List ℕ
data_text head = fields_text (pos 0) (
    always (pos 1) wires.I32 (number_bytes head.num_values)
    ∷ always (pos 2) wires.I32 (number_bytes head.encoding)
    ∷ always (pos 3) wires.I32 (number_bytes head.definition_level_encoding)
    ∷ always (pos 4) wires.I32 (number_bytes head.repetition_level_encoding)
    ∷ [])

-- DictionaryPageHeader
unfoldable pub dictionary_text : DictionaryPageHead → List ℕ
dictionary_text head = fields_text (pos 0) (
    always (pos 1) wires.I32 (number_bytes head.num_values)
    ∷ always (pos 2) wires.I32 (number_bytes head.encoding)
    ∷ [])

-- the header of a data page of the second version is written without fields
abbrev pub v2_text : Bool → Option Written
v2_text true = always (pos 8) wires.Struct (0 ∷ [])
v2_text false = None

-- the text of a page's head
unfoldable pub head_text : PageHead → List ℕ
head_text head = fields_text (pos 0) (
    always (pos 1) wires.I32 (number_bytes head.page_type)
    ∷ if_some (pos 2) wires.I32 number_bytes head.uncompressed_page_size
    ∷ always (pos 3) wires.I32 (number_bytes head.compressed_page_size)
    ∷ if_some (pos 5) wires.Struct data_text head.data_page
    ∷ if_some (pos 7) wires.Struct dictionary_text head.dictionary_page
    ∷ v2_text head.data_page_v2
    ∷ [])
