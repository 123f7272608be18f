-- Which texts are the metadata of a file and the head of a page, as relations on whole texts, apart from reading and from
-- writing (Thrift compact protocol, "Struct"; Parquet format, parquet.thrift). A struct is fields, one behind another, and
-- a stop; a field is a header and a value; of a field that comes twice the last value counts; each needed field is there.
use Rattle.std.specs.Prelude.{◌≡◌, ℕ, ◌+◌, ◌≤◌, true, false, List, [], ◌∷◌, ◌++◌, length, codes, ℤ, pos, Option, Some, None, IsUtf8, IsSome}
use Rattle.std.specs.Bool.{MatchBool}
use Rattle.std.specs.Ordering.{int_eq}
use Rattle.std.specs.Int.{w32, from_le_bytes}
use Rattle.row_base.specs.declared.limits.TheConstants.{MAX_OBJECT_BYTES}
use Rattle.thrift_compact.specs.declared.wire.Wire.{Wire}
use Rattle.thrift_compact.specs.declared.wire.Wire.TheVariants as wires
use Rattle.thrift_compact.specs.declared.wire.Field.TheVariants as fields
use Rattle.thrift_compact.specs.Spelled.{SpellsNumber, SpellsBinary, SpellsList, SpellsField, SpellsValue}
use Rattle.parquet_meta.specs.declared.meta.FileMeta.{FileMeta}
use Rattle.parquet_meta.specs.declared.meta.SchemaElement.{SchemaElement}
use Rattle.parquet_meta.specs.declared.meta.RowGroup.{RowGroup}
use Rattle.parquet_meta.specs.declared.meta.ColumnChunk.{ColumnChunk}
use Rattle.parquet_meta.specs.declared.meta.ColumnMetaData.{ColumnMetaData}
use Rattle.parquet_meta.specs.declared.head.PageHead.{PageHead}
use Rattle.parquet_meta.specs.declared.head.DataPageHead.{DataPageHead}
use Rattle.parquet_meta.specs.declared.head.DictionaryPageHead.{DictionaryPageHead}
use Rattle.parquet_meta.specs.declared.known.FileKnown.{FileKnown}
use Rattle.parquet_meta.specs.declared.known.ElementKnown.{ElementKnown}
use Rattle.parquet_meta.specs.declared.known.GroupKnown.{GroupKnown}
use Rattle.parquet_meta.specs.declared.known.ChunkKnown.{ChunkKnown}
use Rattle.parquet_meta.specs.declared.known.ColumnKnown.{ColumnKnown}
use Rattle.parquet_meta.specs.declared.known.HeadKnown.{HeadKnown}
use Rattle.parquet_meta.specs.declared.known.DataKnown.{DataKnown}
use Rattle.parquet_meta.specs.declared.known.DictionaryKnown.{DictionaryKnown}
use Rattle.parquet_meta.specs.declared.known.HeadNumbers.{HeadNumbers}
use Rattle.parquet_meta.specs.declared.known.DataNumbers.{DataNumbers}
use Rattle.parquet_meta.specs.declared.known.DictionaryNumbers.{DictionaryNumbers}
use Rattle.parquet_meta.specs.Footer.{no_file, no_element, no_group, no_chunk, no_column}
use Rattle.parquet_meta.specs.Heads.{no_head, no_data, no_dictionary, is_in_range}

-- ---- values

-- a text in UTF-8, behind its length
pub record SpellsText (text : List ℕ) (value : List ℕ) : Type 0 where
  pub binary : SpellsBinary text value
  pub utf8 : IsUtf8 value

-- values, one behind another
unfoldable pub SpellsAll : {A : Type 0} → (List ℕ → A → Type 0) → List A → List ℕ → Type 0
SpellsAll spells [] text = text ≡ []
SpellsAll spells (value ∷ values) text = (first : List ℕ) × (others : List ℕ) × spells first value × SpellsAll spells values others × (text ≡ first ++ others)

-- a list: its header, and its elements
pub record SpellsElements {A : Type 0} (wire : Wire) (spells : List ℕ → A → Type 0) (text : List ℕ) (values : List A) : Type 0 where
  pub front : List ℕ
  pub rest : List ℕ
  pub headed : SpellsList (record { wire = wire; count = length values }) front
  pub each : SpellsAll spells values rest
  pub all : text ≡ front ++ rest

-- ---- structs

-- a used field: its wire type is the one that it must have, and its value goes into what is known
pub record Holds {A D : Type 0} (wanted : Wire) (spells : List ℕ → A → Type 0) (into : A → D) (wire : Wire) (text : List ℕ) (after : D) : Type 0 where
  pub typed : wire ≡ wanted
  pub value : A
  pub spelled : spells text value
  pub known : after ≡ into value

-- a field that isn't used: some value of its wire type, in which at most sixteen containers stand inside one another
pub record Unused {D : Type 0} (wire : Wire) (text : List ℕ) (before after : D) : Type 0 where
  pub spelled : SpellsValue 16 false wire text
  pub known : after ≡ before

-- the one where the id is this number, and else the other
abbrev pub AtId : ℤ → ℕ → Type 0 → Type 0 → Type 0
AtId id number here otherwise = MatchBool (int_eq id (pos number)) here otherwise

-- The fields behind one of the id `last`, and a stop. `field` says of a field's id, wire type and text what it makes of
-- what was known before it.
pub data SpellsStruct {D : Type 0} (field : ℤ → Wire → List ℕ → D → D → Type 0) : ℤ → D → List ℕ → D → Type 0 where
  stop : {last : ℤ} {known : D} {text : List ℕ} → SpellsField last text fields.Stop → SpellsStruct field last known text known
  next : {last : ℤ} {known whole : D} {text : List ℕ} (id : ℤ) (wire : Wire) (after : D) (head inner others : List ℕ) → SpellsField last head (fields.Next id wire)
      → field id wire inner known after → SpellsStruct field id after others whole → text ≡ head ++ (inner ++ others) → SpellsStruct field last known text whole

-- ---- ColumnMetaData

-- a field of ColumnMetaData that is not a list
abbrev pub ColumnNumberField : ℤ → Wire → List ℕ → ColumnKnown → ColumnKnown → Type 0
ColumnNumberField id wire text before after =
    AtId id 1 (Holds wires.I32 SpellsNumber (λ n. record before { physical_type = Some n }) wire text after)
    (AtId id 4 (Holds wires.I32 SpellsNumber (λ n. record before { codec = Some n }) wire text after)
    (AtId id 5 (Holds wires.I64 SpellsNumber (λ n. record before { num_values = Some n }) wire text after)
    (AtId id 6 (Holds wires.I64 SpellsNumber (λ n. record before { total_uncompressed_size = Some n }) wire text after)
    (AtId id 7 (Holds wires.I64 SpellsNumber (λ n. record before { total_compressed_size = Some n }) wire text after)
    (AtId id 9 (Holds wires.I64 SpellsNumber (λ n. record before { data_page_offset = Some n }) wire text after)
    (AtId id 11 (Holds wires.I64 SpellsNumber (λ n. record before { dictionary_page_offset = Some n }) wire text after)
    (Unused wire text before after)))))))

-- any field of ColumnMetaData
abbrev pub ColumnField : ℤ → Wire → List ℕ → ColumnKnown → ColumnKnown → Type 0
ColumnField id wire text before after =
    AtId id 2 (Holds wires.List (SpellsElements wires.I32 SpellsNumber) (λ ns. record before { encodings = Some ns }) wire text after)
    (AtId id 3 (Holds wires.List (SpellsElements wires.Binary SpellsText) (λ ts. record before { path_in_schema = Some ts }) wire text after)
    (ColumnNumberField id wire text before after))

-- what is known once all fields of this metadata have come
abbrev pub column_known : ColumnMetaData → ColumnKnown
column_known column = record {
  physical_type = Some column.physical_type;
  encodings = column.encodings;
  path_in_schema = Some column.path_in_schema;
  codec = Some column.codec;
  num_values = Some column.num_values;
  total_uncompressed_size = column.total_uncompressed_size;
  total_compressed_size = Some column.total_compressed_size;
  data_page_offset = Some column.data_page_offset;
  dictionary_page_offset = column.dictionary_page_offset;
}

-- a text of ColumnMetaData
abbrev pub SpellsColumn : List ℕ → ColumnMetaData → Type 0
SpellsColumn text column = SpellsStruct ColumnField (pos 0) no_column text (column_known column)

-- ---- ColumnChunk

-- a field of ColumnChunk
abbrev pub ChunkField : ℤ → Wire → List ℕ → ChunkKnown → ChunkKnown → Type 0
ChunkField id wire text before after =
    AtId id 1 (Holds wires.Binary SpellsText (λ t. record before { file_path = Some t }) wire text after)
    (AtId id 2 (Holds wires.I64 SpellsNumber (λ n. record before { file_offset = Some n }) wire text after)
    (AtId id 3 (Holds wires.Struct SpellsColumn (λ m. record before { meta_data = Some m }) wire text after)
    (Unused wire text before after)))

-- what is known once all fields of this chunk have come
abbrev pub chunk_known : ColumnChunk → ChunkKnown
chunk_known chunk = record { file_path = chunk.file_path; file_offset = chunk.file_offset; meta_data = Some chunk.meta_data }

-- a text of ColumnChunk
abbrev pub SpellsChunk : List ℕ → ColumnChunk → Type 0
SpellsChunk text chunk = SpellsStruct ChunkField (pos 0) no_chunk text (chunk_known chunk)

-- ---- RowGroup

-- a field of RowGroup
abbrev pub GroupField : ℤ → Wire → List ℕ → GroupKnown → GroupKnown → Type 0
GroupField id wire text before after =
    AtId id 1 (Holds wires.List (SpellsElements wires.Struct SpellsChunk) (λ cs. record before { columns = Some cs }) wire text after)
    (AtId id 2 (Holds wires.I64 SpellsNumber (λ n. record before { total_byte_size = Some n }) wire text after)
    (AtId id 3 (Holds wires.I64 SpellsNumber (λ n. record before { num_rows = Some n }) wire text after)
    (Unused wire text before after)))

-- what is known once all fields of this row group have come
abbrev pub group_known : RowGroup → GroupKnown
group_known group = record { columns = Some group.columns; total_byte_size = group.total_byte_size; num_rows = Some group.num_rows }

-- a text of RowGroup
abbrev pub SpellsGroup : List ℕ → RowGroup → Type 0
SpellsGroup text group = SpellsStruct GroupField (pos 0) no_group text (group_known group)

-- ---- SchemaElement

-- a field of SchemaElement
abbrev pub ElementField : ℤ → Wire → List ℕ → ElementKnown → ElementKnown → Type 0
ElementField id wire text before after =
    AtId id 1 (Holds wires.I32 SpellsNumber (λ n. record before { physical_type = Some n }) wire text after)
    (AtId id 3 (Holds wires.I32 SpellsNumber (λ n. record before { repetition_type = Some n }) wire text after)
    (AtId id 4 (Holds wires.Binary SpellsText (λ t. record before { name = Some t }) wire text after)
    (AtId id 5 (Holds wires.I32 SpellsNumber (λ n. record before { num_children = Some n }) wire text after)
    (AtId id 6 (Holds wires.I32 SpellsNumber (λ n. record before { converted_type = Some n }) wire text after)
    (Unused wire text before after)))))

-- what is known once all fields of this element have come
abbrev pub element_known : SchemaElement → ElementKnown
element_known element = record {
  physical_type = element.physical_type;
  repetition_type = element.repetition_type;
  name = Some element.name;
  num_children = element.num_children;
  converted_type = element.converted_type;
}

-- a text of SchemaElement
abbrev pub SpellsElement : List ℕ → SchemaElement → Type 0
SpellsElement text element = SpellsStruct ElementField (pos 0) no_element text (element_known element)

-- ---- FileMetaData

-- a field of FileMetaData
abbrev pub FileField : ℤ → Wire → List ℕ → FileKnown → FileKnown → Type 0
FileField id wire text before after =
    AtId id 1 (Holds wires.I32 SpellsNumber (λ n. record before { version = Some n }) wire text after)
    (AtId id 2 (Holds wires.List (SpellsElements wires.Struct SpellsElement) (λ es. record before { schema = Some es }) wire text after)
    (AtId id 3 (Holds wires.I64 SpellsNumber (λ n. record before { num_rows = Some n }) wire text after)
    (AtId id 4 (Holds wires.List (SpellsElements wires.Struct SpellsGroup) (λ gs. record before { row_groups = Some gs }) wire text after)
    (Unused wire text before after))))

-- what is known once all fields of this metadata have come
abbrev pub file_known : FileMeta → FileKnown
file_known meta = record { version = meta.version; schema = Some meta.schema; num_rows = Some meta.num_rows; row_groups = Some meta.row_groups }

-- a text of FileMetaData
abbrev pub SpellsFile : List ℕ → FileMeta → Type 0
SpellsFile text meta = SpellsStruct FileField (pos 0) no_file text (file_known meta)

-- "File format": the magic, pages, the footer, the footer's length, and the magic. What stands in the footer behind its
-- stop is looked at by no reader.
pub record IsFile (file : List ℕ) (meta : FileMeta) : Type 0 where
  pub pages : List ℕ
  pub text : List ℕ
  pub rest : List ℕ
  pub size : List ℕ
  pub spelled : SpellsFile text meta
  pub four : length size ≡ 4
  pub counted : from_le_bytes w32 size ≡ length text + length rest
  pub whole : file ≡ codes "PAR1" ++ (pages ++ ((text ++ rest) ++ (size ++ codes "PAR1")))
  pub small : length file ≤ MAX_OBJECT_BYTES

-- ---- DataPageHeader and DictionaryPageHeader

-- a field of DataPageHeader
abbrev pub DataField : ℤ → Wire → List ℕ → DataKnown → DataKnown → Type 0
DataField id wire text before after =
    AtId id 1 (Holds wires.I32 SpellsNumber (λ n. record before { num_values = Some n }) wire text after)
    (AtId id 2 (Holds wires.I32 SpellsNumber (λ n. record before { encoding = Some n }) wire text after)
    (AtId id 3 (Holds wires.I32 SpellsNumber (λ n. record before { definition_level_encoding = Some n }) wire text after)
    (AtId id 4 (Holds wires.I32 SpellsNumber (λ n. record before { repetition_level_encoding = Some n }) wire text after)
    (Unused wire text before after))))

-- what is known once all fields of this header have come
abbrev pub data_known : DataNumbers → DataKnown
data_known numbers = record {
  num_values = Some numbers.num_values;
  encoding = Some numbers.encoding;
  definition_level_encoding = Some numbers.definition_level_encoding;
  repetition_level_encoding = Some numbers.repetition_level_encoding;
}

-- a text of DataPageHeader
abbrev pub SpellsData : List ℕ → DataNumbers → Type 0
SpellsData text numbers = SpellsStruct DataField (pos 0) no_data text (data_known numbers)

-- a field of DictionaryPageHeader
abbrev pub DictionaryField : ℤ → Wire → List ℕ → DictionaryKnown → DictionaryKnown → Type 0
DictionaryField id wire text before after =
    AtId id 1 (Holds wires.I32 SpellsNumber (λ n. record before { num_values = Some n }) wire text after)
    (AtId id 2 (Holds wires.I32 SpellsNumber (λ n. record before { encoding = Some n }) wire text after)
    (Unused wire text before after))

-- what is known once all fields of this header have come
abbrev pub dictionary_known : DictionaryNumbers → DictionaryKnown
dictionary_known numbers = record { num_values = Some numbers.num_values; encoding = Some numbers.encoding }

-- a text of DictionaryPageHeader
abbrev pub SpellsDictionary : List ℕ → DictionaryNumbers → Type 0
SpellsDictionary text numbers = SpellsStruct DictionaryField (pos 0) no_dictionary text (dictionary_known numbers)

-- ---- PageHeader

-- the header of a data page of the second version is some struct
abbrev pub SpellsV2 : List ℕ → Unit {0} → Type 0
SpellsV2 text nothing = SpellsValue 16 false wires.Struct text

-- a field of PageHeader
abbrev pub HeadField : ℤ → Wire → List ℕ → HeadKnown → HeadKnown → Type 0
HeadField id wire text before after =
    AtId id 1 (Holds wires.I32 SpellsNumber (λ n. record before { page_type = Some n }) wire text after)
    (AtId id 2 (Holds wires.I32 SpellsNumber (λ n. record before { uncompressed_page_size = Some n }) wire text after)
    (AtId id 3 (Holds wires.I32 SpellsNumber (λ n. record before { compressed_page_size = Some n }) wire text after)
    (AtId id 5 (Holds wires.Struct SpellsData (λ d. record before { data_page = Some d }) wire text after)
    (AtId id 7 (Holds wires.Struct SpellsDictionary (λ d. record before { dictionary_page = Some d }) wire text after)
    (AtId id 8 (Holds wires.Struct SpellsV2 (λ nothing. record before { data_page_v2 = true }) wire text after)
    (Unused wire text before after))))))

-- what is known once all fields of this head have come
abbrev pub head_known : HeadNumbers → HeadKnown
head_known numbers = record {
  page_type = Some numbers.page_type;
  uncompressed_page_size = numbers.uncompressed_page_size;
  compressed_page_size = Some numbers.compressed_page_size;
  data_page = numbers.data_page;
  dictionary_page = numbers.dictionary_page;
  data_page_v2 = numbers.data_page_v2;
}

-- a data page has its header, and a dictionary page its own
abbrev pub HasHeader : {A B : Type 0} → ℤ → Option A → Option B → Type 0
HasHeader page_type data_page dictionary_page = (page_type ≡ pos 0 → IsSome data_page) × (page_type ≡ pos 2 → IsSome dictionary_page)

-- the numbers of the header of a data page
abbrev pub data_numbers : DataPageHead → DataNumbers
data_numbers head = record {
  num_values = head.num_values;
  encoding = head.encoding;
  definition_level_encoding = head.definition_level_encoding;
  repetition_level_encoding = head.repetition_level_encoding;
}

-- the numbers of the header of a dictionary page
abbrev pub dictionary_numbers : DictionaryPageHead → DictionaryNumbers
dictionary_numbers head = record { num_values = head.num_values; encoding = head.encoding }

-- the numbers of the header of a data page, where there is one
abbrev pub optional_data : Option DataPageHead → Option DataNumbers
optional_data None = None
optional_data (Some head) = Some (data_numbers head)

-- the numbers of the header of a dictionary page, where there is one
abbrev pub optional_dictionary : Option DictionaryPageHead → Option DictionaryNumbers
optional_dictionary None = None
optional_dictionary (Some head) = Some (dictionary_numbers head)

-- the numbers of the head of a page
abbrev pub head_numbers : PageHead → HeadNumbers
head_numbers head = record {
  page_type = head.page_type;
  uncompressed_page_size = head.uncompressed_page_size;
  compressed_page_size = head.compressed_page_size;
  data_page = optional_data head.data_page;
  dictionary_page = optional_dictionary head.dictionary_page;
  data_page_v2 = head.data_page_v2;
}

-- the numbers are from 0 to 2^31 - 1
abbrev pub SizeInRange : Option ℤ → Type 0
SizeInRange None = Unit {0}
SizeInRange (Some size) = is_in_range size ≡ true

-- all numbers of the header of a data page are in range
abbrev pub DataInRange : Option DataPageHead → Type 0
DataInRange None = Unit {0}
DataInRange (Some head) =
    (is_in_range head.num_values ≡ true) × (is_in_range head.encoding ≡ true) × (is_in_range head.definition_level_encoding ≡ true) × (is_in_range head.repetition_level_encoding ≡ true)

-- all numbers of the header of a dictionary page are in range
abbrev pub DictionaryInRange : Option DictionaryPageHead → Type 0
DictionaryInRange None = Unit {0}
DictionaryInRange (Some head) = (is_in_range head.num_values ≡ true) × (is_in_range head.encoding ≡ true)

-- all numbers of the head of a page are from 0 to 2^31 - 1
pub record IsInRange (head : PageHead) : Type 0 where
  pub page_type : (is_in_range head.page_type ≡ true)
  pub uncompressed : SizeInRange head.uncompressed_page_size
  pub compressed : (is_in_range head.compressed_page_size ≡ true)
  pub data_page : DataInRange head.data_page
  pub dictionary_page : DictionaryInRange head.dictionary_page

-- the head of a page
pub record SpellsHead (text : List ℕ) (head : PageHead) : Type 0 where
  pub spelled : SpellsStruct HeadField (pos 0) no_head text (head_known (head_numbers head))
  pub complete : HasHeader head.page_type head.data_page head.dictionary_page
  pub in_range : IsInRange head
