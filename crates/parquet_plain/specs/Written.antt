-- The bytes of a file that is written (README.md, "File format"; parquet.thrift).
use Rattle.std.specs.Prelude.{ℕ, zero, suc, ◌≡◌, ◌+◌, ◌%◌, ◌^◌, Bool, true, false, if◌then◌else◌, List, [], ◌∷◌, ◌++◌, map, length, take, drop, codes, slice_index_or, Option, Some, None, ℤ, pos}
use Rattle.std.specs.Int.{w32, to_le_bytes}
use Rattle.std.specs.List.{All}
use Rattle.row_base.specs.declared.row.Datum.{Datum}
use Rattle.row_base.specs.declared.row.Datum.TheVariants as datum
use Rattle.row_base.specs.declared.row.Kind.{Kind}
use Rattle.row_base.specs.declared.row.Kind.TheVariants as kind
use Rattle.row_base.specs.declared.schema.Column.{Column}
use Rattle.row_base.specs.Schema.{TableSchema}
use Rattle.parquet_meta.specs.declared.head.PageHead.{PageHead}
use Rattle.parquet_meta.specs.declared.meta.FileMeta.{FileMeta}
use Rattle.parquet_meta.specs.declared.meta.SchemaElement.{SchemaElement}
use Rattle.parquet_meta.specs.declared.meta.RowGroup.{RowGroup}
use Rattle.parquet_meta.specs.declared.meta.ColumnChunk.{ColumnChunk}
use Rattle.parquet_meta.specs.Written.{head_text, footer_text}
use Rattle.parquet_pages.specs.Places.{dictionary_of, can_place, places_of}
use Rattle.parquet_pages.specs.Written.{page_text, dictionary_text, index_text, CanStand}
use Rattle.parquet_plain.specs.Tree.{is_partition, physical_of}

-- ---- parts of so many elements, of which the last one may have fewer

unfoldable pub parts_in : {A : Type 0} → ℕ → ℕ → List A → List (List A)
parts_in size zero xs = []
parts_in size (suc most) [] = []
parts_in size (suc most) (x ∷ xs) = take size (x ∷ xs) ∷ parts_in size most (drop size (x ∷ xs))

unfoldable pub parts_of : {A : Type 0} → ℕ → List A → List (List A)
parts_of size xs = parts_in size (length xs) xs

-- the most values of a page, and the most rows of a group
abbrev pub page_values_most : ℕ
page_values_most = 4096

abbrev pub group_rows_most : ℕ
group_rows_most = 16384

-- ---- pages

-- the head of a data page of so many values and bytes (PLAIN = 0, RLE = 3, RLE_DICTIONARY = 8)
abbrev pub data_head : ℤ → ℤ → ℤ → PageHead
data_head encoding count size = record {
  page_type = pos 0;
  uncompressed_page_size = Some size;
  compressed_page_size = size;
  data_page = Some (record { num_values = count; encoding = encoding; definition_level_encoding = pos 3; repetition_level_encoding = pos 3 });
  dictionary_page = None;
  data_page_v2 = false;
}

-- the head of a dictionary page
abbrev pub dictionary_head : ℤ → ℤ → PageHead
dictionary_head count size = record {
  page_type = pos 2;
  uncompressed_page_size = Some size;
  compressed_page_size = size;
  data_page = None;
  dictionary_page = Some (record { num_values = count; encoding = pos 0 });
  data_page_v2 = false;
}

-- a page: its head and its body
abbrev pub data_page : ℤ → ℕ → List ℕ → List ℕ
data_page encoding count body = head_text (data_head encoding (pos count) (pos (length body))) ++ body

abbrev pub dictionary_page : ℕ → List ℕ → List ℕ
dictionary_page count body = head_text (dictionary_head (pos count) (pos (length body))) ++ body

-- the values of a chunk's dictionary can stand in a dictionary page
abbrev pub DictionaryStands : Kind → Option (List Datum) → Type 0
DictionaryStands k None = Unit {0}
DictionaryStands k (Some ds) = All (CanStand k false) ds

-- values can stand in a data page of a chunk with or without a dictionary
abbrev pub AreIn : Option (List Datum) → Bool → List Datum → Type 0
AreIn None nullable vs = Unit {0}
AreIn (Some ds) nullable vs = All (λ v. can_place ds nullable v ≡ true) vs

-- the places of values in the dictionary of a chunk, where it has one
abbrev pub ArePlaces : Option (List Datum) → List Datum → List ℕ → Type 0
ArePlaces None vs places = Unit {0}
ArePlaces (Some ds) vs places = places ≡ places_of ds vs

-- a data page of these values, with or without the dictionary of its chunk
unfoldable pub page_of : Column → Option (List Datum) → List Datum → List ℕ
page_of c None vs = data_page (pos 0) (length vs) (page_text c.kind c.nullable vs)
page_of c (Some ds) vs = data_page (pos 8) (length vs) (index_text c.nullable ds vs)

-- the dictionary page of a chunk, where it has a dictionary
unfoldable pub front_of : Column → Option (List Datum) → List ℕ
front_of c None = []
front_of c (Some ds) = dictionary_page (length ds) (dictionary_text c.kind ds)

-- the data pages of a chunk
unfoldable pub pages_of : Column → Option (List Datum) → List (List Datum) → List ℕ
pages_of c dictionary [] = []
pages_of c dictionary (vs ∷ vss) = page_of c dictionary vs ++ pages_of c dictionary vss

-- ---- chunks

unfoldable pub chunk_text_by : Column → Option (List Datum) → List Datum → List ℕ
chunk_text_by c dictionary values = front_of c dictionary ++ pages_of c dictionary (parts_of page_values_most values)

-- the chunk of a column with these values
unfoldable pub chunk_text : Column → List Datum → List ℕ
chunk_text c values = chunk_text_by c (dictionary_of c.kind values) values

abbrev pub encodings_of : Option (List Datum) → List ℤ
encodings_of None = pos 0 ∷ pos 3 ∷ []
encodings_of (Some ds) = pos 0 ∷ pos 3 ∷ pos 8 ∷ []

abbrev pub place_if : ℤ → Option (List Datum) → Option ℤ
place_if at None = None
place_if at (Some ds) = Some at

-- what the footer says of a chunk of so many values and bytes, which stands at `at`, and its data pages at `pages_at`
abbrev pub entry_of : Column → Option (List Datum) → ℤ → ℤ → ℤ → ℤ → ColumnChunk
entry_of c dictionary count at pages_at size = record {
  file_path = None;
  file_offset = Some (pos 0);
  meta_data = record {
    physical_type = physical_of c.kind;
    encodings = Some (encodings_of dictionary);
    path_in_schema = c.name ∷ [];
    codec = pos 0;
    num_values = count;
    total_uncompressed_size = Some size;
    total_compressed_size = size;
    data_page_offset = pages_at;
    dictionary_page_offset = place_if at dictionary;
  };
}

unfoldable pub chunk_entry_by : Column → Option (List Datum) → List Datum → ℕ → ColumnChunk
chunk_entry_by c dictionary values at =
    entry_of c dictionary (pos (length values)) (pos at) (pos (at + length (front_of c dictionary))) (pos (length (chunk_text_by c dictionary values)))

unfoldable pub chunk_entry : Column → List Datum → ℕ → ColumnChunk
chunk_entry c values at = chunk_entry_by c (dictionary_of c.kind values) values at

-- ---- row groups

-- the values of the column at this place
abbrev pub column_values : ℕ → List (List Datum) → List Datum
column_values place rows = map (λ r. slice_index_or r place datum.Null) rows

-- the chunks of the columns from this place on that are no partition columns
abbrev pub chunks_text : List ℕ → List (List Datum) → ℕ → List Column → List ℕ
chunks_text partition rows place [] = []
chunks_text partition rows place (c ∷ cs) =
    if is_partition partition place then chunks_text partition rows (place + 1) cs
    else chunk_text c (column_values place rows) ++ chunks_text partition rows (place + 1) cs

-- what the footer says of these chunks, of which the first stands at `at`
abbrev pub chunk_entries : List ℕ → List (List Datum) → ℕ → ℕ → List Column → List ColumnChunk
chunk_entries partition rows at place [] = []
chunk_entries partition rows at place (c ∷ cs) =
    if is_partition partition place then chunk_entries partition rows at (place + 1) cs
    else chunk_entry c (column_values place rows) at
    ∷ chunk_entries partition rows (at + length (chunk_text c (column_values place rows))) (place + 1) cs

-- a group of these rows
unfoldable pub group_text : TableSchema → List (List Datum) → List ℕ
group_text s rows = chunks_text s.partition rows 0 s.columns

-- what the footer says of the group that stands at this place
unfoldable pub group_entry : TableSchema → ℕ → List (List Datum) → RowGroup
group_entry s at rows = record {
  columns = chunk_entries s.partition rows at 0 s.columns;
  total_byte_size = Some (pos (length (group_text s rows)));
  num_rows = pos (length rows);
}

unfoldable pub groups_text : TableSchema → List (List (List Datum)) → List ℕ
groups_text s [] = []
groups_text s (g ∷ gs) = group_text s g ++ groups_text s gs

unfoldable pub group_entries : TableSchema → ℕ → List (List (List Datum)) → List RowGroup
group_entries s at [] = []
group_entries s at (g ∷ gs) = group_entry s at g ∷ group_entries s (at + length (group_text s g)) gs

-- ---- the schema

-- UTF8 and DATE
abbrev pub converted_of : Kind → Option ℤ
converted_of kind.Long = None
converted_of kind.Integer = None
converted_of kind.Boolean = None
converted_of kind.String = Some (pos 0)
converted_of kind.Date = Some (pos 6)

-- REQUIRED and OPTIONAL
abbrev pub repetition_of : Bool → ℤ
repetition_of false = pos 0
repetition_of true = pos 1

abbrev pub element_of : Column → SchemaElement
element_of c = record {
  physical_type = Some (physical_of c.kind);
  repetition_type = Some (repetition_of c.nullable);
  name = c.name;
  num_children = None;
  converted_type = converted_of c.kind;
}

-- the elements of the columns from this place on that are no partition columns
abbrev pub elements_from : List ℕ → ℕ → List Column → List SchemaElement
elements_from partition place [] = []
elements_from partition place (c ∷ cs) =
    if is_partition partition place then elements_from partition (place + 1) cs
    else element_of c ∷ elements_from partition (place + 1) cs

abbrev pub root_of : ℤ → SchemaElement
root_of children = record {
  physical_type = None;
  repetition_type = None;
  name = codes "schema";
  num_children = Some children;
  converted_type = None;
}

unfoldable pub elements_of : TableSchema → List SchemaElement
elements_of s = let leaves = elements_from s.partition 0 s.columns in root_of (pos (length leaves)) ∷ leaves

-- ---- the file

abbrev pub magic : List ℕ
magic = codes "PAR1"

-- the groups of a file
abbrev pub groups_of : List (List Datum) → List (List (List Datum))
groups_of rows = parts_of group_rows_most rows

-- what the footer says
unfoldable pub meta_of : TableSchema → List (List Datum) → FileMeta
meta_of s rows = record {
  version = Some (pos 1);
  schema = elements_of s;
  num_rows = pos (length rows);
  row_groups = group_entries s 4 (groups_of rows);
}

-- the low 32 bits of a number, the lowest byte first
abbrev pub length_bytes : ℕ → List ℕ
length_bytes n = to_le_bytes w32 (n % 2 ^ 32)

-- metadata, its length and the magic
abbrev pub ended : List ℕ → List ℕ
ended footer = footer ++ (length_bytes (length footer) ++ magic)

-- the file of these rows
unfoldable pub file_text : TableSchema → List (List Datum) → List ℕ
file_text s rows = magic ++ (groups_text s (groups_of rows) ++ ended (footer_text (meta_of s rows)))
