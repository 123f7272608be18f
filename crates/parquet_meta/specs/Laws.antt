-- Footers and heads of pages read exactly as their texts say, and what is written reads back.
use Rattle.std.specs.Prelude.{◌≡◌, ◌↔◌, ℕ, ◌+◌, ◌≤◌, ◌<◌, ◌^◌, List, [], ◌∷◌, ◌++◌, length, codes, ℤ, Option, Some, None, Ok, IsUtf8}
use Rattle.std.specs.Int.{w32, to_le_bytes}
use Rattle.row_base.specs.declared.limits.TheConstants.{MAX_OBJECT_BYTES}
use Rattle.thrift_compact.specs.Varints.{zigzag}
use Rattle.thrift_compact.specs.Laws.{Stands}
use Rattle.parquet_meta.specs.declared.meta.FileMeta.{FileMeta}
use Rattle.parquet_meta.specs.declared.meta.SchemaElement.{SchemaElement}
use Rattle.parquet_meta.specs.declared.meta.RowGroup.{RowGroup}
use Rattle.parquet_meta.specs.declared.meta.ColumnChunk.{ColumnChunk}
use Rattle.parquet_meta.specs.declared.meta.ColumnMetaData.{ColumnMetaData}
use Rattle.parquet_meta.specs.declared.head.PageHead.{PageHead}
use Rattle.parquet_meta.specs.declared.head.PageAt.{PageAt}
use Rattle.parquet_meta.specs.Footer.{footer_of}
use Rattle.parquet_meta.specs.Heads.{page_head_at}
use Rattle.parquet_meta.specs.Written.{footer_text, head_text}
use Rattle.parquet_meta.specs.Grammar.{IsFile, SpellsHead, HasHeader, IsInRange}

-- a footer is read exactly where a text of this metadata stands in the file
abbrev pub FootersReadExactly : Type 0
FootersReadExactly = (file : List ℕ) (meta : FileMeta) → (footer_of file ≡ Ok meta) ↔ IsFile file meta

-- the head of a page is read exactly where a text of this head stands, and the body begins behind it
abbrev pub HeadsReadExactly : Type 0
HeadsReadExactly = (file : List ℕ) (at : ℕ) (page : PageAt)
    → (page_head_at file at ≡ Ok page) ↔ ((text : List ℕ) × SpellsHead text page.head × Stands file at text page.body)

-- ---- metadata that can be written: its numbers have 64 bits, its texts are UTF-8, and no list or text has 2^32 elements

-- a number of 64 bits
abbrev pub IsNarrow : ℤ → Type 0
IsNarrow number = zigzag number < 2 ^ 64

-- a value fits where there is one
abbrev pub IfThere : {A : Type 0} → (A → Type 0) → Option A → Type 0
IfThere fits None = Unit {0}
IfThere fits (Some value) = fits value

-- all elements fit
unfoldable pub AllFit : {A : Type 0} → (A → Type 0) → List A → Type 0
AllFit fits [] = Unit {0}
AllFit fits (first ∷ others) = fits first × AllFit fits others

-- a list of fewer than 2^32 elements, each of which fits
pub record IsShort {A : Type 0} (fits : A → Type 0) (elements : List A) : Type 0 where
  pub few : length elements < 2 ^ 32
  pub each : AllFit fits elements

-- a text in UTF-8 of fewer than 2^32 bytes
pub record IsText (text : List ℕ) : Type 0 where
  pub short : length text < 2 ^ 32
  pub utf8 : IsUtf8 text

-- the metadata of a chunk can be written
pub record FitsColumn (column : ColumnMetaData) : Type 0 where
  pub physical_type : IsNarrow column.physical_type
  pub encodings : IfThere (IsShort IsNarrow) column.encodings
  pub path_in_schema : IsShort IsText column.path_in_schema
  pub codec : IsNarrow column.codec
  pub num_values : IsNarrow column.num_values
  pub total_uncompressed_size : IfThere IsNarrow column.total_uncompressed_size
  pub total_compressed_size : IsNarrow column.total_compressed_size
  pub data_page_offset : IsNarrow column.data_page_offset
  pub dictionary_page_offset : IfThere IsNarrow column.dictionary_page_offset

-- a chunk can be written
pub record FitsChunk (chunk : ColumnChunk) : Type 0 where
  pub file_path : IfThere IsText chunk.file_path
  pub file_offset : IfThere IsNarrow chunk.file_offset
  pub meta_data : FitsColumn chunk.meta_data

-- a row group can be written
pub record FitsGroup (group : RowGroup) : Type 0 where
  pub columns : IsShort FitsChunk group.columns
  pub total_byte_size : IfThere IsNarrow group.total_byte_size
  pub num_rows : IsNarrow group.num_rows

-- an element of the schema can be written
pub record FitsElement (element : SchemaElement) : Type 0 where
  pub physical_type : IfThere IsNarrow element.physical_type
  pub repetition_type : IfThere IsNarrow element.repetition_type
  pub name : IsText element.name
  pub num_children : IfThere IsNarrow element.num_children
  pub converted_type : IfThere IsNarrow element.converted_type

-- the metadata of a file can be written
pub record FitsFile (meta : FileMeta) : Type 0 where
  pub version : IfThere IsNarrow meta.version
  pub schema : IsShort FitsElement meta.schema
  pub num_rows : IsNarrow meta.num_rows
  pub row_groups : IsShort FitsGroup meta.row_groups

-- a file that ends with the text of its metadata and whatever follows it, with their length and the magic, reads as it
abbrev pub FootersReadBack : Type 0
FootersReadBack = (meta : FileMeta) (pages rest : List ℕ) → FitsFile meta
    → length (codes "PAR1" ++ (pages ++ ((footer_text meta ++ rest) ++ (to_le_bytes w32 (length (footer_text meta ++ rest)) ++ codes "PAR1")))) ≤ MAX_OBJECT_BYTES
    → footer_of (codes "PAR1" ++ (pages ++ ((footer_text meta ++ rest) ++ (to_le_bytes w32 (length (footer_text meta ++ rest)) ++ codes "PAR1")))) ≡ Ok meta

-- a page's head, whatever stands before and behind its text, reads as it was written
abbrev pub HeadsReadBack : Type 0
HeadsReadBack = (head : PageHead) (front rest : List ℕ) → HasHeader head.page_type head.data_page head.dictionary_page → IsInRange head
    → page_head_at (front ++ (head_text head ++ rest)) (length front) ≡ Ok (record { head = head; body = length front + length (head_text head) })
