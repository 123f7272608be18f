-- What a file of rows is, as a relation between its bytes and the rows (README.md, "File format", "Data Pages";
-- parquet.thrift), apart from reading and from writing.
use Rattle.std.specs.Prelude.{◌≡◌, ◌↔◌, ℕ, zero, suc, ◌+◌, ◌≤◌, true, false, List, [], ◌∷◌, ◌++◌, length, slice_index_or, Option, Some, None, Ok, pos, unsigned_abs}
use Rattle.std.specs.List.{All, find, list_any}
use Rattle.row_base.specs.declared.limits.TheConstants.{MAX_FILE_ROWS}
use Rattle.row_base.specs.declared.row.Datum.{Datum}
use Rattle.row_base.specs.declared.row.Datum.TheVariants as datum
use Rattle.row_base.specs.Schema.{TableSchema}
use Rattle.thrift_compact.specs.Laws.{Stands}
use Rattle.parquet_meta.specs.declared.head.PageAt.{PageAt}
use Rattle.parquet_meta.specs.declared.meta.ColumnChunk.{ColumnChunk}
use Rattle.parquet_meta.specs.declared.meta.FileMeta.{FileMeta}
use Rattle.parquet_meta.specs.declared.meta.RowGroup.{RowGroup}
use Rattle.parquet_meta.specs.declared.meta.SchemaElement.{SchemaElement}
use Rattle.parquet_meta.specs.Grammar.{IsFile, SpellsHead}
use Rattle.parquet_pages.specs.Places.{is_null}
use Rattle.parquet_pages.specs.Grammar.{DataPage, DictionaryPage}
use Rattle.parquet_plain.specs.declared.source.Leaf.{Leaf}
use Rattle.parquet_plain.specs.declared.source.Source.{Source}
use Rattle.parquet_plain.specs.declared.source.Source.TheVariants as source
use Rattle.parquet_plain.specs.Tree.{physical_of, has_numbers_in_range, is_group, is_flat, is_other_type, children_of, sources_from}
use Rattle.parquet_plain.specs.Reading.{is_chunk_of, has_natural_numbers, first_byte, page_end, side_by_side, file_rows}

-- the head of a page stands at this place, and the page's body behind it
pub record HeadStands (file : List ℕ) (at : ℕ) (page : PageAt) : Type 0 where
  pub text : List ℕ
  pub spelled : SpellsHead text page.head
  pub stands : Stands file at text page.body

-- ---- the schema: a root and its leaves

-- an element below the root is a leaf, REQUIRED or OPTIONAL, with its numbers in range, and has the physical type of the
-- column that it holds
pub record IsLeaf (sources : List Source) (place : ℕ) (e : SchemaElement) : Type 0 where
  pub flat : is_group e ≡ false
  pub typed : list_any (is_other_type place e) sources ≡ false
  pub numbers : has_numbers_in_range e ≡ true
  pub once : is_flat e.repetition_type ≡ true

-- so is each from this place on
abbrev pub AreLeaves : List Source → ℕ → List SchemaElement → Type 0
AreLeaves sources place [] = Unit {0}
AreLeaves sources place (e ∷ es) = IsLeaf sources place e × AreLeaves sources (place + 1) es

-- a root and its children
pub record IsTree (sources : List Source) (elements leaves : List SchemaElement) : Type 0 where
  pub root : SchemaElement
  pub all : elements ≡ root ∷ leaves
  pub numbers : has_numbers_in_range root ≡ true
  pub counted : children_of root.num_children ≡ length leaves
  pub each : AreLeaves sources 0 leaves

-- ---- the chunk of a column

-- no null stands in a column of the table that has none
abbrev pub NullsMayStand : Leaf → List Datum → Type 0
NullsMayStand l vs = l.optional ≡ true → l.nullable ≡ false → All (λ v. is_null v ≡ false) vs

-- data pages, one behind another, from a place up to another
pub data DataPages (l : Leaf) (file : List ℕ) (dictionary : Option (List Datum)) : ℕ → ℕ → List Datum → Type 0 where
  done : {at end : ℕ} {values : List Datum} → at ≡ end → values ≡ [] → DataPages l file dictionary at end values
  next : {at end : ℕ} {values : List Datum} (page : PageAt) (vs more : List Datum) → HeadStands file at page
      → DataPage l.kind l.optional page file dictionary vs → NullsMayStand l vs → DataPages l file dictionary (page_end page) end more
      → values ≡ vs ++ more → DataPages l file dictionary at end values

-- a chunk: a dictionary page or none, and then data pages, which fill its bytes
pub data ChunkPages (l : Leaf) (file : List ℕ) (at end : ℕ) (values : List Datum) : Type 0 where
  plain : DataPages l file None at end values → ChunkPages l file at end values
  indexed : (page : PageAt) (ds : List Datum) → HeadStands file at page → DictionaryPage l.kind page file ds
      → DataPages l file (Some ds) (page_end page) end values → ChunkPages l file at end values

-- the first chunk of the column's name, in a group of so many rows, holds these values
pub record IsChunk (l : Leaf) (rows : ℕ) (chunks : List ColumnChunk) (file : List ℕ) (values : List Datum) : Type 0 where
  pub chunk : ColumnChunk
  pub named : find (is_chunk_of l.name) chunks ≡ Some chunk
  pub typed : chunk.meta_data.physical_type ≡ physical_of l.kind
  pub uncompressed : chunk.meta_data.codec ≡ pos 0
  pub here : chunk.file_path ≡ None
  pub numbers : has_natural_numbers chunk ≡ true
  pub counted : unsigned_abs chunk.meta_data.num_values ≡ rows
  pub within : first_byte chunk.meta_data + unsigned_abs chunk.meta_data.total_compressed_size ≤ length file
  pub pages : ChunkPages l file (first_byte chunk.meta_data) (first_byte chunk.meta_data + unsigned_abs chunk.meta_data.total_compressed_size) values
  pub complete : length values ≡ rows

-- ---- row groups

-- The values of a column in a group of so many rows. A column without a leaf has none: it is null in each row; where it
-- may not be null the group has no row.
abbrev pub HasValues : Source → ℕ → List ColumnChunk → List ℕ → List Datum → Type 0
HasValues source.Nulls rows chunks file vs = vs ≡ []
HasValues (source.Lacking name) rows chunks file vs = (rows ≡ 0) × (vs ≡ [])
HasValues (source.Leaf l) rows chunks file vs = IsChunk l rows chunks file vs

-- the values of each column
abbrev pub HaveValues : List Source → ℕ → List ColumnChunk → List ℕ → List (List Datum) → Type 0
HaveValues [] rows chunks file vss = vss ≡ []
HaveValues (c ∷ cs) rows chunks file vss =
    (vs : List Datum) × (others : List (List Datum)) × HasValues c rows chunks file vs × HaveValues cs rows chunks file others × (vss ≡ vs ∷ others)

-- a group holds these rows: its columns side by side, with null where a column has no value
pub record IsGroup (sources : List Source) (file : List ℕ) (g : RowGroup) (rows : List (List Datum)) : Type 0 where
  pub count : ℕ
  pub columns : List (List Datum)
  pub counted : g.num_rows ≡ pos count
  pub held : HaveValues sources count g.columns file columns
  pub beside : rows ≡ side_by_side count columns

-- groups hold these rows, one behind another
abbrev pub AreGroups : List Source → List ℕ → List RowGroup → List (List Datum) → Type 0
AreGroups sources file [] rows = rows ≡ []
AreGroups sources file (g ∷ gs) rows =
    (first : List (List Datum)) × (others : List (List Datum)) × IsGroup sources file g first × AreGroups sources file gs others × (rows ≡ first ++ others)

-- ---- the file

-- the file holds these rows for a table of this schema
pub record FileRows (s : TableSchema) (file : List ℕ) (rows : List (List Datum)) : Type 0 where
  pub meta : FileMeta
  pub leaves : List SchemaElement
  pub footer : IsFile file meta
  pub tree : IsTree (sources_from s.partition leaves 0 s.columns) meta.schema leaves
  pub groups : AreGroups (sources_from s.partition leaves 0 s.columns) file meta.row_groups rows
  pub few : length rows ≤ MAX_FILE_ROWS

-- the row at a place of columns, with null where a column has no value
abbrev pub row_at : ℕ → List (List Datum) → List Datum
row_at place [] = []
row_at place (vs ∷ vss) = slice_index_or vs place datum.Null ∷ row_at place vss

-- so many rows of columns, from a place on
abbrev pub rows_from : ℕ → ℕ → List (List Datum) → List (List Datum)
rows_from place zero columns = []
rows_from place (suc count) columns = row_at place columns ∷ rows_from (place + 1) count columns

-- columns side by side: each row has of each column the value at the row's place
abbrev pub RowsAreBeside : Type 0
RowsAreBeside = (count : ℕ) (columns : List (List Datum)) → side_by_side count columns ≡ rows_from 0 count columns

-- a file is read as rows exactly where it holds them
abbrev pub FilesAreRead : Type 0
FilesAreRead = (s : TableSchema) (file : List ℕ) (rows : List (List Datum)) → (file_rows s file ≡ Ok rows) ↔ FileRows s file rows

-- a file holds one list of rows at most
abbrev pub RowsAreOne : Type 0
RowsAreOne = (s : TableSchema) (file : List ℕ) (rows others : List (List Datum)) → FileRows s file rows → FileRows s file others → rows ≡ others
