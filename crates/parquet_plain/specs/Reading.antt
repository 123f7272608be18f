-- The rows of a file, or the first fault in the order of reading (README.md, "File format"; parquet.thrift).
use Rattle.std.specs.Prelude.{ℕ, zero, suc, ◌+◌, ◌-◌, ◌==◌, nat_lt, Bool, true, false, not, ◌&&◌, ◌||◌, if◌then◌else◌, List, [], ◌∷◌, ◌++◌, length, map, replicate, drop, Option, Some, None, is_some, Result, Ok, Err, ℤ, pos, negsuc, unsigned_abs}
use Rattle.std.specs.List.{find}
use Rattle.std.specs.Ordering.{int_eq}
use Rattle.row_base.specs.declared.limits.TheConstants.{MAX_FILE_ROWS}
use Rattle.row_base.specs.declared.row.Datum.{Datum}
use Rattle.row_base.specs.declared.row.Datum.TheVariants as datum
use Rattle.row_base.specs.declared.schema.Column.{Column}
use Rattle.row_base.specs.Columns.{head_or_null}
use Rattle.row_base.specs.Schema.{TableSchema, is_i32}
use Rattle.parquet_meta.specs.declared.fault.FileFault.{FileFault}
use Rattle.parquet_meta.specs.declared.fault.FileFault.TheVariants as faults
use Rattle.parquet_meta.specs.declared.head.PageAt.{PageAt}
use Rattle.parquet_meta.specs.declared.head.DataPageHead.{DataPageHead}
use Rattle.parquet_meta.specs.declared.head.DictionaryPageHead.{DictionaryPageHead}
use Rattle.parquet_meta.specs.declared.meta.ColumnChunk.{ColumnChunk}
use Rattle.parquet_meta.specs.declared.meta.ColumnMetaData.{ColumnMetaData}
use Rattle.parquet_meta.specs.declared.meta.RowGroup.{RowGroup}
use Rattle.row_base.specs.Faults.{◌>>=◌}
use Rattle.parquet_meta.specs.Footer.{footer_of}
use Rattle.parquet_meta.specs.Heads.{page_head_at}
use Rattle.parquet_pages.specs.Pages.{page_values, page_has_null, dictionary_values}
use Rattle.parquet_plain.specs.declared.chunk.Span.{Span}
use Rattle.parquet_plain.specs.declared.pages.Walk.{Walk}
use Rattle.parquet_plain.specs.declared.source.Leaf.{Leaf}
use Rattle.parquet_plain.specs.declared.source.Source.{Source}
use Rattle.parquet_plain.specs.declared.source.Source.TheVariants as source
use Rattle.parquet_plain.specs.Tree.{same_name, is_partition, physical_of, sources_in}

-- ---- the chunk of a column

-- a path of this name alone
abbrev pub is_path_of : List ℕ → List (List ℕ) → Bool
is_path_of name [] = false
is_path_of name (n ∷ []) = same_name n name
is_path_of name (n ∷ m ∷ ns) = false

abbrev pub is_chunk_of : List ℕ → ColumnChunk → Bool
is_chunk_of name c = is_path_of name c.meta_data.path_in_schema

abbrev pub is_natural : ℤ → Bool
is_natural (pos n) = true
is_natural (negsuc n) = false

abbrev pub is_absent_or_natural : Option ℤ → Bool
is_absent_or_natural None = true
is_absent_or_natural (Some z) = is_natural z

-- no number of a chunk is below 0
abbrev pub has_natural_numbers : ColumnChunk → Bool
has_natural_numbers c =
    (is_absent_or_natural c.file_offset && is_natural c.meta_data.num_values)
    && (is_absent_or_natural c.meta_data.total_uncompressed_size && is_natural c.meta_data.total_compressed_size)
    && (is_natural c.meta_data.data_page_offset && is_absent_or_natural c.meta_data.dictionary_page_offset)

abbrev pub first_of : ℕ → Option ℤ → ℕ
first_of place None = place
first_of place (Some z) = if nat_lt 0 (unsigned_abs z) && nat_lt (unsigned_abs z) place then unsigned_abs z else place

-- the place of a chunk's first byte: the dictionary page stands in front of the data pages, where there is one
abbrev pub first_byte : ColumnMetaData → ℕ
first_byte m = first_of (unsigned_abs m.data_page_offset) m.dictionary_page_offset

-- a codec that isn't read; a codec is a number of 32 bits
abbrev pub codec_fault : List ℕ → ℤ → FileFault
codec_fault name codec = if is_i32 codec then faults.Codec codec else faults.Shape name

abbrev pub is_whole : ℕ → ℕ → ColumnChunk → Bool
is_whole rows size c =
    (not (is_some c.file_path) && has_natural_numbers c)
    && ((unsigned_abs c.meta_data.num_values == rows) && not (nat_lt size (first_byte c.meta_data + unsigned_abs c.meta_data.total_compressed_size)))

-- where the bytes of a leaf's chunk stand, in a file of so many bytes and a group of so many rows
unfoldable pub span_of : Leaf → ℕ → ℕ → ColumnChunk → Result Span FileFault
span_of l rows size c =
    if not (int_eq c.meta_data.physical_type (physical_of l.kind)) then Err (faults.Physical l.name)
    else (if not (int_eq c.meta_data.codec (pos 0)) then Err (codec_fault l.name c.meta_data.codec)
    else (if is_whole rows size c
    then Ok (record { begins = first_byte c.meta_data; ends = first_byte c.meta_data + unsigned_abs c.meta_data.total_compressed_size })
    else Err (faults.Shape l.name)))

-- ---- the pages of a chunk

-- the place behind a page
abbrev pub page_end : PageAt → ℕ
page_end page = page.body + unsigned_abs page.head.compressed_page_size

-- PLAIN, PLAIN_DICTIONARY and RLE_DICTIONARY
abbrev pub is_data_encoding : ℤ → Bool
is_data_encoding e = int_eq e (pos 0) || (int_eq e (pos 2) || int_eq e (pos 8))

-- the encodings of a data page are read; levels are looked at where the page has them
abbrev pub encodings_checked : Bool → DataPageHead → Result ℕ FileFault
encodings_checked optional h =
    if not (is_data_encoding h.encoding) then Err (faults.Encoding h.encoding)
    else (if optional && not (int_eq h.definition_level_encoding (pos 3)) then Err (faults.Encoding h.definition_level_encoding)
    else Ok (unsigned_abs h.num_values))

abbrev pub count_by : Bool → ℕ → Option DataPageHead → Result ℕ FileFault
count_by optional body None = Err (faults.Page body)
count_by optional body (Some h) = encodings_checked optional h

-- how many values a data page has
unfoldable pub count_in : Bool → PageAt → Result ℕ FileFault
count_in optional page =
    if int_eq page.head.page_type (pos 0) then count_by optional page.body page.head.data_page
    else Err (faults.PageKind page.head.page_type)

-- PLAIN and PLAIN_DICTIONARY
abbrev pub dictionary_checked : Option DictionaryPageHead → Result (Unit {0}) FileFault
dictionary_checked None = Ok tt
dictionary_checked (Some h) = if int_eq h.encoding (pos 0) || int_eq h.encoding (pos 2) then Ok tt else Err (faults.Encoding h.encoding)

-- null stands in no column that has none
unfoldable pub nulls_checked : Leaf → PageAt → List ℕ → Result (Unit {0}) FileFault
nulls_checked l page file =
    if l.optional && not l.nullable
    then (page_has_null l.optional page file >>= λ has. if has then Err (faults.Shape l.name) else Ok tt)
    else Ok tt

-- a dictionary page, which is the first of its chunk
unfoldable pub with_dictionary : Leaf → Span → List ℕ → PageAt → Walk → Result Walk FileFault
with_dictionary l span file page w =
    dictionary_checked page.head.dictionary_page >>= λ _.
    if not (w.at == span.begins) then Err (faults.PageKind (pos 2))
    else (if nat_lt span.ends (page_end page) then Err (faults.Page page.body)
    else (dictionary_values l.kind page file >>= λ ds. Ok (record { at = page_end page; values = w.values; dictionary = Some ds })))

-- a data page of so many values
abbrev pub with_values : Leaf → Span → List ℕ → PageAt → Walk → Result Walk FileFault
with_values l span file page w =
    if nat_lt span.ends (page_end page) then Err (faults.Page page.body)
    else (nulls_checked l page file >>= λ _.
    page_values l.kind l.optional page file w.dictionary >>= λ vs.
    Ok (record { at = page_end page; values = w.values ++ vs; dictionary = w.dictionary }))

-- a data page; the chunk has as many values as the group has rows
unfoldable pub with_data : Leaf → ℕ → Span → List ℕ → PageAt → Walk → Result Walk FileFault
with_data l rows span file page w =
    count_in l.optional page >>= λ count.
    if nat_lt rows (length w.values + count) then Err (faults.Shape l.name) else with_values l span file page w

-- the next page
unfoldable pub with_page : Leaf → ℕ → Span → List ℕ → Walk → Result Walk FileFault
with_page l rows span file w =
    page_head_at file w.at >>= λ page.
    if int_eq page.head.page_type (pos 2) then with_dictionary l span file page w else with_data l rows span file page w

-- The pages of a chunk up to its end. Each takes a byte at least, so there are no more of them than bytes.
unfoldable pub with_pages : Leaf → ℕ → Span → List ℕ → ℕ → Walk → Result Walk FileFault
with_pages l rows span file zero w = Ok w
with_pages l rows span file (suc most) w =
    if nat_lt w.at span.ends then (with_page l rows span file w >>= with_pages l rows span file most) else Ok w

abbrev pub walk_from : ℕ → Walk
walk_from at = record { at = at; values = []; dictionary = None }

abbrev pub finished : Leaf → ℕ → Span → Walk → Result (List Datum) FileFault
finished l rows span w = if not (nat_lt w.at span.ends) && (length w.values == rows) then Ok w.values else Err (faults.Shape l.name)

-- the values of a chunk
unfoldable pub chunk_values : Leaf → ℕ → Span → List ℕ → Result (List Datum) FileFault
chunk_values l rows span file =
    with_pages l rows span file (span.ends - span.begins) (walk_from span.begins) >>= finished l rows span

-- ---- row groups

abbrev pub leaf_values_by : Leaf → ℕ → List ℕ → Option ColumnChunk → Result (List Datum) FileFault
leaf_values_by l rows file None = Err (faults.Shape l.name)
leaf_values_by l rows file (Some c) = span_of l rows (length file) c >>= λ span. chunk_values l rows span file

unfoldable pub leaf_values : Leaf → ℕ → List ColumnChunk → List ℕ → Result (List Datum) FileFault
leaf_values l rows chunks file = leaf_values_by l rows file (find (is_chunk_of l.name) chunks)

-- the values of a column in a group of so many rows, or none where it is null in each
abbrev pub source_values : Source → ℕ → List ColumnChunk → List ℕ → Result (List Datum) FileFault
source_values source.Nulls rows chunks file = Ok []
source_values (source.Lacking name) rows chunks file = if rows == 0 then Ok [] else Err (faults.Shape name)
source_values (source.Leaf l) rows chunks file = leaf_values l rows chunks file

-- the values of each column
abbrev pub columns_values : List Source → ℕ → List ColumnChunk → List ℕ → Result (List (List Datum)) FileFault
columns_values [] rows chunks file = Ok []
columns_values (c ∷ cs) rows chunks file =
    source_values c rows chunks file >>= λ vs. columns_values cs rows chunks file >>= λ vss. Ok (vs ∷ vss)

-- each row with a further value, which is null where there is none
abbrev pub with_column : List (List Datum) → List Datum → List (List Datum)
with_column [] vs = []
with_column (r ∷ rs) vs = (r ++ head_or_null vs ∷ []) ∷ with_column rs (drop 1 vs)

-- each row with the values of further columns
abbrev pub with_columns : List (List Datum) → List (List Datum) → List (List Datum)
with_columns rows [] = rows
with_columns rows (vs ∷ vss) = with_columns (with_column rows vs) vss

-- so many rows: the columns side by side
unfoldable pub side_by_side : ℕ → List (List Datum) → List (List Datum)
side_by_side count columns = with_columns (replicate count []) columns

-- so many rows, a row at a time: the first value of each column, and the rows of what is behind these
abbrev pub row_by_row : ℕ → List (List Datum) → List (List Datum)
row_by_row zero columns = []
row_by_row (suc count) columns = map head_or_null columns ∷ row_by_row count (map (drop 1) columns)

-- how many rows a group has behind so many others, where there are no more than a file may have
abbrev pub rows_of : List ℕ → ℕ → ℤ → Result ℕ FileFault
rows_of name before (pos n) = if nat_lt MAX_FILE_ROWS (before + n) then Err (faults.Shape name) else Ok n
rows_of name before (negsuc n) = Err (faults.Shape name)

-- the rows of a group, behind so many others
unfoldable pub group_rows : List ℕ → List Source → List ℕ → ℕ → RowGroup → Result (List (List Datum)) FileFault
group_rows name sources file before g =
    rows_of name before g.num_rows >>= λ count.
    columns_values sources count g.columns file >>= λ columns.
    Ok (side_by_side count columns)

-- the rows so far, and behind them those of these groups
abbrev pub with_groups : List ℕ → List Source → List ℕ → List (List Datum) → List RowGroup → Result (List (List Datum)) FileFault
with_groups name sources file rows [] = Ok rows
with_groups name sources file rows (g ∷ gs) =
    group_rows name sources file (length rows) g >>= λ more. with_groups name sources file (rows ++ more) gs

-- ---- the whole file

-- the name of the first column, from this place on, that is no partition column
abbrev pub first_name : List ℕ → ℕ → List Column → List ℕ
first_name partition place [] = []
first_name partition place (c ∷ cs) = if is_partition partition place then first_name partition (place + 1) cs else c.name

-- the rows of a file for a table of this schema; partition columns are null in each
unfoldable pub file_rows : TableSchema → List ℕ → Result (List (List Datum)) FileFault
file_rows s file =
    footer_of file >>= λ meta.
    sources_in s meta.schema >>= λ sources.
    with_groups (first_name s.partition 0 s.columns) sources file [] meta.row_groups
