-- What the footer of a file reads as (Parquet format, "File format" and parquet.thrift: FileMetaData, SchemaElement,
-- RowGroup, ColumnChunk, ColumnMetaData).
use Rattle.std.specs.Prelude.{if◌then◌else◌, ℕ, ◌+◌, ◌-◌, nat_lt, ◌&&◌, not, Bool, List, length, take, drop, codes, ℤ, pos, Some, None, Result, Ok, Err}
use Rattle.std.specs.Ordering.{int_eq}
use Rattle.std.specs.Str.{bytes_eq}
use Rattle.std.specs.Int.{w32, from_le_bytes}
use Rattle.thrift_compact.specs.declared.wire.Wire.{Wire}
use Rattle.thrift_compact.specs.declared.wire.Wire.TheVariants as wires
use Rattle.parquet_meta.specs.declared.fault.FileFault.{FileFault}
use Rattle.parquet_meta.specs.declared.fault.FileFault.TheVariants as faults
use Rattle.parquet_meta.specs.declared.meta.FileMeta.{FileMeta}
use Rattle.parquet_meta.specs.declared.meta.SchemaElement.{SchemaElement}
use Rattle.parquet_meta.specs.declared.meta.RowGroup.{RowGroup}
use Rattle.parquet_meta.specs.declared.meta.ColumnChunk.{ColumnChunk}
use Rattle.parquet_meta.specs.declared.meta.ColumnMetaData.{ColumnMetaData}
use Rattle.parquet_meta.specs.declared.known.FileKnown.{FileKnown}
use Rattle.parquet_meta.specs.declared.known.ElementKnown.{ElementKnown}
use Rattle.parquet_meta.specs.declared.known.GroupKnown.{GroupKnown}
use Rattle.parquet_meta.specs.declared.known.ChunkKnown.{ChunkKnown}
use Rattle.parquet_meta.specs.declared.known.ColumnKnown.{ColumnKnown}
use Rattle.row_base.specs.declared.limits.TheConstants.{MAX_OBJECT_BYTES}
use Rattle.row_base.specs.Faults.{◌>>=◌}
use Rattle.parquet_meta.specs.Pieces.{Piece}
use Rattle.parquet_meta.specs.Values.{typed, text_in, list_in, number_in, number_of, put, passed}
use Rattle.parquet_meta.specs.Structs.{struct_of, needed}

-- ---- the metadata of a chunk

-- nothing is known of the metadata of a chunk yet
abbrev pub no_column : ColumnKnown
no_column = record {
  physical_type = None;
  encodings = None;
  path_in_schema = None;
  codec = None;
  num_values = None;
  total_uncompressed_size = None;
  total_compressed_size = None;
  data_page_offset = None;
  dictionary_page_offset = None;
}

-- what a field of the metadata of a chunk makes of what is known of it, where it is not a list
abbrev pub column_number_step : Piece → ℤ → Wire → ℕ → ℕ → ColumnKnown → Result (ColumnKnown × ℕ) FileFault
column_number_step piece id found place at known =
    if int_eq id (pos 1) then put (λ n. record known { physical_type = Some n }) (typed wires.I32 found place (number_in piece at))
    else if int_eq id (pos 4) then put (λ n. record known { codec = Some n }) (typed wires.I32 found place (number_in piece at))
    else if int_eq id (pos 5) then put (λ n. record known { num_values = Some n }) (typed wires.I64 found place (number_in piece at))
    else if int_eq id (pos 6) then put (λ n. record known { total_uncompressed_size = Some n }) (typed wires.I64 found place (number_in piece at))
    else if int_eq id (pos 7) then put (λ n. record known { total_compressed_size = Some n }) (typed wires.I64 found place (number_in piece at))
    else if int_eq id (pos 9) then put (λ n. record known { data_page_offset = Some n }) (typed wires.I64 found place (number_in piece at))
    else if int_eq id (pos 11) then put (λ n. record known { dictionary_page_offset = Some n }) (typed wires.I64 found place (number_in piece at))
    else passed piece found at known

-- what any field of the metadata of a chunk makes of what is known of it
abbrev pub column_step : Piece → ℤ → Wire → ℕ → ℕ → ColumnKnown → Result (ColumnKnown × ℕ) FileFault
column_step piece id found place at known =
    if int_eq id (pos 2) then put (λ ns. record known { encodings = Some ns }) (typed wires.List found place (list_in wires.I32 number_of piece place at))
    else if int_eq id (pos 3) then put (λ ts. record known { path_in_schema = Some ts }) (typed wires.List found place (list_in wires.Binary text_in piece place at))
    else column_number_step piece id found place at known

-- the metadata of a chunk from what is known of it at its stop
abbrev pub column_made : ℕ → ColumnKnown → Result ColumnMetaData FileFault
column_made stop known =
    needed stop known.physical_type >>= λ physical_type.
    needed stop known.path_in_schema >>= λ path_in_schema.
    needed stop known.codec >>= λ codec.
    needed stop known.num_values >>= λ num_values.
    needed stop known.total_compressed_size >>= λ total_compressed_size.
    needed stop known.data_page_offset >>= λ data_page_offset.
    Ok (record {
      physical_type = physical_type;
      encodings = known.encodings;
      path_in_schema = path_in_schema;
      codec = codec;
      num_values = num_values;
      total_uncompressed_size = known.total_uncompressed_size;
      total_compressed_size = total_compressed_size;
      data_page_offset = data_page_offset;
      dictionary_page_offset = known.dictionary_page_offset;
    })

-- ColumnMetaData
unfoldable pub column_in : Piece → ℕ → ℕ → Result (ColumnMetaData × ℕ) FileFault
column_in = struct_of column_step no_column column_made

-- ---- a chunk

-- nothing is known of a chunk yet
abbrev pub no_chunk : ChunkKnown
no_chunk = record { file_path = None; file_offset = None; meta_data = None }

-- what a field of a chunk makes of what is known of it
abbrev pub chunk_step : Piece → ℤ → Wire → ℕ → ℕ → ChunkKnown → Result (ChunkKnown × ℕ) FileFault
chunk_step piece id found place at known =
    if int_eq id (pos 1) then put (λ t. record known { file_path = Some t }) (typed wires.Binary found place (text_in piece place at))
    else if int_eq id (pos 2) then put (λ n. record known { file_offset = Some n }) (typed wires.I64 found place (number_in piece at))
    else if int_eq id (pos 3) then put (λ m. record known { meta_data = Some m }) (typed wires.Struct found place (column_in piece place at))
    else passed piece found at known

-- a chunk from what is known of it at its stop
abbrev pub chunk_made : ℕ → ChunkKnown → Result ColumnChunk FileFault
chunk_made stop known =
    needed stop known.meta_data >>= λ meta_data.
    Ok (record { file_path = known.file_path; file_offset = known.file_offset; meta_data = meta_data })

-- ColumnChunk
unfoldable pub chunk_in : Piece → ℕ → ℕ → Result (ColumnChunk × ℕ) FileFault
chunk_in = struct_of chunk_step no_chunk chunk_made

-- ---- a row group

-- nothing is known of a row group yet
abbrev pub no_group : GroupKnown
no_group = record { columns = None; total_byte_size = None; num_rows = None }

-- what a field of a row group makes of what is known of it
abbrev pub group_step : Piece → ℤ → Wire → ℕ → ℕ → GroupKnown → Result (GroupKnown × ℕ) FileFault
group_step piece id found place at known =
    if int_eq id (pos 1) then put (λ cs. record known { columns = Some cs }) (typed wires.List found place (list_in wires.Struct chunk_in piece place at))
    else if int_eq id (pos 2) then put (λ n. record known { total_byte_size = Some n }) (typed wires.I64 found place (number_in piece at))
    else if int_eq id (pos 3) then put (λ n. record known { num_rows = Some n }) (typed wires.I64 found place (number_in piece at))
    else passed piece found at known

-- a row group from what is known of it at its stop
abbrev pub group_made : ℕ → GroupKnown → Result RowGroup FileFault
group_made stop known =
    needed stop known.columns >>= λ columns.
    needed stop known.num_rows >>= λ num_rows.
    Ok (record { columns = columns; total_byte_size = known.total_byte_size; num_rows = num_rows })

-- RowGroup
unfoldable pub group_in : Piece → ℕ → ℕ → Result (RowGroup × ℕ) FileFault
group_in = struct_of group_step no_group group_made

-- ---- an element of the schema

-- nothing is known of an element of the schema yet
abbrev pub no_element : ElementKnown
no_element = record { physical_type = None; repetition_type = None; name = None; num_children = None; converted_type = None }

-- what a field of an element of the schema makes of what is known of it
abbrev pub element_step : Piece → ℤ → Wire → ℕ → ℕ → ElementKnown → Result (ElementKnown × ℕ) FileFault
element_step piece id found place at known =
    if int_eq id (pos 1) then put (λ n. record known { physical_type = Some n }) (typed wires.I32 found place (number_in piece at))
    else if int_eq id (pos 3) then put (λ n. record known { repetition_type = Some n }) (typed wires.I32 found place (number_in piece at))
    else if int_eq id (pos 4) then put (λ t. record known { name = Some t }) (typed wires.Binary found place (text_in piece place at))
    else if int_eq id (pos 5) then put (λ n. record known { num_children = Some n }) (typed wires.I32 found place (number_in piece at))
    else if int_eq id (pos 6) then put (λ n. record known { converted_type = Some n }) (typed wires.I32 found place (number_in piece at))
    else passed piece found at known

-- an element of the schema from what is known of it at its stop
abbrev pub element_made : ℕ → ElementKnown → Result SchemaElement FileFault
element_made stop known =
    needed stop known.name >>= λ name.
    Ok (record {
      physical_type = known.physical_type;
      repetition_type = known.repetition_type;
      name = name;
      num_children = known.num_children;
      converted_type = known.converted_type;
    })

-- SchemaElement
unfoldable pub element_in : Piece → ℕ → ℕ → Result (SchemaElement × ℕ) FileFault
element_in = struct_of element_step no_element element_made

-- ---- the metadata of a file

-- nothing is known of the metadata of a file yet
abbrev pub no_file : FileKnown
no_file = record { version = None; schema = None; num_rows = None; row_groups = None }

-- what a field of the metadata of a file makes of what is known of it
abbrev pub file_step : Piece → ℤ → Wire → ℕ → ℕ → FileKnown → Result (FileKnown × ℕ) FileFault
file_step piece id found place at known =
    if int_eq id (pos 1) then put (λ n. record known { version = Some n }) (typed wires.I32 found place (number_in piece at))
    else if int_eq id (pos 2) then put (λ es. record known { schema = Some es }) (typed wires.List found place (list_in wires.Struct element_in piece place at))
    else if int_eq id (pos 3) then put (λ n. record known { num_rows = Some n }) (typed wires.I64 found place (number_in piece at))
    else if int_eq id (pos 4) then put (λ gs. record known { row_groups = Some gs }) (typed wires.List found place (list_in wires.Struct group_in piece place at))
    else passed piece found at known

-- the metadata of a file from what is known of it at its stop
abbrev pub file_made : ℕ → FileKnown → Result FileMeta FileFault
file_made stop known =
    needed stop known.schema >>= λ schema.
    needed stop known.num_rows >>= λ num_rows.
    needed stop known.row_groups >>= λ row_groups.
    Ok (record { version = known.version; schema = schema; num_rows = num_rows; row_groups = row_groups })

-- FileMetaData
unfoldable pub file_in : Piece → ℕ → ℕ → Result (FileMeta × ℕ) FileFault
file_in = struct_of file_step no_file file_made

-- ---- the footer

-- the most bytes that a file has
abbrev pub is_size : ℕ → Bool
is_size len = not (nat_lt len 12) && not (nat_lt MAX_OBJECT_BYTES len)

-- the first four bytes and the last four are the magic
abbrev pub has_magic : List ℕ → Bool
has_magic file = bytes_eq (take 4 file) (codes "PAR1") && bytes_eq (drop (length file - 4) file) (codes "PAR1")

-- the footer's length, which stands before the last magic
abbrev pub footer_len : List ℕ → ℕ
footer_len file = from_le_bytes w32 (take 4 (drop (length file - 8) file))

-- the footer of a length, which stands before its length
abbrev pub footer_piece : List ℕ → ℕ → Piece
footer_piece file len = record { bytes = take len (drop (length file - 8 - len) file); start = length file - 8 - len }

-- where the footer of a file is
unfoldable pub footer_found : List ℕ → Result Piece FileFault
footer_found file =
    if not (is_size (length file)) then Err faults.Short
    else if not (has_magic file) then Err faults.Magic
    else if nat_lt (length file) (footer_len file + 12) then Err faults.Footer
    else Ok (footer_piece file (footer_len file))

-- what a file's footer reads as
unfoldable pub footer_of : List ℕ → Result FileMeta FileFault
footer_of file = footer_found file >>= λ piece. file_in piece 0 0 >>= λ meta. Ok meta.0
