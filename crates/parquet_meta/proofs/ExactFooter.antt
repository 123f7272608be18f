-- The structs of a file's metadata are read exactly as their texts say.
use Rattle.std.proofs.Common.{◌≡◌, ℕ, List, refl, ap, Ok, Option, Some, None}
use Rattle.std.specs.Prelude.{ℤ, pos}
use Rattle.std.specs.Ordering.{int_eq}
use Rattle.thrift_compact.specs.declared.wire.Wire.TheVariants as wires
use Rattle.thrift_compact.specs.Spelled.{SpellsNumber}
use Rattle.thrift_compact.specs.Laws.{Stands}
use Rattle.parquet_meta.specs.declared.meta.FileMeta.{FileMeta}
use Rattle.parquet_meta.specs.declared.meta.SchemaElement.{SchemaElement}
use Rattle.parquet_meta.specs.declared.meta.RowGroup.{RowGroup}
use Rattle.parquet_meta.specs.declared.meta.ColumnChunk.{ColumnChunk}
use Rattle.parquet_meta.specs.declared.meta.ColumnMetaData.{ColumnMetaData}
use Rattle.parquet_meta.specs.declared.known.FileKnown.{FileKnown}
use Rattle.parquet_meta.specs.declared.known.ElementKnown.{ElementKnown}
use Rattle.parquet_meta.specs.declared.known.GroupKnown.{GroupKnown}
use Rattle.parquet_meta.specs.declared.known.ChunkKnown.{ChunkKnown}
use Rattle.parquet_meta.specs.declared.known.ColumnKnown.{ColumnKnown}
use Rattle.parquet_meta.specs.Values.{text_in, list_in, number_of}
use Rattle.parquet_meta.specs.Footer.{no_column, column_number_step, column_step, column_made, column_in, no_chunk, chunk_step, chunk_made, chunk_in, no_group, group_step, group_made, group_in, no_element, element_step, element_made, element_in, no_file, file_step, file_made, file_in}
use Rattle.parquet_meta.specs.Grammar.{SpellsText, SpellsElements, ColumnNumberField, ColumnField, column_known, SpellsColumn, ChunkField, chunk_known, SpellsChunk, GroupField, group_known, SpellsGroup, ElementField, element_known, SpellsElement, FileField, file_known, SpellsFile}
use Rattle.parquet_meta.proofs.Exact.{Finds, Takes, StepFinds, StepTakes, ok_inside, number_finds, number_takes, text_finds, text_takes, list_finds, list_takes, holds_found, holds_taken, unused_found, unused_taken, choose_found, choose_taken, struct_finds_all, struct_takes_all}

-- ---- the metadata of a chunk

pub column_number_finds_step : StepFinds column_number_step ColumnNumberField
column_number_finds_step piece id wire place at known after end within e =
    choose_found (int_eq id (pos 1)) _ _ (Ok (after, end)) _ _ (λ text. Stands piece.bytes at text end)
    (holds_found number_of SpellsNumber number_finds wires.I32 wire piece place at (λ x. record known { physical_type = Some x }) after end within) (
    choose_found (int_eq id (pos 4)) _ _ (Ok (after, end)) _ _ (λ text. Stands piece.bytes at text end)
    (holds_found number_of SpellsNumber number_finds wires.I32 wire piece place at (λ x. record known { codec = Some x }) after end within) (
    choose_found (int_eq id (pos 5)) _ _ (Ok (after, end)) _ _ (λ text. Stands piece.bytes at text end)
    (holds_found number_of SpellsNumber number_finds wires.I64 wire piece place at (λ x. record known { num_values = Some x }) after end within) (
    choose_found (int_eq id (pos 6)) _ _ (Ok (after, end)) _ _ (λ text. Stands piece.bytes at text end)
    (holds_found number_of SpellsNumber number_finds wires.I64 wire piece place at (λ x. record known { total_uncompressed_size = Some x }) after end within) (
    choose_found (int_eq id (pos 7)) _ _ (Ok (after, end)) _ _ (λ text. Stands piece.bytes at text end)
    (holds_found number_of SpellsNumber number_finds wires.I64 wire piece place at (λ x. record known { total_compressed_size = Some x }) after end within) (
    choose_found (int_eq id (pos 9)) _ _ (Ok (after, end)) _ _ (λ text. Stands piece.bytes at text end)
    (holds_found number_of SpellsNumber number_finds wires.I64 wire piece place at (λ x. record known { data_page_offset = Some x }) after end within) (
    choose_found (int_eq id (pos 11)) _ _ (Ok (after, end)) _ _ (λ text. Stands piece.bytes at text end)
    (holds_found number_of SpellsNumber number_finds wires.I64 wire piece place at (λ x. record known { dictionary_page_offset = Some x }) after end within) (
    unused_found wire piece at known after end within))))))) e

pub column_number_takes_step : StepTakes column_number_step ColumnNumberField
column_number_takes_step piece id wire place at known after end text s h =
    choose_taken (int_eq id (pos 1)) _ _ (Ok (after, end)) _ _
    (holds_taken number_of SpellsNumber number_takes wires.I32 wire piece place at (λ x. record known { physical_type = Some x }) after end text s) (
    choose_taken (int_eq id (pos 4)) _ _ (Ok (after, end)) _ _
    (holds_taken number_of SpellsNumber number_takes wires.I32 wire piece place at (λ x. record known { codec = Some x }) after end text s) (
    choose_taken (int_eq id (pos 5)) _ _ (Ok (after, end)) _ _
    (holds_taken number_of SpellsNumber number_takes wires.I64 wire piece place at (λ x. record known { num_values = Some x }) after end text s) (
    choose_taken (int_eq id (pos 6)) _ _ (Ok (after, end)) _ _
    (holds_taken number_of SpellsNumber number_takes wires.I64 wire piece place at (λ x. record known { total_uncompressed_size = Some x }) after end text s) (
    choose_taken (int_eq id (pos 7)) _ _ (Ok (after, end)) _ _
    (holds_taken number_of SpellsNumber number_takes wires.I64 wire piece place at (λ x. record known { total_compressed_size = Some x }) after end text s) (
    choose_taken (int_eq id (pos 9)) _ _ (Ok (after, end)) _ _
    (holds_taken number_of SpellsNumber number_takes wires.I64 wire piece place at (λ x. record known { data_page_offset = Some x }) after end text s) (
    choose_taken (int_eq id (pos 11)) _ _ (Ok (after, end)) _ _
    (holds_taken number_of SpellsNumber number_takes wires.I64 wire piece place at (λ x. record known { dictionary_page_offset = Some x }) after end text s) (
    unused_taken wire piece at known after end text s))))))) h

pub column_finds_step : StepFinds column_step ColumnField
column_finds_step piece id wire place at known after end within e =
    choose_found (int_eq id (pos 2)) _ _ (Ok (after, end)) _ _ (λ text. Stands piece.bytes at text end)
    (holds_found (list_in wires.I32 number_of) (SpellsElements wires.I32 SpellsNumber) (list_finds wires.I32 number_of SpellsNumber number_finds) wires.List wire piece place at (λ x. record known { encodings = Some x }) after end within) (
    choose_found (int_eq id (pos 3)) _ _ (Ok (after, end)) _ _ (λ text. Stands piece.bytes at text end)
    (holds_found (list_in wires.Binary text_in) (SpellsElements wires.Binary SpellsText) (list_finds wires.Binary text_in SpellsText text_finds) wires.List wire piece place at (λ x. record known { path_in_schema = Some x }) after end within) (
    column_number_finds_step piece id wire place at known after end within)) e

pub column_takes_step : StepTakes column_step ColumnField
column_takes_step piece id wire place at known after end text s h =
    choose_taken (int_eq id (pos 2)) _ _ (Ok (after, end)) _ _
    (holds_taken (list_in wires.I32 number_of) (SpellsElements wires.I32 SpellsNumber) (list_takes wires.I32 number_of SpellsNumber number_takes) wires.List wire piece place at (λ x. record known { encodings = Some x }) after end text s) (
    choose_taken (int_eq id (pos 3)) _ _ (Ok (after, end)) _ _
    (holds_taken (list_in wires.Binary text_in) (SpellsElements wires.Binary SpellsText) (list_takes wires.Binary text_in SpellsText text_takes) wires.List wire piece place at (λ x. record known { path_in_schema = Some x }) after end text s) (
    column_number_takes_step piece id wire place at known after end text s)) h

column_fields : (place : ℕ) (physical_type : Option ℤ) (encodings : Option (List ℤ)) (path_in_schema : Option (List (List ℕ))) (codec : Option ℤ) (num_values : Option ℤ) (total_uncompressed_size : Option ℤ) (total_compressed_size : Option ℤ) (data_page_offset : Option ℤ) (dictionary_page_offset : Option ℤ) (value : ColumnMetaData)
    → column_made place (record { physical_type = physical_type; encodings = encodings; path_in_schema = path_in_schema; codec = codec; num_values = num_values; total_uncompressed_size = total_uncompressed_size; total_compressed_size = total_compressed_size; data_page_offset = data_page_offset; dictionary_page_offset = dictionary_page_offset }) ≡ Ok value → (let k : ColumnKnown = record { physical_type = physical_type; encodings = encodings; path_in_schema = path_in_schema; codec = codec; num_values = num_values; total_uncompressed_size = total_uncompressed_size; total_compressed_size = total_compressed_size; data_page_offset = data_page_offset; dictionary_page_offset = dictionary_page_offset } in k) ≡ column_known value
column_fields place None encodings path_in_schema codec num_values total_uncompressed_size total_compressed_size data_page_offset dictionary_page_offset value e = absurd cc
column_fields place (Some physical_type) encodings None codec num_values total_uncompressed_size total_compressed_size data_page_offset dictionary_page_offset value e = absurd cc
column_fields place (Some physical_type) encodings (Some path_in_schema) None num_values total_uncompressed_size total_compressed_size data_page_offset dictionary_page_offset value e = absurd cc
column_fields place (Some physical_type) encodings (Some path_in_schema) (Some codec) None total_uncompressed_size total_compressed_size data_page_offset dictionary_page_offset value e = absurd cc
column_fields place (Some physical_type) encodings (Some path_in_schema) (Some codec) (Some num_values) total_uncompressed_size None data_page_offset dictionary_page_offset value e = absurd cc
column_fields place (Some physical_type) encodings (Some path_in_schema) (Some codec) (Some num_values) total_uncompressed_size (Some total_compressed_size) None dictionary_page_offset value e = absurd cc
column_fields place (Some physical_type) encodings (Some path_in_schema) (Some codec) (Some num_values) total_uncompressed_size (Some total_compressed_size) (Some data_page_offset) dictionary_page_offset value e = ap column_known (ok_inside (record { physical_type = physical_type; encodings = encodings; path_in_schema = path_in_schema; codec = codec; num_values = num_values; total_uncompressed_size = total_uncompressed_size; total_compressed_size = total_compressed_size; data_page_offset = data_page_offset; dictionary_page_offset = dictionary_page_offset }) value e)

column_is : (place : ℕ) (known : ColumnKnown) (value : ColumnMetaData) → column_made place known ≡ Ok value → known ≡ column_known value
column_is place known value e = column_fields place known.physical_type known.encodings known.path_in_schema known.codec known.num_values known.total_uncompressed_size known.total_compressed_size known.data_page_offset known.dictionary_page_offset value e

pub column_finds : Finds column_in SpellsColumn
unfolding column_in
column_finds = struct_finds_all column_step ColumnField no_column column_made column_known column_finds_step column_is

pub column_takes : Takes column_in SpellsColumn
unfolding column_in
column_takes = struct_takes_all column_step ColumnField no_column column_made column_known column_takes_step (λ place value. refl)

-- ---- a chunk

pub chunk_finds_step : StepFinds chunk_step ChunkField
chunk_finds_step piece id wire place at known after end within e =
    choose_found (int_eq id (pos 1)) _ _ (Ok (after, end)) _ _ (λ text. Stands piece.bytes at text end)
    (holds_found text_in SpellsText text_finds wires.Binary wire piece place at (λ x. record known { file_path = Some x }) after end within) (
    choose_found (int_eq id (pos 2)) _ _ (Ok (after, end)) _ _ (λ text. Stands piece.bytes at text end)
    (holds_found number_of SpellsNumber number_finds wires.I64 wire piece place at (λ x. record known { file_offset = Some x }) after end within) (
    choose_found (int_eq id (pos 3)) _ _ (Ok (after, end)) _ _ (λ text. Stands piece.bytes at text end)
    (holds_found column_in SpellsColumn column_finds wires.Struct wire piece place at (λ x. record known { meta_data = Some x }) after end within) (
    unused_found wire piece at known after end within))) e

pub chunk_takes_step : StepTakes chunk_step ChunkField
chunk_takes_step piece id wire place at known after end text s h =
    choose_taken (int_eq id (pos 1)) _ _ (Ok (after, end)) _ _
    (holds_taken text_in SpellsText text_takes wires.Binary wire piece place at (λ x. record known { file_path = Some x }) after end text s) (
    choose_taken (int_eq id (pos 2)) _ _ (Ok (after, end)) _ _
    (holds_taken number_of SpellsNumber number_takes wires.I64 wire piece place at (λ x. record known { file_offset = Some x }) after end text s) (
    choose_taken (int_eq id (pos 3)) _ _ (Ok (after, end)) _ _
    (holds_taken column_in SpellsColumn column_takes wires.Struct wire piece place at (λ x. record known { meta_data = Some x }) after end text s) (
    unused_taken wire piece at known after end text s))) h

chunk_fields : (place : ℕ) (file_path : Option (List ℕ)) (file_offset : Option ℤ) (meta_data : Option ColumnMetaData) (value : ColumnChunk)
    → chunk_made place (record { file_path = file_path; file_offset = file_offset; meta_data = meta_data }) ≡ Ok value → (let k : ChunkKnown = record { file_path = file_path; file_offset = file_offset; meta_data = meta_data } in k) ≡ chunk_known value
chunk_fields place file_path file_offset None value e = absurd cc
chunk_fields place file_path file_offset (Some meta_data) value e = ap chunk_known (ok_inside (record { file_path = file_path; file_offset = file_offset; meta_data = meta_data }) value e)

chunk_is : (place : ℕ) (known : ChunkKnown) (value : ColumnChunk) → chunk_made place known ≡ Ok value → known ≡ chunk_known value
chunk_is place known value e = chunk_fields place known.file_path known.file_offset known.meta_data value e

pub chunk_finds : Finds chunk_in SpellsChunk
unfolding chunk_in
chunk_finds = struct_finds_all chunk_step ChunkField no_chunk chunk_made chunk_known chunk_finds_step chunk_is

pub chunk_takes : Takes chunk_in SpellsChunk
unfolding chunk_in
chunk_takes = struct_takes_all chunk_step ChunkField no_chunk chunk_made chunk_known chunk_takes_step (λ place value. refl)

-- ---- a row group

pub group_finds_step : StepFinds group_step GroupField
group_finds_step piece id wire place at known after end within e =
    choose_found (int_eq id (pos 1)) _ _ (Ok (after, end)) _ _ (λ text. Stands piece.bytes at text end)
    (holds_found (list_in wires.Struct chunk_in) (SpellsElements wires.Struct SpellsChunk) (list_finds wires.Struct chunk_in SpellsChunk chunk_finds) wires.List wire piece place at (λ x. record known { columns = Some x }) after end within) (
    choose_found (int_eq id (pos 2)) _ _ (Ok (after, end)) _ _ (λ text. Stands piece.bytes at text end)
    (holds_found number_of SpellsNumber number_finds wires.I64 wire piece place at (λ x. record known { total_byte_size = Some x }) after end within) (
    choose_found (int_eq id (pos 3)) _ _ (Ok (after, end)) _ _ (λ text. Stands piece.bytes at text end)
    (holds_found number_of SpellsNumber number_finds wires.I64 wire piece place at (λ x. record known { num_rows = Some x }) after end within) (
    unused_found wire piece at known after end within))) e

pub group_takes_step : StepTakes group_step GroupField
group_takes_step piece id wire place at known after end text s h =
    choose_taken (int_eq id (pos 1)) _ _ (Ok (after, end)) _ _
    (holds_taken (list_in wires.Struct chunk_in) (SpellsElements wires.Struct SpellsChunk) (list_takes wires.Struct chunk_in SpellsChunk chunk_takes) wires.List wire piece place at (λ x. record known { columns = Some x }) after end text s) (
    choose_taken (int_eq id (pos 2)) _ _ (Ok (after, end)) _ _
    (holds_taken number_of SpellsNumber number_takes wires.I64 wire piece place at (λ x. record known { total_byte_size = Some x }) after end text s) (
    choose_taken (int_eq id (pos 3)) _ _ (Ok (after, end)) _ _
    (holds_taken number_of SpellsNumber number_takes wires.I64 wire piece place at (λ x. record known { num_rows = Some x }) after end text s) (
    unused_taken wire piece at known after end text s))) h

group_fields : (place : ℕ) (columns : Option (List ColumnChunk)) (total_byte_size : Option ℤ) (num_rows : Option ℤ) (value : RowGroup)
    → group_made place (record { columns = columns; total_byte_size = total_byte_size; num_rows = num_rows }) ≡ Ok value → (let k : GroupKnown = record { columns = columns; total_byte_size = total_byte_size; num_rows = num_rows } in k) ≡ group_known value
group_fields place None total_byte_size num_rows value e = absurd cc
group_fields place (Some columns) total_byte_size None value e = absurd cc
group_fields place (Some columns) total_byte_size (Some num_rows) value e = ap group_known (ok_inside (record { columns = columns; total_byte_size = total_byte_size; num_rows = num_rows }) value e)

group_is : (place : ℕ) (known : GroupKnown) (value : RowGroup) → group_made place known ≡ Ok value → known ≡ group_known value
group_is place known value e = group_fields place known.columns known.total_byte_size known.num_rows value e

pub group_finds : Finds group_in SpellsGroup
unfolding group_in
group_finds = struct_finds_all group_step GroupField no_group group_made group_known group_finds_step group_is

pub group_takes : Takes group_in SpellsGroup
unfolding group_in
group_takes = struct_takes_all group_step GroupField no_group group_made group_known group_takes_step (λ place value. refl)

-- ---- an element of the schema

pub element_finds_step : StepFinds element_step ElementField
element_finds_step piece id wire place at known after end within e =
    choose_found (int_eq id (pos 1)) _ _ (Ok (after, end)) _ _ (λ text. Stands piece.bytes at text end)
    (holds_found number_of SpellsNumber number_finds wires.I32 wire piece place at (λ x. record known { physical_type = Some x }) after end within) (
    choose_found (int_eq id (pos 3)) _ _ (Ok (after, end)) _ _ (λ text. Stands piece.bytes at text end)
    (holds_found number_of SpellsNumber number_finds wires.I32 wire piece place at (λ x. record known { repetition_type = Some x }) after end within) (
    choose_found (int_eq id (pos 4)) _ _ (Ok (after, end)) _ _ (λ text. Stands piece.bytes at text end)
    (holds_found text_in SpellsText text_finds wires.Binary wire piece place at (λ x. record known { name = Some x }) after end within) (
    choose_found (int_eq id (pos 5)) _ _ (Ok (after, end)) _ _ (λ text. Stands piece.bytes at text end)
    (holds_found number_of SpellsNumber number_finds wires.I32 wire piece place at (λ x. record known { num_children = Some x }) after end within) (
    choose_found (int_eq id (pos 6)) _ _ (Ok (after, end)) _ _ (λ text. Stands piece.bytes at text end)
    (holds_found number_of SpellsNumber number_finds wires.I32 wire piece place at (λ x. record known { converted_type = Some x }) after end within) (
    unused_found wire piece at known after end within))))) e

pub element_takes_step : StepTakes element_step ElementField
element_takes_step piece id wire place at known after end text s h =
    choose_taken (int_eq id (pos 1)) _ _ (Ok (after, end)) _ _
    (holds_taken number_of SpellsNumber number_takes wires.I32 wire piece place at (λ x. record known { physical_type = Some x }) after end text s) (
    choose_taken (int_eq id (pos 3)) _ _ (Ok (after, end)) _ _
    (holds_taken number_of SpellsNumber number_takes wires.I32 wire piece place at (λ x. record known { repetition_type = Some x }) after end text s) (
    choose_taken (int_eq id (pos 4)) _ _ (Ok (after, end)) _ _
    (holds_taken text_in SpellsText text_takes wires.Binary wire piece place at (λ x. record known { name = Some x }) after end text s) (
    choose_taken (int_eq id (pos 5)) _ _ (Ok (after, end)) _ _
    (holds_taken number_of SpellsNumber number_takes wires.I32 wire piece place at (λ x. record known { num_children = Some x }) after end text s) (
    choose_taken (int_eq id (pos 6)) _ _ (Ok (after, end)) _ _
    (holds_taken number_of SpellsNumber number_takes wires.I32 wire piece place at (λ x. record known { converted_type = Some x }) after end text s) (
    unused_taken wire piece at known after end text s))))) h

element_fields : (place : ℕ) (physical_type : Option ℤ) (repetition_type : Option ℤ) (name : Option (List ℕ)) (num_children : Option ℤ) (converted_type : Option ℤ) (value : SchemaElement)
    → element_made place (record { physical_type = physical_type; repetition_type = repetition_type; name = name; num_children = num_children; converted_type = converted_type }) ≡ Ok value → (let k : ElementKnown = record { physical_type = physical_type; repetition_type = repetition_type; name = name; num_children = num_children; converted_type = converted_type } in k) ≡ element_known value
element_fields place physical_type repetition_type None num_children converted_type value e = absurd cc
element_fields place physical_type repetition_type (Some name) num_children converted_type value e = ap element_known (ok_inside (record { physical_type = physical_type; repetition_type = repetition_type; name = name; num_children = num_children; converted_type = converted_type }) value e)

element_is : (place : ℕ) (known : ElementKnown) (value : SchemaElement) → element_made place known ≡ Ok value → known ≡ element_known value
element_is place known value e = element_fields place known.physical_type known.repetition_type known.name known.num_children known.converted_type value e

pub element_finds : Finds element_in SpellsElement
unfolding element_in
element_finds = struct_finds_all element_step ElementField no_element element_made element_known element_finds_step element_is

pub element_takes : Takes element_in SpellsElement
unfolding element_in
element_takes = struct_takes_all element_step ElementField no_element element_made element_known element_takes_step (λ place value. refl)

-- ---- the metadata of a file

pub file_finds_step : StepFinds file_step FileField
file_finds_step piece id wire place at known after end within e =
    choose_found (int_eq id (pos 1)) _ _ (Ok (after, end)) _ _ (λ text. Stands piece.bytes at text end)
    (holds_found number_of SpellsNumber number_finds wires.I32 wire piece place at (λ x. record known { version = Some x }) after end within) (
    choose_found (int_eq id (pos 2)) _ _ (Ok (after, end)) _ _ (λ text. Stands piece.bytes at text end)
    (holds_found (list_in wires.Struct element_in) (SpellsElements wires.Struct SpellsElement) (list_finds wires.Struct element_in SpellsElement element_finds) wires.List wire piece place at (λ x. record known { schema = Some x }) after end within) (
    choose_found (int_eq id (pos 3)) _ _ (Ok (after, end)) _ _ (λ text. Stands piece.bytes at text end)
    (holds_found number_of SpellsNumber number_finds wires.I64 wire piece place at (λ x. record known { num_rows = Some x }) after end within) (
    choose_found (int_eq id (pos 4)) _ _ (Ok (after, end)) _ _ (λ text. Stands piece.bytes at text end)
    (holds_found (list_in wires.Struct group_in) (SpellsElements wires.Struct SpellsGroup) (list_finds wires.Struct group_in SpellsGroup group_finds) wires.List wire piece place at (λ x. record known { row_groups = Some x }) after end within) (
    unused_found wire piece at known after end within)))) e

pub file_takes_step : StepTakes file_step FileField
file_takes_step piece id wire place at known after end text s h =
    choose_taken (int_eq id (pos 1)) _ _ (Ok (after, end)) _ _
    (holds_taken number_of SpellsNumber number_takes wires.I32 wire piece place at (λ x. record known { version = Some x }) after end text s) (
    choose_taken (int_eq id (pos 2)) _ _ (Ok (after, end)) _ _
    (holds_taken (list_in wires.Struct element_in) (SpellsElements wires.Struct SpellsElement) (list_takes wires.Struct element_in SpellsElement element_takes) wires.List wire piece place at (λ x. record known { schema = Some x }) after end text s) (
    choose_taken (int_eq id (pos 3)) _ _ (Ok (after, end)) _ _
    (holds_taken number_of SpellsNumber number_takes wires.I64 wire piece place at (λ x. record known { num_rows = Some x }) after end text s) (
    choose_taken (int_eq id (pos 4)) _ _ (Ok (after, end)) _ _
    (holds_taken (list_in wires.Struct group_in) (SpellsElements wires.Struct SpellsGroup) (list_takes wires.Struct group_in SpellsGroup group_takes) wires.List wire piece place at (λ x. record known { row_groups = Some x }) after end text s) (
    unused_taken wire piece at known after end text s)))) h

file_fields : (place : ℕ) (version : Option ℤ) (schema : Option (List SchemaElement)) (num_rows : Option ℤ) (row_groups : Option (List RowGroup)) (value : FileMeta)
    → file_made place (record { version = version; schema = schema; num_rows = num_rows; row_groups = row_groups }) ≡ Ok value → (let k : FileKnown = record { version = version; schema = schema; num_rows = num_rows; row_groups = row_groups } in k) ≡ file_known value
file_fields place version None num_rows row_groups value e = absurd cc
file_fields place version (Some schema) None row_groups value e = absurd cc
file_fields place version (Some schema) (Some num_rows) None value e = absurd cc
file_fields place version (Some schema) (Some num_rows) (Some row_groups) value e = ap file_known (ok_inside (record { version = version; schema = schema; num_rows = num_rows; row_groups = row_groups }) value e)

file_is : (place : ℕ) (known : FileKnown) (value : FileMeta) → file_made place known ≡ Ok value → known ≡ file_known value
file_is place known value e = file_fields place known.version known.schema known.num_rows known.row_groups value e

pub file_finds : Finds file_in SpellsFile
unfolding file_in
file_finds = struct_finds_all file_step FileField no_file file_made file_known file_finds_step file_is

pub file_takes : Takes file_in SpellsFile
unfolding file_in
file_takes = struct_takes_all file_step FileField no_file file_made file_known file_takes_step (λ place value. refl)
