-- What is written spells the metadata or the head, and so reads back.
use Rattle.std.proofs.Common.{◌≡◌, ℕ, ◌+◌, ◌<◌, ◌^◌, Bool, true, false, List, [], ◌∷◌, ◌++◌, length, take, refl, sym, ap, ◌∙◌, subst, arith, inr, Option, Some, None}
use Rattle.std.specs.Prelude.{ℤ, pos, negsuc, codes}
use Rattle.std.specs.Int.{w32, to_le_bytes}
use Rattle.std.proofs.lemmas.Bool.{ltb-true}
use Rattle.std.proofs.lemmas.List.{length-append, take_at}
use Rattle.std.proofs.lemmas.Nat.{from_le_bytes-to_le_bytes_4}
use Rattle.thrift_compact.specs.declared.wire.Wire.{Wire}
use Rattle.thrift_compact.specs.declared.wire.Wire.TheVariants as wires
use Rattle.thrift_compact.specs.declared.wire.Field.TheVariants as fields
use Rattle.thrift_compact.specs.declared.wire.ListHead.{ListHead}
use Rattle.thrift_compact.specs.Varints.{zigzag}
use Rattle.thrift_compact.specs.Values.{fits_16}
use Rattle.thrift_compact.specs.Writing.{number_bytes, binary_bytes, list_bytes, field_bytes}
use Rattle.thrift_compact.specs.Spelled.{SpellsNumber, SpellsBinary, SpellsList, SpellsField, SpellsValue, stop as no_fields}
use Rattle.thrift_compact.specs.Laws.{Stands}
use Rattle.thrift_compact.proofs.ReadingLaws.{binary_found}
use Rattle.thrift_compact.proofs.HeaderLaws.{list_found, field_found}
use Rattle.thrift_compact.proofs.WritingLaws.{varint_spelled, binaries_read_back, lists_read_back, fields_read_back}
use Rattle.parquet_meta.specs.declared.meta.FileMeta.{FileMeta}
use Rattle.parquet_meta.specs.declared.meta.SchemaElement.{SchemaElement}
use Rattle.parquet_meta.specs.declared.meta.RowGroup.{RowGroup}
use Rattle.parquet_meta.specs.declared.meta.ColumnChunk.{ColumnChunk}
use Rattle.parquet_meta.specs.declared.meta.ColumnMetaData.{ColumnMetaData}
use Rattle.parquet_meta.specs.declared.head.PageHead.{PageHead}
use Rattle.parquet_meta.specs.declared.head.DataPageHead.{DataPageHead}
use Rattle.parquet_meta.specs.declared.head.DictionaryPageHead.{DictionaryPageHead}
use Rattle.parquet_meta.specs.declared.known.FileKnown.{FileKnown}
use Rattle.parquet_meta.specs.declared.known.ElementKnown.{ElementKnown}
use Rattle.parquet_meta.specs.declared.known.GroupKnown.{GroupKnown}
use Rattle.parquet_meta.specs.declared.known.ChunkKnown.{ChunkKnown}
use Rattle.parquet_meta.specs.declared.known.ColumnKnown.{ColumnKnown}
use Rattle.parquet_meta.specs.declared.known.HeadKnown.{HeadKnown}
use Rattle.parquet_meta.specs.declared.known.DataKnown.{DataKnown}
use Rattle.parquet_meta.specs.declared.known.DictionaryKnown.{DictionaryKnown}
use Rattle.parquet_meta.specs.Footer.{no_file, no_element, no_group, no_chunk, no_column}
use Rattle.parquet_meta.specs.Heads.{no_head, no_data, no_dictionary, is_in_range}
use Rattle.parquet_meta.specs.Written.{Written, fields_text, always, if_some, texts_of, list_text, column_text, chunk_text, group_text, element_text, footer_text, data_text, dictionary_text, v2_text, head_text}
use Rattle.parquet_meta.specs.Grammar.{SpellsText, SpellsAll, SpellsElements, SpellsStruct, stop, next, ColumnField, column_known, SpellsColumn, ChunkField, chunk_known, SpellsChunk, GroupField, group_known, SpellsGroup, ElementField, element_known, SpellsElement, FileField, file_known, SpellsFile, DataField, data_known, SpellsData, DictionaryField, dictionary_known, SpellsDictionary, SpellsV2, HeadField, head_known, data_numbers, dictionary_numbers, optional_data, optional_dictionary, head_numbers, SizeInRange, DataInRange, DictionaryInRange, IsInRange}
use Rattle.parquet_meta.specs.Laws.{IsNarrow, IfThere, AllFit, IsShort, IsText, FitsColumn, FitsChunk, FitsGroup, FitsElement, FitsFile, FootersReadBack, HeadsReadBack}
use Rattle.parquet_meta.proofs.ExactHeads.{heads_taken}
use Rattle.parquet_meta.proofs.ExactFile.{joined_taken}

-- ---- single values

-- a text that stands in bytes from their first to their last is all of them
whole_text : (text found : List ℕ) → Stands ([] ++ (text ++ [])) 0 found (0 + length text) → found ≡ text
whole_text text found s =
    let same : text ++ [] ≡ s.front ++ (found ++ s.rest) = s.whole in
    let none : s.front ≡ [] = empty s.front s.begins in
    let all : text ++ [] ≡ found ++ s.rest = same ∙ ap (λ (bs : List ℕ). bs ++ (found ++ s.rest)) none in
    let long : length found ≡ length text = omega (arith, s.ends) in
    sym (take_at found s.rest (length text) long) ∙ ap (λ (bs : List ℕ). take (length text) bs) (sym all) ∙ take_at text [] (length text) refl
  where
    empty : (bytes : List ℕ) → length bytes ≡ 0 → bytes ≡ []
    empty [] e = refl
    empty (byte ∷ bytes) e = absurd (omega (arith, e))

number_spelled : (n : ℤ) → IsNarrow n → SpellsNumber (number_bytes n) n
number_spelled n narrow = varint_spelled (zigzag n) narrow

binary_spelled : (content : List ℕ) → length content < 2 ^ 32 → SpellsBinary (binary_bytes content) content
binary_spelled content narrow =
    let text = binary_bytes content in
    let found = binary_found ([] ++ (text ++ [])) 0 content (0 + length text) (omega arith) (binaries_read_back content narrow [] []) in
    subst (λ (bs : List ℕ). SpellsBinary bs content) (whole_text text found.0 found.2) found.1

list_spelled : (wire : Wire) (count : ℕ) → count < 2 ^ 32 → SpellsList (record { wire = wire; count = count }) (list_bytes wire count)
list_spelled wire count narrow =
    let text = list_bytes wire count in
    let list : ListHead = record { wire = wire; count = count } in
    let found = list_found ([] ++ (text ++ [])) 0 list (0 + length text) (lists_read_back wire count narrow [] []) in
    subst (λ (bs : List ℕ). SpellsList list bs) (whole_text text found.0 found.2) found.1

field_spelled : (last id : ℤ) (wire : Wire) → fits_16 id ≡ true → SpellsField last (field_bytes last id wire) (fields.Next id wire)
field_spelled last id wire fits =
    let text = field_bytes last id wire in
    let found = field_found ([] ++ (text ++ [])) last 0 (fields.Next id wire) (0 + length text) (fields_read_back last id wire fits [] []) in
    subst (λ (bs : List ℕ). SpellsField last bs (fields.Next id wire)) (whole_text text found.0 found.2) found.1

text_spelled : (content : List ℕ) → IsText content → SpellsText (binary_bytes content) content
text_spelled content h = record { binary = binary_spelled content h.short; utf8 = h.utf8 }

-- ---- lists

all_spelled : {A : Type 0} (spells : List ℕ → A → Type 0) (text : A → List ℕ) (fits : A → Type 0) → ((x : A) → fits x → spells (text x) x) → (values : List A) → AllFit fits values → SpellsAll spells values (texts_of text values)
unfolding SpellsAll texts_of AllFit
all_spelled spells text fits spelled [] h = refl
all_spelled spells text fits spelled (value ∷ values) h = (text value, texts_of text values, spelled value h.0, all_spelled spells text fits spelled values h.1, refl)

elements_spelled : {A : Type 0} (wire : Wire) (spells : List ℕ → A → Type 0) (text : A → List ℕ) (fits : A → Type 0) → ((x : A) → fits x → spells (text x) x) → (values : List A) → IsShort fits values
    → SpellsElements wire spells (list_text wire text values) values
elements_spelled wire spells text fits spelled values h = record {
  front = list_bytes wire (length values);
  rest = texts_of text values;
  headed = list_spelled wire (length values) h.few;
  each = all_spelled spells text fits spelled values h.each;
  all = refl;
}

-- ---- structs

-- the fields make of what is known what is known in the end
Fills : {D : Type 0} → (ℤ → Wire → List ℕ → D → D → Type 0) → D → List (Option Written) → D → Type 0
Fills field known [] whole = known ≡ whole
Fills field known (None ∷ others) whole = Fills field known others whole
Fills {D} field known (Some written ∷ others) whole = (after : D) × (fits_16 written.id ≡ true) × field written.id written.wire written.text known after × Fills field after others whole

fields_spelled : {D : Type 0} (field : ℤ → Wire → List ℕ → D → D → Type 0) (last : ℤ) (known : D) (all : List (Option Written)) (whole : D) → Fills field known all whole → SpellsStruct field last known (fields_text last all) whole
unfolding Fills fields_text
fields_spelled {D} field last known [] whole h = subst (λ (k : D). SpellsStruct field last known (0 ∷ []) k) h (stop refl)
fields_spelled field last known (None ∷ others) whole h = fields_spelled field last known others whole h
fields_spelled field last known (Some written ∷ others) whole h =
    next written.id written.wire h.0 (field_bytes last written.id written.wire) written.text (fields_text written.id others)
    (field_spelled last written.id written.wire h.1) h.2 (fields_spelled field written.id h.0 others whole h.3) refl

fill_end : {D : Type 0} (field : ℤ → Wire → List ℕ → D → D → Type 0) (known : D) → Fills field known [] known
unfolding Fills
fill_end field known = refl

fill_always : {D : Type 0} (field : ℤ → Wire → List ℕ → D → D → Type 0) (known after whole : D) (id : ℤ) (wire : Wire) (text : List ℕ) (others : List (Option Written)) → fits_16 id ≡ true
    → field id wire text known after → Fills field after others whole → Fills field known (always id wire text ∷ others) whole
unfolding Fills
fill_always field known after whole id wire text others fits here rest = (after, fits, here, rest)

fill_some : {A D : Type 0} (field : ℤ → Wire → List ℕ → D → D → Type 0) (into : Option A → D) (whole : D) (id : ℤ) (wire : Wire) (text : A → List ℕ) (value : Option A) (fits : A → Type 0) (others : List (Option Written))
    → fits_16 id ≡ true → ((x : A) → fits x → field id wire (text x) (into None) (into (Some x))) → IfThere fits value → Fills field (into value) others whole → Fills field (into None) (if_some id wire text value ∷ others) whole
unfolding Fills
fill_some field into whole id wire text None fits others small here h rest = rest
fill_some field into whole id wire text (Some x) fits others small here h rest = (into (Some x), small, here x h, rest)

-- ---- the metadata of a file

column_spelled : (column : ColumnMetaData) → FitsColumn column → SpellsColumn (column_text column) column
unfolding column_text
column_spelled column h =
    let k1 : ColumnKnown = record no_column { physical_type = Some column.physical_type } in
    let k2 : ColumnKnown = record k1 { encodings = column.encodings } in
    let k3 : ColumnKnown = record k2 { path_in_schema = Some column.path_in_schema } in
    let k4 : ColumnKnown = record k3 { codec = Some column.codec } in
    let k5 : ColumnKnown = record k4 { num_values = Some column.num_values } in
    let k6 : ColumnKnown = record k5 { total_uncompressed_size = column.total_uncompressed_size } in
    let k7 : ColumnKnown = record k6 { total_compressed_size = Some column.total_compressed_size } in
    let k8 : ColumnKnown = record k7 { data_page_offset = Some column.data_page_offset } in
    let k9 : ColumnKnown = record k8 { dictionary_page_offset = column.dictionary_page_offset } in
    fields_spelled ColumnField (pos 0) no_column _ (column_known column)
    (fill_always ColumnField no_column k1 (column_known column) _ _ _ _ refl (record { typed = refl; value = column.physical_type; spelled = number_spelled column.physical_type h.physical_type; known = refl })
    (fill_some ColumnField (λ o. record k1 { encodings = o }) (column_known column) _ _ (list_text wires.I32 number_bytes) column.encodings (IsShort IsNarrow) _ refl (λ x f. record { typed = refl; value = x; spelled = elements_spelled wires.I32 SpellsNumber number_bytes IsNarrow number_spelled x f; known = refl }) h.encodings
    (fill_always ColumnField k2 k3 (column_known column) _ _ _ _ refl (record { typed = refl; value = column.path_in_schema; spelled = elements_spelled wires.Binary SpellsText binary_bytes IsText text_spelled column.path_in_schema h.path_in_schema; known = refl })
    (fill_always ColumnField k3 k4 (column_known column) _ _ _ _ refl (record { typed = refl; value = column.codec; spelled = number_spelled column.codec h.codec; known = refl })
    (fill_always ColumnField k4 k5 (column_known column) _ _ _ _ refl (record { typed = refl; value = column.num_values; spelled = number_spelled column.num_values h.num_values; known = refl })
    (fill_some ColumnField (λ o. record k5 { total_uncompressed_size = o }) (column_known column) _ _ number_bytes column.total_uncompressed_size IsNarrow _ refl (λ x f. record { typed = refl; value = x; spelled = number_spelled x f; known = refl }) h.total_uncompressed_size
    (fill_always ColumnField k6 k7 (column_known column) _ _ _ _ refl (record { typed = refl; value = column.total_compressed_size; spelled = number_spelled column.total_compressed_size h.total_compressed_size; known = refl })
    (fill_always ColumnField k7 k8 (column_known column) _ _ _ _ refl (record { typed = refl; value = column.data_page_offset; spelled = number_spelled column.data_page_offset h.data_page_offset; known = refl })
    (fill_some ColumnField (λ o. record k8 { dictionary_page_offset = o }) (column_known column) _ _ number_bytes column.dictionary_page_offset IsNarrow _ refl (λ x f. record { typed = refl; value = x; spelled = number_spelled x f; known = refl }) h.dictionary_page_offset
    (fill_end ColumnField k9))))))))))

chunk_spelled : (chunk : ColumnChunk) → FitsChunk chunk → SpellsChunk (chunk_text chunk) chunk
unfolding chunk_text
chunk_spelled chunk h =
    let k1 : ChunkKnown = record no_chunk { file_path = chunk.file_path } in
    let k2 : ChunkKnown = record k1 { file_offset = chunk.file_offset } in
    let k3 : ChunkKnown = record k2 { meta_data = Some chunk.meta_data } in
    fields_spelled ChunkField (pos 0) no_chunk _ (chunk_known chunk)
    (fill_some ChunkField (λ o. record no_chunk { file_path = o }) (chunk_known chunk) _ _ binary_bytes chunk.file_path IsText _ refl (λ x f. record { typed = refl; value = x; spelled = text_spelled x f; known = refl }) h.file_path
    (fill_some ChunkField (λ o. record k1 { file_offset = o }) (chunk_known chunk) _ _ number_bytes chunk.file_offset IsNarrow _ refl (λ x f. record { typed = refl; value = x; spelled = number_spelled x f; known = refl }) h.file_offset
    (fill_always ChunkField k2 k3 (chunk_known chunk) _ _ _ _ refl (record { typed = refl; value = chunk.meta_data; spelled = column_spelled chunk.meta_data h.meta_data; known = refl })
    (fill_end ChunkField k3))))

group_spelled : (group : RowGroup) → FitsGroup group → SpellsGroup (group_text group) group
unfolding group_text
group_spelled group h =
    let k1 : GroupKnown = record no_group { columns = Some group.columns } in
    let k2 : GroupKnown = record k1 { total_byte_size = group.total_byte_size } in
    let k3 : GroupKnown = record k2 { num_rows = Some group.num_rows } in
    fields_spelled GroupField (pos 0) no_group _ (group_known group)
    (fill_always GroupField no_group k1 (group_known group) _ _ _ _ refl (record { typed = refl; value = group.columns; spelled = elements_spelled wires.Struct SpellsChunk chunk_text FitsChunk chunk_spelled group.columns h.columns; known = refl })
    (fill_some GroupField (λ o. record k1 { total_byte_size = o }) (group_known group) _ _ number_bytes group.total_byte_size IsNarrow _ refl (λ x f. record { typed = refl; value = x; spelled = number_spelled x f; known = refl }) h.total_byte_size
    (fill_always GroupField k2 k3 (group_known group) _ _ _ _ refl (record { typed = refl; value = group.num_rows; spelled = number_spelled group.num_rows h.num_rows; known = refl })
    (fill_end GroupField k3))))

element_spelled : (element : SchemaElement) → FitsElement element → SpellsElement (element_text element) element
unfolding element_text
element_spelled element h =
    let k1 : ElementKnown = record no_element { physical_type = element.physical_type } in
    let k2 : ElementKnown = record k1 { repetition_type = element.repetition_type } in
    let k3 : ElementKnown = record k2 { name = Some element.name } in
    let k4 : ElementKnown = record k3 { num_children = element.num_children } in
    let k5 : ElementKnown = record k4 { converted_type = element.converted_type } in
    fields_spelled ElementField (pos 0) no_element _ (element_known element)
    (fill_some ElementField (λ o. record no_element { physical_type = o }) (element_known element) _ _ number_bytes element.physical_type IsNarrow _ refl (λ x f. record { typed = refl; value = x; spelled = number_spelled x f; known = refl }) h.physical_type
    (fill_some ElementField (λ o. record k1 { repetition_type = o }) (element_known element) _ _ number_bytes element.repetition_type IsNarrow _ refl (λ x f. record { typed = refl; value = x; spelled = number_spelled x f; known = refl }) h.repetition_type
    (fill_always ElementField k2 k3 (element_known element) _ _ _ _ refl (record { typed = refl; value = element.name; spelled = text_spelled element.name h.name; known = refl })
    (fill_some ElementField (λ o. record k3 { num_children = o }) (element_known element) _ _ number_bytes element.num_children IsNarrow _ refl (λ x f. record { typed = refl; value = x; spelled = number_spelled x f; known = refl }) h.num_children
    (fill_some ElementField (λ o. record k4 { converted_type = o }) (element_known element) _ _ number_bytes element.converted_type IsNarrow _ refl (λ x f. record { typed = refl; value = x; spelled = number_spelled x f; known = refl }) h.converted_type
    (fill_end ElementField k5))))))

file_spelled : (meta : FileMeta) → FitsFile meta → SpellsFile (footer_text meta) meta
unfolding footer_text
file_spelled meta h =
    let k1 : FileKnown = record no_file { version = meta.version } in
    let k2 : FileKnown = record k1 { schema = Some meta.schema } in
    let k3 : FileKnown = record k2 { num_rows = Some meta.num_rows } in
    let k4 : FileKnown = record k3 { row_groups = Some meta.row_groups } in
    fields_spelled FileField (pos 0) no_file _ (file_known meta)
    (fill_some FileField (λ o. record no_file { version = o }) (file_known meta) _ _ number_bytes meta.version IsNarrow _ refl (λ x f. record { typed = refl; value = x; spelled = number_spelled x f; known = refl }) h.version
    (fill_always FileField k1 k2 (file_known meta) _ _ _ _ refl (record { typed = refl; value = meta.schema; spelled = elements_spelled wires.Struct SpellsElement element_text FitsElement element_spelled meta.schema h.schema; known = refl })
    (fill_always FileField k2 k3 (file_known meta) _ _ _ _ refl (record { typed = refl; value = meta.num_rows; spelled = number_spelled meta.num_rows h.num_rows; known = refl })
    (fill_always FileField k3 k4 (file_known meta) _ _ _ _ refl (record { typed = refl; value = meta.row_groups; spelled = elements_spelled wires.Struct SpellsGroup group_text FitsGroup group_spelled meta.row_groups h.row_groups; known = refl })
    (fill_end FileField k4)))))

-- ---- the head of a page

range_narrow : (n : ℤ) → is_in_range n ≡ true → IsNarrow n
range_narrow (pos n) h = let small = ltb-true n (2 ^ 31) h in omega (arith, small)
range_narrow (negsuc n) h = absurd cc

ranged_spelled : (n : ℤ) → is_in_range n ≡ true → SpellsNumber (number_bytes n) n
ranged_spelled n h = number_spelled n (range_narrow n h)

data_spelled : (head : DataPageHead) → DataInRange (Some head) → SpellsData (data_text head) (data_numbers head)
unfolding data_text
data_spelled head h =
    let k1 : DataKnown = record no_data { num_values = Some head.num_values } in
    let k2 : DataKnown = record k1 { encoding = Some head.encoding } in
    let k3 : DataKnown = record k2 { definition_level_encoding = Some head.definition_level_encoding } in
    let k4 : DataKnown = record k3 { repetition_level_encoding = Some head.repetition_level_encoding } in
    fields_spelled DataField (pos 0) no_data _ (data_known (data_numbers head))
    (fill_always DataField no_data k1 (data_known (data_numbers head)) _ _ _ _ refl (record { typed = refl; value = head.num_values; spelled = ranged_spelled head.num_values h.0; known = refl })
    (fill_always DataField k1 k2 (data_known (data_numbers head)) _ _ _ _ refl (record { typed = refl; value = head.encoding; spelled = ranged_spelled head.encoding h.1; known = refl })
    (fill_always DataField k2 k3 (data_known (data_numbers head)) _ _ _ _ refl (record { typed = refl; value = head.definition_level_encoding; spelled = ranged_spelled head.definition_level_encoding h.2; known = refl })
    (fill_always DataField k3 k4 (data_known (data_numbers head)) _ _ _ _ refl (record { typed = refl; value = head.repetition_level_encoding; spelled = ranged_spelled head.repetition_level_encoding h.3; known = refl })
    (fill_end DataField k4)))))

dictionary_spelled : (head : DictionaryPageHead) → DictionaryInRange (Some head) → SpellsDictionary (dictionary_text head) (dictionary_numbers head)
unfolding dictionary_text
dictionary_spelled head h =
    let k1 : DictionaryKnown = record no_dictionary { num_values = Some head.num_values } in
    let k2 : DictionaryKnown = record k1 { encoding = Some head.encoding } in
    fields_spelled DictionaryField (pos 0) no_dictionary _ (dictionary_known (dictionary_numbers head))
    (fill_always DictionaryField no_dictionary k1 (dictionary_known (dictionary_numbers head)) _ _ _ _ refl (record { typed = refl; value = head.num_values; spelled = ranged_spelled head.num_values h.0; known = refl })
    (fill_always DictionaryField k1 k2 (dictionary_known (dictionary_numbers head)) _ _ _ _ refl (record { typed = refl; value = head.encoding; spelled = ranged_spelled head.encoding h.1; known = refl })
    (fill_end DictionaryField k2)))

-- a struct without fields
empty_spelled : SpellsV2 (0 ∷ []) tt
unfolding SpellsValue
empty_spelled = inr (no_fields refl)

fill_v2 : (into : Bool → HeadKnown) (whole : HeadKnown) (value : Bool) (others : List (Option Written)) → HeadField (pos 8) wires.Struct (0 ∷ []) (into false) (into true) → Fills HeadField (into value) others whole
    → Fills HeadField (into false) (v2_text value ∷ others) whole
unfolding Fills
fill_v2 into whole false others here rest = rest
fill_v2 into whole true others here rest = (into true, refl, here, rest)

size_there : (size : Option ℤ) → SizeInRange size → IfThere (λ n. is_in_range n ≡ true) size
size_there None h = h
size_there (Some n) h = h

data_there : (head : Option DataPageHead) → DataInRange head → IfThere (λ d. DataInRange (Some d)) head
data_there None h = h
data_there (Some d) h = h

dictionary_there : (head : Option DictionaryPageHead) → DictionaryInRange head → IfThere (λ d. DictionaryInRange (Some d)) head
dictionary_there None h = h
dictionary_there (Some d) h = h

head_spelled : (head : PageHead) → IsInRange head → SpellsStruct HeadField (pos 0) no_head (head_text head) (head_known (head_numbers head))
unfolding head_text
head_spelled head h =
    let whole : HeadKnown = head_known (head_numbers head) in
    let k1 : HeadKnown = record no_head { page_type = Some head.page_type } in
    let k2 : HeadKnown = record k1 { uncompressed_page_size = head.uncompressed_page_size } in
    let k3 : HeadKnown = record k2 { compressed_page_size = Some head.compressed_page_size } in
    let k4 : HeadKnown = record k3 { data_page = optional_data head.data_page } in
    let k5 : HeadKnown = record k4 { dictionary_page = optional_dictionary head.dictionary_page } in
    let k6 : HeadKnown = record k5 { data_page_v2 = head.data_page_v2 } in
    fields_spelled HeadField (pos 0) no_head _ whole
    (fill_always HeadField no_head k1 whole _ _ _ _ refl (record { typed = refl; value = head.page_type; spelled = ranged_spelled head.page_type h.page_type; known = refl })
    (fill_some HeadField (λ o. record k1 { uncompressed_page_size = o }) whole _ _ number_bytes head.uncompressed_page_size (λ n. is_in_range n ≡ true) _ refl
    (λ x f. record { typed = refl; value = x; spelled = ranged_spelled x f; known = refl }) (size_there head.uncompressed_page_size h.uncompressed)
    (fill_always HeadField k2 k3 whole _ _ _ _ refl (record { typed = refl; value = head.compressed_page_size; spelled = ranged_spelled head.compressed_page_size h.compressed; known = refl })
    (fill_some HeadField (λ o. record k3 { data_page = optional_data o }) whole _ _ data_text head.data_page (λ d. DataInRange (Some d)) _ refl
    (λ x f. record { typed = refl; value = data_numbers x; spelled = data_spelled x f; known = refl }) (data_there head.data_page h.data_page)
    (fill_some HeadField (λ o. record k4 { dictionary_page = optional_dictionary o }) whole _ _ dictionary_text head.dictionary_page (λ d. DictionaryInRange (Some d)) _ refl
    (λ x f. record { typed = refl; value = dictionary_numbers x; spelled = dictionary_spelled x f; known = refl }) (dictionary_there head.dictionary_page h.dictionary_page)
    (fill_v2 (λ b. record k5 { data_page_v2 = b }) whole head.data_page_v2 _ (record { typed = refl; value = tt; spelled = empty_spelled; known = refl })
    (fill_end HeadField k6)))))))

-- ---- whole files

pub footers_read_back : FootersReadBack
footers_read_back meta pages rest fits small =
    let text = footer_text meta in
    let len = length (text ++ rest) in
    let size = to_le_bytes w32 len in
    let a = length-append (codes "PAR1") (pages ++ ((text ++ rest) ++ (size ++ codes "PAR1"))) in
    let b = length-append pages ((text ++ rest) ++ (size ++ codes "PAR1")) in
    let c = length-append (text ++ rest) (size ++ codes "PAR1") in
    let narrow : len < 2 ^ 32 = omega (arith, a, b, c, small) in
    joined_taken pages text rest size meta (file_spelled meta fits) refl (from_le_bytes-to_le_bytes_4 len narrow ∙ length-append text rest) small

pub heads_read_back : HeadsReadBack
heads_read_back head front rest complete range =
    let text = head_text head in
    heads_taken (front ++ (text ++ rest)) (length front) (record { head = head; body = length front + length text }) text
    (record { spelled = head_spelled head range; complete = complete; in_range = range })
    (record { front = front; rest = rest; whole = refl; begins = refl; ends = refl })
