-- What the head of a page reads as (Parquet format, parquet.thrift: PageHeader, DataPageHeader, DictionaryPageHeader).
use Rattle.std.specs.Prelude.{if◌then◌else◌, ℕ, ◌+◌, ◌^◌, nat_lt, Bool, true, false, List, length, drop, ℤ, pos, negsuc, Option, Some, None, Result, Ok, Err}
use Rattle.std.specs.Ordering.{int_eq}
use Rattle.thrift_compact.specs.declared.wire.Wire.{Wire}
use Rattle.thrift_compact.specs.declared.wire.Wire.TheVariants as wires
use Rattle.parquet_meta.specs.declared.fault.FileFault.{FileFault}
use Rattle.parquet_meta.specs.declared.fault.FileFault.TheVariants as faults
use Rattle.parquet_meta.specs.declared.head.PageHead.{PageHead}
use Rattle.parquet_meta.specs.declared.head.DataPageHead.{DataPageHead}
use Rattle.parquet_meta.specs.declared.head.DictionaryPageHead.{DictionaryPageHead}
use Rattle.parquet_meta.specs.declared.head.PageAt.{PageAt}
use Rattle.parquet_meta.specs.declared.known.HeadKnown.{HeadKnown}
use Rattle.parquet_meta.specs.declared.known.DataKnown.{DataKnown}
use Rattle.parquet_meta.specs.declared.known.DictionaryKnown.{DictionaryKnown}
use Rattle.parquet_meta.specs.declared.known.HeadNumbers.{HeadNumbers}
use Rattle.parquet_meta.specs.declared.known.DataNumbers.{DataNumbers}
use Rattle.parquet_meta.specs.declared.known.DictionaryNumbers.{DictionaryNumbers}
use Rattle.row_base.specs.Faults.{◌>>=◌}
use Rattle.parquet_meta.specs.Pieces.{Piece}
use Rattle.parquet_meta.specs.Values.{typed, number_in, skipped_in, put, passed}
use Rattle.parquet_meta.specs.Structs.{struct_of, needed}

-- ---- the header of a data page

-- nothing is known of the header of a data page yet
abbrev pub no_data : DataKnown
no_data = record { num_values = None; encoding = None; definition_level_encoding = None; repetition_level_encoding = None }

-- what a field of the header of a data page makes of what is known of it
abbrev pub data_step : Piece → ℤ → Wire → ℕ → ℕ → DataKnown → Result (DataKnown × ℕ) FileFault
data_step piece id found place at known =
    if int_eq id (pos 1) then put (λ n. record known { num_values = Some n }) (typed wires.I32 found place (number_in piece at))
    else if int_eq id (pos 2) then put (λ n. record known { encoding = Some n }) (typed wires.I32 found place (number_in piece at))
    else if int_eq id (pos 3) then put (λ n. record known { definition_level_encoding = Some n }) (typed wires.I32 found place (number_in piece at))
    else if int_eq id (pos 4) then put (λ n. record known { repetition_level_encoding = Some n }) (typed wires.I32 found place (number_in piece at))
    else passed piece found at known

-- the header of a data page from what is known of it at its stop
abbrev pub data_made : ℕ → DataKnown → Result DataNumbers FileFault
data_made stop known =
    needed stop known.num_values >>= λ num_values.
    needed stop known.encoding >>= λ encoding.
    needed stop known.definition_level_encoding >>= λ definition_level_encoding.
    needed stop known.repetition_level_encoding >>= λ repetition_level_encoding.
    Ok (record {
      num_values = num_values;
      encoding = encoding;
      definition_level_encoding = definition_level_encoding;
      repetition_level_encoding = repetition_level_encoding;
    })

-- DataPageHeader
unfoldable pub data_in : Piece → ℕ → ℕ → Result (DataNumbers × ℕ) FileFault
data_in = struct_of data_step no_data data_made

-- ---- the header of a dictionary page

-- nothing is known of the header of a dictionary page yet
abbrev pub no_dictionary : DictionaryKnown
no_dictionary = record { num_values = None; encoding = None }

-- what a field of the header of a dictionary page makes of what is known of it
abbrev pub dictionary_step : Piece → ℤ → Wire → ℕ → ℕ → DictionaryKnown → Result (DictionaryKnown × ℕ) FileFault
dictionary_step piece id found place at known =
    if int_eq id (pos 1) then put (λ n. record known { num_values = Some n }) (typed wires.I32 found place (number_in piece at))
    else if int_eq id (pos 2) then put (λ n. record known { encoding = Some n }) (typed wires.I32 found place (number_in piece at))
    else passed piece found at known

-- the header of a dictionary page from what is known of it at its stop
abbrev pub dictionary_made : ℕ → DictionaryKnown → Result DictionaryNumbers FileFault
dictionary_made stop known =
    needed stop known.num_values >>= λ num_values.
    needed stop known.encoding >>= λ encoding.
    Ok (record { num_values = num_values; encoding = encoding })

-- DictionaryPageHeader
unfoldable pub dictionary_in : Piece → ℕ → ℕ → Result (DictionaryNumbers × ℕ) FileFault
dictionary_in = struct_of dictionary_step no_dictionary dictionary_made

-- ---- the head of a page

-- nothing is known of the head of a page yet
abbrev pub no_head : HeadKnown
no_head = record {
  page_type = None;
  uncompressed_page_size = None;
  compressed_page_size = None;
  data_page = None;
  dictionary_page = None;
  data_page_v2 = false;
}

-- the header of a data page of the second version is passed over
abbrev pub head_step : Piece → ℤ → Wire → ℕ → ℕ → HeadKnown → Result (HeadKnown × ℕ) FileFault
head_step piece id found place at known =
    if int_eq id (pos 1) then put (λ n. record known { page_type = Some n }) (typed wires.I32 found place (number_in piece at))
    else if int_eq id (pos 2) then put (λ n. record known { uncompressed_page_size = Some n }) (typed wires.I32 found place (number_in piece at))
    else if int_eq id (pos 3) then put (λ n. record known { compressed_page_size = Some n }) (typed wires.I32 found place (number_in piece at))
    else if int_eq id (pos 5) then put (λ d. record known { data_page = Some d }) (typed wires.Struct found place (data_in piece place at))
    else if int_eq id (pos 7) then put (λ d. record known { dictionary_page = Some d }) (typed wires.Struct found place (dictionary_in piece place at))
    else if int_eq id (pos 8) then put (λ nothing. record known { data_page_v2 = true }) (typed wires.Struct found place (skipped_in piece wires.Struct at))
    else passed piece found at known

-- a page of this type needs a field
abbrev pub needed_for : {A : Type 0} → ℕ → ℤ → ℤ → Option A → Result (Unit {0}) FileFault
needed_for stop page_type wanted (Some value) = Ok tt
needed_for stop page_type wanted None = if int_eq page_type wanted then Err (faults.Thrift stop) else Ok tt

-- the head of a page from what is known of it at its stop: a data page and a dictionary page need their headers
abbrev pub head_made : ℕ → HeadKnown → Result HeadNumbers FileFault
head_made stop known =
    needed stop known.page_type >>= λ page_type.
    needed stop known.compressed_page_size >>= λ compressed_page_size.
    needed_for stop page_type (pos 0) known.data_page >>= λ data_page.
    needed_for stop page_type (pos 2) known.dictionary_page >>= λ dictionary_page.
    Ok (record {
      page_type = page_type;
      uncompressed_page_size = known.uncompressed_page_size;
      compressed_page_size = compressed_page_size;
      data_page = known.data_page;
      dictionary_page = known.dictionary_page;
      data_page_v2 = known.data_page_v2;
    })

-- PageHeader, its numbers of any size
unfoldable pub numbers_in : Piece → ℕ → ℕ → Result (HeadNumbers × ℕ) FileFault
numbers_in = struct_of head_step no_head head_made

-- ---- the numbers of a head in range; `at` is the place in the file of the head's first byte

-- a number from 0 to 2^31 - 1
abbrev pub is_in_range : ℤ → Bool
is_in_range (pos n) = nat_lt n (2 ^ 31)
is_in_range (negsuc n) = false

-- a number in range; any other is a fault of the page
abbrev pub narrow : ℕ → ℤ → Result ℤ FileFault
narrow at number = if is_in_range number then Ok number else Err (faults.Page at)

-- the same for a number that may be absent
abbrev pub narrow_optional : ℕ → Option ℤ → Result (Option ℤ) FileFault
narrow_optional at None = Ok None
narrow_optional at (Some number) = narrow at number >>= λ n. Ok (Some n)

-- the same for the header of a data page
abbrev pub data_head : ℕ → Option DataNumbers → Result (Option DataPageHead) FileFault
data_head at None = Ok None
data_head at (Some numbers) =
    narrow at numbers.num_values >>= λ num_values.
    narrow at numbers.encoding >>= λ encoding.
    narrow at numbers.definition_level_encoding >>= λ definition_level_encoding.
    narrow at numbers.repetition_level_encoding >>= λ repetition_level_encoding.
    Ok (Some (record {
      num_values = num_values;
      encoding = encoding;
      definition_level_encoding = definition_level_encoding;
      repetition_level_encoding = repetition_level_encoding;
    }))

-- the same for the header of a dictionary page
abbrev pub dictionary_head : ℕ → Option DictionaryNumbers → Result (Option DictionaryPageHead) FileFault
dictionary_head at None = Ok None
dictionary_head at (Some numbers) =
    narrow at numbers.num_values >>= λ num_values.
    narrow at numbers.encoding >>= λ encoding.
    Ok (Some (record { num_values = num_values; encoding = encoding }))

-- the head of a page with all of its numbers in range
unfoldable pub page_head : ℕ → HeadNumbers → Result PageHead FileFault
page_head at numbers =
    narrow at numbers.page_type >>= λ page_type.
    narrow_optional at numbers.uncompressed_page_size >>= λ uncompressed_page_size.
    narrow at numbers.compressed_page_size >>= λ compressed_page_size.
    data_head at numbers.data_page >>= λ data_page.
    dictionary_head at numbers.dictionary_page >>= λ dictionary_page.
    Ok (record {
      page_type = page_type;
      uncompressed_page_size = uncompressed_page_size;
      compressed_page_size = compressed_page_size;
      data_page = data_page;
      dictionary_page = dictionary_page;
      data_page_v2 = numbers.data_page_v2;
    })

-- what the head of the page at a place of a file reads as, and where the page's body begins
unfoldable pub page_head_at : List ℕ → ℕ → Result PageAt FileFault
page_head_at file at =
    if nat_lt (length file) at then Err (faults.Thrift (length file))
    else (numbers_in (record { bytes = drop at file; start = at }) 0 0 >>= λ numbers.
    page_head at numbers.0 >>= λ head. Ok (record { head = head; body = at + numbers.1 }))
