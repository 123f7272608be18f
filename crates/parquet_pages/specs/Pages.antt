-- A page's values as a function of the page and of the file (README.md, "Data Pages"; parquet.thrift, `PageHeader`).
use Rattle.std.specs.Prelude.{ℕ, ◌+◌, ℤ, pos, negsuc, nat_le, Bool, false, not, ◌&&◌, ◌||◌, if◌then◌else◌, List, length, take, drop, Option, Some, None, option_map, option_and_then, Result, Ok, Err}
use Rattle.std.specs.Ordering.{int_eq}
use Rattle.bit_pack.specs.Bits.{most_values}
use Rattle.row_base.specs.declared.row.Datum.{Datum}
use Rattle.row_base.specs.declared.row.Kind.{Kind}
use Rattle.parquet_meta.specs.declared.fault.FileFault.{FileFault}
use Rattle.parquet_meta.specs.declared.fault.FileFault.TheVariants as faults
use Rattle.parquet_meta.specs.declared.head.DataPageHead.{DataPageHead}
use Rattle.parquet_meta.specs.declared.head.DictionaryPageHead.{DictionaryPageHead}
use Rattle.parquet_meta.specs.declared.head.PageAt.{PageAt}
use Rattle.row_base.specs.Faults.{◌>>=◌}
use Rattle.parquet_pages.specs.Gives.{or_page}
use Rattle.parquet_pages.specs.Plain.{plain_values}
use Rattle.parquet_pages.specs.Levels.{levels_in, there, has_null, spread}
use Rattle.parquet_pages.specs.Places.{indexed_values}

-- the encodings of values, and of levels (parquet.thrift, `Encoding`)
abbrev pub is_plain : ℤ → Bool
is_plain encoding = int_eq encoding (pos 0)

abbrev pub is_dictionary : ℤ → Bool
is_dictionary encoding = int_eq encoding (pos 2) || int_eq encoding (pos 8)

abbrev pub is_hybrid : ℤ → Bool
is_hybrid encoding = int_eq encoding (pos 3)

-- a number of values, where it is at least 0 and allowed
abbrev pub count_of : ℤ → Option ℕ
count_of (pos n) = if nat_le n most_values then Some n else None
count_of (negsuc n) = None

-- the bytes of the body at this place, where they are so many and the file has them
abbrev pub bytes_at : ℕ → ℤ → List ℕ → Option (List ℕ)
bytes_at at (pos size) file = if nat_le (at + size) (length file) then Some (take size (drop at file)) else None
bytes_at at (negsuc size) file = None

-- the number of a page's values, and the bytes of its body
unfoldable pub body_of : PageAt → ℤ → List ℕ → Option (ℕ × List ℕ)
body_of page values file =
    option_and_then (λ count. option_map (λ bytes. (count, bytes)) (bytes_at page.body page.head.compressed_page_size file)) (count_of values)

-- the encodings of a data page can be read; levels are looked at where the page has them
abbrev pub checked_head : Bool → DataPageHead → Result DataPageHead FileFault
checked_head optional head =
    if not (is_plain head.encoding || is_dictionary head.encoding) then Err (faults.Encoding head.encoding)
    else (if optional && not (is_hybrid head.definition_level_encoding)
    then Err (faults.Encoding head.definition_level_encoding) else Ok head)

-- the head of a version 1 data page (`PageType` 0)
unfoldable pub data_head : Bool → PageAt → Result DataPageHead FileFault
data_head optional page =
    if int_eq page.head.page_type (pos 0) then (or_page page.body page.head.data_page >>= checked_head optional)
    else Err (faults.PageKind page.head.page_type)

-- the head of a dictionary page (`PageType` 2), whose values are PLAIN
abbrev pub checked_dictionary : DictionaryPageHead → Result DictionaryPageHead FileFault
checked_dictionary head =
    if is_plain head.encoding || int_eq head.encoding (pos 2) then Ok head else Err (faults.Encoding head.encoding)

unfoldable pub dictionary_head : PageAt → Result DictionaryPageHead FileFault
dictionary_head page =
    if int_eq page.head.page_type (pos 2) then (or_page page.body page.head.dictionary_page >>= checked_dictionary)
    else Err (faults.PageKind page.head.page_type)

-- so many values that are there, PLAIN or by their places in the dictionary that came before
unfoldable pub present_values : Kind → ℤ → Option (List Datum) → ℕ → List ℕ → Option (List Datum)
present_values kind encoding dictionary count bytes =
    if is_plain encoding then plain_values kind count bytes
    else option_and_then (λ d. indexed_values d count bytes) dictionary

-- the values of a page's body, with null where the levels have it
unfoldable pub body_values : Kind → Bool → ℤ → Option (List Datum) → ℕ → List ℕ → Option (List Datum)
body_values kind optional encoding dictionary count bytes =
    if optional then option_and_then (λ l. option_map (spread l.0) (present_values kind encoding dictionary (there l.0) l.1)) (levels_in count bytes)
    else present_values kind encoding dictionary count bytes

-- the values of a data page, or the first fault
unfoldable pub page_values : Kind → Bool → PageAt → List ℕ → Option (List Datum) → Result (List Datum) FileFault
page_values kind optional page file dictionary =
    data_head optional page >>= λ head.
    or_page page.body (body_of page head.num_values file) >>= λ body.
    or_page page.body (body_values kind optional head.encoding dictionary body.0 body.1)

-- whether a body has a null, where its levels can be read
abbrev pub body_has_null : Bool → ℕ → List ℕ → Option Bool
body_has_null optional count bytes =
    if optional then option_map (λ l. has_null l.0) (levels_in count bytes) else Some false

-- whether a data page has a null, or the first fault up to its levels
unfoldable pub page_has_null : Bool → PageAt → List ℕ → Result Bool FileFault
page_has_null optional page file =
    data_head optional page >>= λ head.
    or_page page.body (body_of page head.num_values file) >>= λ body.
    or_page page.body (body_has_null optional body.0 body.1)

-- the values of a dictionary page, or the first fault
unfoldable pub dictionary_values : Kind → PageAt → List ℕ → Result (List Datum) FileFault
dictionary_values kind page file =
    dictionary_head page >>= λ head.
    or_page page.body (body_of page head.num_values file) >>= λ body.
    or_page page.body (plain_values kind body.0 body.1)
