-- What pages are: their bytes and values as a relation, in the words of the Parquet format (README.md, "Data Pages",
-- "Nulls"; Encodings.md, "Plain", "Run Length Encoding / Bit-Packing Hybrid", "Dictionary Encoding").
use Rattle.std.specs.Prelude.{◌≡◌, ◌⊎◌, ◌↔◌, ℕ, ◌+◌, ◌*◌, ◌<◌, ◌≤◌, is_some, slice_get, ℤ, pos, Bool, true, false, List, [], ◌∷◌, ◌++◌, length, take, drop, map, Option, Some, None, IfSome, Ok, IsUtf8}
use Rattle.std.specs.Int.{w32, from_le_bytes}
use Rattle.std.specs.List.{All, list_any}
use Rattle.bit_pack.specs.Bits.{Packed, most_values}
use Rattle.bit_pack.specs.Hybrid as hybrid
use Rattle.row_base.specs.declared.limits.TheConstants.{MAX_TEXT_BYTES}
use Rattle.row_base.specs.Dates.{IsDayNumber}
use Rattle.row_base.specs.declared.row.Datum.{Datum}
use Rattle.row_base.specs.declared.row.Datum.TheVariants as datum
use Rattle.row_base.specs.declared.row.Kind.{Kind}
use Rattle.row_base.specs.declared.row.Kind.TheVariants as kind
use Rattle.parquet_meta.specs.declared.head.DataPageHead.{DataPageHead}
use Rattle.parquet_meta.specs.declared.head.DictionaryPageHead.{DictionaryPageHead}
use Rattle.parquet_meta.specs.declared.head.PageAt.{PageAt}
use Rattle.parquet_pages.specs.Plain.{long_of, integer_of, boolean_of}
use Rattle.parquet_pages.specs.Levels.{there, spread}
use Rattle.parquet_pages.specs.Places.{is_null, present, place_of, is_boolean, dictionary_of, can_place, values_at}
use Rattle.parquet_pages.specs.Written.{CanStand}
use Rattle.parquet_pages.specs.Pages.{page_values, page_has_null, dictionary_values}

-- bytes of UTF-8, at most MAX_TEXT_BYTES of them
pub record IsText (bytes : List ℕ) : Type 0 where
  pub short : length bytes ≤ MAX_TEXT_BYTES
  pub utf8 : IsUtf8 bytes

-- four bytes with a number, so many bytes behind them, and the rest
pub record Block (bytes block rest : List ℕ) : Type 0 where
  pub front : List ℕ
  pub whole : bytes ≡ front ++ (block ++ rest)
  pub four : length front ≡ 4
  pub counted : from_le_bytes w32 front ≡ length block

-- the bytes begin with a PLAIN value that isn't a boolean, and the rest is behind it
pub data PlainValue : Kind → List ℕ → Datum → List ℕ → Type 0 where
  long : (text rest : List ℕ) → length text ≡ 8 → PlainValue kind.Long (text ++ rest) (datum.Long (long_of text)) rest
  integer : (text rest : List ℕ) → length text ≡ 4 → PlainValue kind.Integer (text ++ rest) (datum.Integer (integer_of text)) rest
  date : (text rest : List ℕ) → length text ≡ 4 → IsDayNumber (integer_of text) → PlainValue kind.Date (text ++ rest) (datum.Date (integer_of text)) rest
  string : (bytes text rest : List ℕ) → Block bytes text rest → IsText text → PlainValue kind.String bytes (datum.Text text) rest

-- the bytes begin with these values, one behind the other
pub data InLine (k : Kind) : List ℕ → List Datum → Type 0 where
  done : (bytes : List ℕ) → InLine k bytes []
  next : (bytes rest : List ℕ) (v : Datum) (vs : List Datum) → PlainValue k bytes v rest → InLine k rest vs → InLine k bytes (v ∷ vs)

-- the bytes begin with these booleans, one bit each, the lowest bit of each byte first
pub record InBits (bytes : List ℕ) (vs : List Datum) : Type 0 where
  pub bits : List ℕ
  pub packed : Packed 1 bytes bits
  pub means : vs ≡ map boolean_of bits

-- the bytes begin with these PLAIN values of a kind
abbrev pub PlainValues : Kind → List ℕ → List Datum → Type 0
PlainValues kind.Boolean bytes vs = InBits bytes vs
PlainValues kind.Long bytes vs = InLine kind.Long bytes vs
PlainValues kind.Integer bytes vs = InLine kind.Integer bytes vs
PlainValues kind.String bytes vs = InLine kind.String bytes vs
PlainValues kind.Date bytes vs = InLine kind.Date bytes vs

-- so many definition levels at the front of a body: their hybrid of width 1 behind its number of bytes
pub record Levels (count : ℕ) (bytes levels rest : List ℕ) : Type 0 where
  pub block : List ℕ
  pub stands : Block bytes block rest
  pub spelled : hybrid.Reads 1 block count levels

-- so many values by their places in a dictionary: a byte with the width, the hybrid of the places, each in the dictionary
pub record Indexed (dictionary : List Datum) (count : ℕ) (bytes : List ℕ) (vs : List Datum) : Type 0 where
  pub width : ℕ
  pub spelling : List ℕ
  pub places : List ℕ
  pub whole : bytes ≡ width ∷ spelling
  pub spelled : hybrid.Reads width spelling count places
  pub within : values_at dictionary places ≡ Some vs

-- so many values that are there, in the encoding that the head names
pub data Present (k : Kind) (encoding : ℤ) (dictionary : Option (List Datum)) (count : ℕ) (bytes : List ℕ) (vs : List Datum) : Type 0 where
  plain : encoding ≡ pos 0 → length vs ≡ count → PlainValues k bytes vs → Present k encoding dictionary count bytes vs
  indexed : (known : List Datum) → (encoding ≡ pos 2) ⊎ (encoding ≡ pos 8) → dictionary ≡ Some known → Indexed known count bytes vs
      → Present k encoding dictionary count bytes vs

-- the values of a body: levels come first where the column may be null
pub data Body (k : Kind) (encoding : ℤ) (dictionary : Option (List Datum)) (count : ℕ) (bytes : List ℕ) (vs : List Datum) : Bool → Type 0 where
  required : Present k encoding dictionary count bytes vs → Body k encoding dictionary count bytes vs false
  optional : (levels rest : List ℕ) (values : List Datum) → Levels count bytes levels rest → Present k encoding dictionary (there levels) rest values
      → vs ≡ spread levels values → Body k encoding dictionary count bytes vs true

-- so many values, at most 2^26, in so many bytes from the body's place on, which the file has
pub record Framed (page : PageAt) (values : ℤ) (file : List ℕ) (count : ℕ) (bytes : List ℕ) : Type 0 where
  pub size : ℕ
  pub counted : values ≡ pos count
  pub few : count ≤ most_values
  pub sized : page.head.compressed_page_size ≡ pos size
  pub within : page.body + size ≤ length file
  pub stands : bytes ≡ take size (drop page.body file)

-- a data page of version 1 with these values
pub record DataPage (k : Kind) (optional : Bool) (page : PageAt) (file : List ℕ) (dictionary : Option (List Datum)) (vs : List Datum) : Type 0 where
  pub head : DataPageHead
  pub count : ℕ
  pub bytes : List ℕ
  pub is_data : page.head.page_type ≡ pos 0
  pub has_head : page.head.data_page ≡ Some head
  pub levels : optional ≡ true → head.definition_level_encoding ≡ pos 3
  pub framed : Framed page head.num_values file count bytes
  pub body : Body k head.encoding dictionary count bytes vs optional

-- a dictionary page with these values
pub record DictionaryPage (k : Kind) (page : PageAt) (file : List ℕ) (vs : List Datum) : Type 0 where
  pub head : DictionaryPageHead
  pub bytes : List ℕ
  pub is_dictionary : page.head.page_type ≡ pos 2
  pub has_head : page.head.dictionary_page ≡ Some head
  pub encoded : (head.encoding ≡ pos 0) ⊎ (head.encoding ≡ pos 2)
  pub framed : Framed page head.num_values file (length vs) bytes
  pub body : PlainValues k bytes vs

-- a page is read as values exactly where it is a page of these values
abbrev pub PagesAreRead : Type 0
PagesAreRead = (k : Kind) (optional : Bool) (page : PageAt) (file : List ℕ) (dictionary : Option (List Datum)) (vs : List Datum)
    → (page_values k optional page file dictionary ≡ Ok vs) ↔ DataPage k optional page file dictionary vs

abbrev pub DictionariesAreRead : Type 0
DictionariesAreRead = (k : Kind) (page : PageAt) (file : List ℕ) (vs : List Datum)
    → (dictionary_values k page file ≡ Ok vs) ↔ DictionaryPage k page file vs

-- a value is among these
abbrev pub Has : List Datum → Datum → Type 0
Has vs v = is_some (place_of vs v) ≡ true

-- the dictionary of values: each of them that isn't null, and no other, once, in order of first appearance
pub record IsDictionaryOf (vs dictionary : List Datum) : Type 0 where
  pub all : (v : Datum) → is_null v ≡ false → Has vs v → Has dictionary v
  pub only : (v : Datum) → Has dictionary v → (is_null v ≡ false) × Has vs v
  pub once : (i : ℕ) (v : Datum) → slice_get dictionary i ≡ Some v → place_of dictionary v ≡ Some i
  pub order : (a b : Datum) (i j m n : ℕ) → place_of dictionary a ≡ Some i → place_of dictionary b ≡ Some j → place_of vs a ≡ Some m → place_of vs b ≡ Some n
      → i < j → m < n

-- a chunk has a dictionary where it isn't boolean and twice the number of its distinct values is at most the number of its
-- values that aren't null
abbrev pub DictionariesPay : Type 0
DictionariesPay = (k : Kind) (vs dictionary : List Datum) → dictionary_of k vs ≡ Some dictionary
    → (is_boolean k ≡ false) × IsDictionaryOf vs dictionary × (2 * length dictionary ≤ present vs)

-- and else it has none
abbrev pub OthersDoNotPay : Type 0
OthersDoNotPay = (k : Kind) (vs : List Datum) → dictionary_of k vs ≡ None
    → (is_boolean k ≡ true) ⊎ ((dictionary : List Datum) × IsDictionaryOf vs dictionary × (present vs < 2 * length dictionary))

-- the values of a chunk have places in its dictionary, whose values can stand where the chunk's stand, and which isn't longer
abbrev pub DictionariesFit : Type 0
DictionariesFit = (k : Kind) (optional : Bool) (vs dictionary : List Datum) → dictionary_of k vs ≡ Some dictionary → All (CanStand k optional) vs
    → All (λ v. can_place dictionary optional v ≡ true) vs × All (CanStand k false) dictionary × (length dictionary ≤ length vs)

-- where a page's values can be read, by a dictionary without null, its levels alone tell whether null is among them
abbrev pub NullsAreFound : Type 0
NullsAreFound = (k : Kind) (optional : Bool) (page : PageAt) (file : List ℕ) (dictionary : Option (List Datum)) (vs : List Datum)
    → page_values k optional page file dictionary ≡ Ok vs → IfSome dictionary (λ known. list_any is_null known ≡ false)
    → page_has_null optional page file ≡ Ok (list_any is_null vs)
