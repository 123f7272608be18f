-- The bytes of pages that are written (Encodings.md, "Plain: (PLAIN = 0)", "Run Length Encoding / Bit-Packing Hybrid",
-- "Dictionary Encoding"; README.md, "Data Pages").
use Rattle.std.specs.Prelude.{◌≡◌, ℕ, ◌+◌, ◌/◌, Bool, true, false, if◌then◌else◌, List, [], ◌∷◌, ◌++◌, length}
use Rattle.std.specs.Int.{w32, w64, to_le_bytes, cast_unsigned}
use Rattle.std.specs.List.{flat_map}
use Rattle.bit_pack.specs.Numbers.{packed_number, bytes_of}
use Rattle.bit_pack.specs.Hybrid.{hybrid_of}
use Rattle.row_base.specs.Schema.{is_of_kind}
use Rattle.row_base.specs.declared.row.Datum.{Datum}
use Rattle.row_base.specs.declared.row.Datum.TheVariants as datum
use Rattle.row_base.specs.declared.row.Kind.{Kind}
use Rattle.row_base.specs.declared.row.Kind.TheVariants as kind
use Rattle.parquet_pages.specs.Places.{is_null, places_of, index_width}

-- bytes behind their number, which has four bytes
abbrev pub block_text : List ℕ → List ℕ
block_text bytes = to_le_bytes w32 (length bytes) ++ bytes

-- The PLAIN bytes of a value. Null has none, and a boolean has a bit, which stands in `booleans_text`.
abbrev pub plain_text : Datum → List ℕ
plain_text datum.Null = []
plain_text (datum.Long n) = to_le_bytes w64 (cast_unsigned w64 n)
plain_text (datum.Integer n) = to_le_bytes w32 (cast_unsigned w32 n)
plain_text (datum.Boolean b) = []
plain_text (datum.Text t) = block_text t
plain_text (datum.Date n) = to_le_bytes w32 (cast_unsigned w32 n)

-- the bits of the booleans among these values
abbrev pub bits_of : List Datum → List ℕ
bits_of [] = []
bits_of (datum.Boolean b ∷ vs) = (if b then 1 else 0) ∷ bits_of vs
bits_of (datum.Null ∷ vs) = bits_of vs
bits_of (datum.Long n ∷ vs) = bits_of vs
bits_of (datum.Integer n ∷ vs) = bits_of vs
bits_of (datum.Text t ∷ vs) = bits_of vs
bits_of (datum.Date n ∷ vs) = bits_of vs

-- bits in the fewest bytes, the lowest bit of each byte first
abbrev pub bits_text : List ℕ → List ℕ
bits_text bits = bytes_of ((length bits + 7) / 8) (packed_number 1 bits)

-- the PLAIN bytes of the values that aren't null
unfoldable pub values_text : Kind → List Datum → List ℕ
values_text kind.Boolean vs = bits_text (bits_of vs)
values_text kind.Long vs = flat_map plain_text vs
values_text kind.Integer vs = flat_map plain_text vs
values_text kind.String vs = flat_map plain_text vs
values_text kind.Date vs = flat_map plain_text vs

-- the definition levels of values: 0 for null, and else 1
abbrev pub levels_of : List Datum → List ℕ
levels_of [] = []
levels_of (v ∷ vs) = (if is_null v then 0 else 1) ∷ levels_of vs

-- the levels in front of a data page's values, where the column may be null
unfoldable pub levels_text : Bool → List Datum → List ℕ
levels_text false vs = []
levels_text true vs = block_text (hybrid_of 1 (levels_of vs))

-- the body of a data page with PLAIN values
unfoldable pub page_text : Kind → Bool → List Datum → List ℕ
page_text k optional vs = levels_text optional vs ++ values_text k vs

-- the body of a dictionary page
abbrev pub dictionary_text : Kind → List Datum → List ℕ
dictionary_text k dictionary = values_text k dictionary

-- the body of a data page with the places of its values in a dictionary
unfoldable pub index_text : Bool → List Datum → List Datum → List ℕ
index_text optional dictionary vs =
    let width = index_width (length dictionary) in
    levels_text optional vs ++ width ∷ hybrid_of width (places_of dictionary vs)

-- a value can stand in a column: null where the column may be null, and else a value of its kind
abbrev pub CanStand : Kind → Bool → Datum → Type 0
CanStand k optional datum.Null = optional ≡ true
CanStand k optional (datum.Long n) = is_of_kind k (datum.Long n) ≡ true
CanStand k optional (datum.Integer n) = is_of_kind k (datum.Integer n) ≡ true
CanStand k optional (datum.Boolean b) = is_of_kind k (datum.Boolean b) ≡ true
CanStand k optional (datum.Text t) = is_of_kind k (datum.Text t) ≡ true
CanStand k optional (datum.Date n) = is_of_kind k (datum.Date n) ≡ true
