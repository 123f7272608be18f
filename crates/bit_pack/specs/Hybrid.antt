-- The hybrid of runs and bit-packed stretches, as a relation between bytes and values: the Parquet format's
-- "Run Length Encoding / Bit-Packing Hybrid" (Encodings.md, RLE = 3), without the length in front.
use Rattle.std.specs.Prelude.{◌≡◌, ◌⊎◌, ℕ, zero, suc, ◌+◌, ◌-◌, ◌*◌, ◌/◌, ◌%◌, ◌^◌, ◌<◌, ◌≤◌, ◌==◌, nat_lt, List, [], ◌∷◌, ◌++◌, length, if◌then◌else◌, take, drop, replicate, slice_index}
use Rattle.std.specs.List.{list_all}
use Rattle.bit_pack.specs.Bits.{Packed, most_values}
use Rattle.bit_pack.specs.Numbers.{number_in, packed_number, bytes_of}

-- the number of a varint (ULEB128): the low seven bits of each byte, the lowest first
unfoldable pub varint_number : List ℕ → ℕ
varint_number [] = 0
varint_number (byte ∷ bytes) = byte % 128 + 128 * varint_number bytes

-- The bytes begin with a header, a varint of at most five bytes: each of its bytes but the last has its top bit set.
pub record IsHeader (bytes : List ℕ) (len number : ℕ) : Type 0 where
  pub some : 0 < len
  pub few : len ≤ 5
  pub within : len ≤ length bytes
  pub goes_on : (k : ℕ) → k + 1 < len → 128 ≤ slice_index bytes k
  pub ends : slice_index bytes (len - 1) < 128
  pub means : number ≡ varint_number (take len bytes)

-- five bytes that all say that the header goes on
pub record IsLongHeader (bytes : List ℕ) : Type 0 where
  pub within : 5 ≤ length bytes
  pub goes_on : (k : ℕ) → k < 5 → 128 ≤ slice_index bytes k

-- the bytes end inside a header
pub record IsCutHeader (bytes : List ℕ) : Type 0 where
  pub few : length bytes < 5
  pub goes_on : (k : ℕ) → k < length bytes → 128 ≤ slice_index bytes k

-- the least number of whole bytes that holds a value
abbrev pub byte_width : ℕ → ℕ
byte_width width = (width + 7) / 8

-- The bytes begin with a run: a header whose low bit is 0, then one value, which stands for so many copies.
pub record IsRun (width : ℕ) (bytes : List ℕ) (len copies value : ℕ) : Type 0 where
  pub header : IsHeader bytes len (2 * copies)
  pub few : copies ≤ most_values
  pub within : len + byte_width width ≤ length bytes
  pub means : value ≡ number_in (take (byte_width width) (drop len bytes))
  pub narrow : value < 2 ^ width

-- The bytes begin with a stretch: a header whose low bit is 1, then so many groups of eight bit-packed values.
pub record IsStretch (width : ℕ) (bytes : List ℕ) (len groups : ℕ) (values : List ℕ) : Type 0 where
  pub header : IsHeader bytes len (2 * groups + 1)
  pub few : 8 * groups ≤ most_values
  pub within : len + groups * width ≤ length bytes
  pub all : length values ≡ 8 * groups
  pub packed : Packed width (drop len bytes) values

-- The bytes begin with a piece of so many bytes, which stands for these values.
pub data IsPiece (width : ℕ) (bytes : List ℕ) : ℕ → List ℕ → Type 0 where
  run : (len copies value : ℕ) → IsRun width bytes len copies value → IsPiece width bytes (len + byte_width width) (replicate copies value)
  stretch : (len groups : ℕ) (values : List ℕ) → IsStretch width bytes len groups values → IsPiece width bytes (len + groups * width) values

-- The bytes are pieces that stand for these values, and then the rest.
pub data Pieces (width : ℕ) : List ℕ → List ℕ → List ℕ → Type 0 where
  none : {bytes : List ℕ} → Pieces width bytes bytes []
  more : {bytes rest values : List ℕ} (len : ℕ) (first : List ℕ) → IsPiece width bytes len first
      → Pieces width (drop len bytes) rest values → Pieces width bytes rest (first ++ values)

-- The bytes hold so many values, and these are they; values past the count are ignored.
pub record Reads (width : ℕ) (bytes : List ℕ) (count : ℕ) (values : List ℕ) : Type 0 where
  pub narrow : width ≤ 32
  pub few : count ≤ most_values
  pub rest : List ℕ
  pub all : List ℕ
  pub pieces : Pieces width bytes rest all
  pub enough : count ≤ length all
  pub first : values ≡ take count all

-- Reading comes to a place where fewer values were read than were asked, and `Fails` holds of the bytes from there on.
pub record StopsAt (width : ℕ) (bytes : List ℕ) (count : ℕ) (Fails : List ℕ → Type 0) : Type 0 where
  pub narrow : width ≤ 32
  pub few : count ≤ most_values
  pub rest : List ℕ
  pub all : List ℕ
  pub pieces : Pieces width bytes rest all
  pub missing : length all < count
  pub fails : Fails rest

-- how many values a header stands for, and in how many bytes
abbrev pub header_values : ℕ → ℕ
header_values number = if number % 2 == 0 then number / 2 else 8 * (number / 2)

-- how many bytes follow the header that is this number
abbrev pub header_bytes : ℕ → ℕ → ℕ
header_bytes width number = if number % 2 == 0 then byte_width width else number / 2 * width

-- a header that is too long, or a piece of too many values
abbrev pub HasLargeHeader : List ℕ → Type 0
HasLargeHeader bytes = IsLongHeader bytes ⊎ ((len : ℕ) × (number : ℕ) × IsHeader bytes len number × (most_values < header_values number))

-- bytes that end inside a header, or before the values of a piece that is not too large
abbrev pub EndsEarly : ℕ → List ℕ → Type 0
EndsEarly width bytes = IsCutHeader bytes
    ⊎ ((len : ℕ) × (number : ℕ) × IsHeader bytes len number × (header_values number ≤ most_values) × (length bytes < len + header_bytes width number))

-- a run whose value needs more bits than the width
abbrev pub HasWideValue : ℕ → List ℕ → Type 0
HasWideValue width bytes = (len : ℕ) × (copies : ℕ) × IsHeader bytes len (2 * copies) × (copies ≤ most_values)
    × (len + byte_width width ≤ length bytes) × (2 ^ width ≤ number_in (take (byte_width width) (drop len bytes)))

-- the shortest varint of a number, in at most so many bytes
unfoldable pub varint_of : ℕ → ℕ → List ℕ
varint_of zero number = []
varint_of (suc most) number = if nat_lt number 128 then number ∷ [] else (number % 128 + 128) ∷ varint_of most (number / 128)

-- The bytes that are written: none for no values, one run where all values are equal, and else one stretch, filled up
-- with zeros.
abbrev pub run_of : ℕ → ℕ → ℕ → List ℕ
run_of width copies value = varint_of 5 (2 * copies) ++ bytes_of (byte_width width) value

-- a stretch of so many groups of eight
abbrev pub stretch_of : ℕ → ℕ → List ℕ → List ℕ
stretch_of width groups values = varint_of 5 (2 * groups + 1) ++ bytes_of (groups * width) (packed_number width values)

-- equal values are written as one run, and others as one stretch
unfoldable pub hybrid_of : ℕ → List ℕ → List ℕ
hybrid_of width values =
    if length values == 0 then []
    else if list_all (λ other. other == slice_index values 0) values then run_of width (length values) (slice_index values 0)
    else stretch_of width ((length values + 7) / 8) values
