-- Bit packing, lowest bit first: the BIT_PACKED values of a stretch in the Parquet format's
-- "RLE / Bit-Packing Hybrid" encoding (Encodings.md, RLE = 3).
use Rattle.std.specs.Prelude.{◌≡◌, ℕ, zero, suc, ◌+◌, ◌*◌, ◌/◌, ◌%◌, ◌^◌, ◌<◌, ◌≤◌, List, [], ◌∷◌, length, take, drop, slice_index, EachIndex, SomeIndex, ◌⊎◌, ◌++◌}
use Rattle.std.specs.List.{flat_map}

-- the lowest bits of a number, so many, the lowest first
unfoldable pub low_bits : ℕ → ℕ → List ℕ
low_bits zero n = []
low_bits (suc count) n = n % 2 ∷ low_bits count (n / 2)

-- the bits of bytes: byte after byte, of each byte the lowest bit first
unfoldable pub bit_list : List ℕ → List ℕ
bit_list bytes = flat_map (low_bits 8) bytes

-- the number whose bits, the lowest first, are these
unfoldable pub number_of : List ℕ → ℕ
number_of [] = 0
number_of (bit ∷ bits) = bit + 2 * number_of bits

-- the value at a place: `width` bits of the bytes from bit `place * width` on
unfoldable pub value_at : ℕ → List ℕ → ℕ → ℕ
value_at width bytes place = number_of (take width (drop (place * width) (bit_list bytes)))

-- The bytes begin with these values, each of `width` bits, one behind the other.
pub record Packed (width : ℕ) (bytes values : List ℕ) : Type 0 where
  pub within : length values * width ≤ 8 * length bytes
  pub each : EachIndex values (λ place. slice_index values place ≡ value_at width bytes place)

-- no call reads or writes more values than this
abbrev pub most_values : ℕ
most_values = 2 ^ 26

-- What unpacking gives: so many values, which the bytes begin with.
pub record Unpacks (width : ℕ) (bytes : List ℕ) (count : ℕ) (values : List ℕ) : Type 0 where
  pub narrow : width ≤ 32
  pub few : count ≤ most_values
  pub all : length values ≡ count
  pub packed : Packed width bytes values

-- What packing gives: the fewest bytes that hold the values, with zeros for the bits behind the last value.
pub record Packs (width : ℕ) (values bytes : List ℕ) : Type 0 where
  pub packed : Packed width bytes values
  pub fewest : length bytes ≡ (length values * width + 7) / 8
  pub padded : number_of (drop (length values * width) (bit_list bytes)) ≡ 0

-- the new bytes are the old ones, and behind them the packed values
abbrev pub AppendsPacked : ℕ → List ℕ → List ℕ → List ℕ → Type 0
AppendsPacked width values old new = (packed : List ℕ) × Packs width values packed × (new ≡ old ++ packed)

-- why values can't be packed: the width is above 32, or their number is allowed and one of them needs more bits
abbrev pub IsTooWide : ℕ → List ℕ → Type 0
IsTooWide width values = (32 < width) ⊎ ((length values ≤ most_values) × SomeIndex values (λ place. 2 ^ width ≤ slice_index values place))
