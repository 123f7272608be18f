-- Bytes as one number, which the private functions speak of.
use Rattle.std.specs.Prelude.{ℕ, zero, suc, ◌+◌, ◌*◌, ◌/◌, ◌%◌, ◌^◌, List, [], ◌∷◌}

-- the little-endian number of bytes, of any length
unfoldable pub number_in : List ℕ → ℕ
number_in [] = 0
number_in (byte ∷ bytes) = byte + 256 * number_in bytes

-- `count` fields of `width` bits of a number, from the field `place` on
unfoldable pub fields : ℕ → ℕ → ℕ → ℕ → List ℕ
fields width n place zero = []
fields width n place (suc count) = n / 2 ^ (place * width) % 2 ^ width ∷ fields width n (suc place) count

-- the number of a list of fields of `width` bits, the first field lowest
unfoldable pub packed_number : ℕ → List ℕ → ℕ
packed_number width [] = 0
packed_number width (value ∷ values) = value + 2 ^ width * packed_number width values

-- the lowest bytes of a number, so many, the lowest first
unfoldable pub bytes_of : ℕ → ℕ → List ℕ
bytes_of zero n = []
bytes_of (suc count) n = n % 256 ∷ bytes_of count (n / 256)
