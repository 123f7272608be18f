-- Reading the hybrid of runs and bit-packed stretches as a function (Encodings.md, "Run Length Encoding / Bit-Packing
-- Hybrid", RLE = 3). What it gives is what bit_pack's relation `Reads` holds of.
use Rattle.std.specs.Prelude.{ℕ, zero, suc, ◌+◌, ◌-◌, ◌*◌, ◌/◌, ◌%◌, ◌^◌, ◌==◌, nat_lt, nat_le, ◌&&◌, if◌then◌else◌, List, [], ◌∷◌, ◌++◌, length, take, drop, replicate, Option, Some, None, option_map}
use Rattle.bit_pack.specs.Bits.{value_at, most_values}
use Rattle.bit_pack.specs.Numbers.{number_in}
use Rattle.bit_pack.specs.Hybrid.{byte_width}
use Rattle.row_base.specs.Readings.{◌>>=◌}

-- so many values of a width, from a place on
unfoldable pub values_from : ℕ → List ℕ → ℕ → ℕ → List ℕ
values_from width bytes place zero = []
values_from width bytes place (suc count) = value_at width bytes place ∷ values_from width bytes (suc place) count

-- so many bit-packed values, where the bytes hold them
unfoldable pub unpacked : ℕ → ℕ → List ℕ → Option (List ℕ)
unpacked width count bytes =
    if nat_le (count * width) (8 * length bytes) then Some (values_from width bytes 0 count) else None

-- a header in at most so many bytes: its length, and its number
unfoldable pub header_in : ℕ → List ℕ → Option (ℕ × ℕ)
header_in zero bytes = None
header_in (suc most) [] = None
header_in (suc most) (byte ∷ bytes) =
    if nat_lt byte 128 then Some (1, byte)
    else option_map (λ h. (h.0 + 1, byte % 128 + 128 * h.1)) (header_in most bytes)

-- a run behind its header: the length of the piece, and its values
unfoldable pub run_in : ℕ → ℕ → ℕ → List ℕ → Option (ℕ × List ℕ)
run_in width copies len bytes =
    let value = number_in (take (byte_width width) (drop len bytes)) in
    if nat_le copies most_values && nat_le (len + byte_width width) (length bytes) && nat_lt value (2 ^ width)
    then Some (len + byte_width width, replicate copies value) else None

-- a stretch behind its header
unfoldable pub stretch_in : ℕ → ℕ → ℕ → List ℕ → Option (ℕ × List ℕ)
stretch_in width groups len bytes =
    if nat_le (8 * groups) most_values && nat_le (len + groups * width) (length bytes)
    then Some (len + groups * width, values_from width (drop len bytes) 0 (8 * groups)) else None

-- the piece at the front
unfoldable pub piece_in : ℕ → List ℕ → Option (ℕ × List ℕ)
piece_in width bytes = header_in 5 bytes >>= λ h.
    if h.1 % 2 == 0 then run_in width (h.1 / 2) h.0 bytes else stretch_in width (h.1 / 2) h.0 bytes

-- so many values from at most so many pieces; values past the count are ignored
unfoldable pub pieces_in : ℕ → ℕ → List ℕ → ℕ → Option (List ℕ)
pieces_in zero width bytes count = if count == 0 then Some [] else None
pieces_in (suc most) width bytes count =
    if count == 0 then Some []
    else (piece_in width bytes >>= λ p.
    option_map (λ vs. take count (p.1 ++ vs)) (pieces_in most width (drop p.0 bytes) (count - length p.1)))

-- so many values of a width, where the bytes hold them; each piece has a byte at least
unfoldable pub hybrid_values : ℕ → List ℕ → ℕ → Option (List ℕ)
hybrid_values width bytes count =
    if nat_le width 32 && nat_le count most_values then pieces_in (length bytes) width bytes count else None
