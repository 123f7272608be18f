-- Varints and zigzag numbers (Thrift compact protocol, "Integer encoding").
use Rattle.std.specs.Prelude.{if◌then◌else◌, Option, Some, None, ℕ, zero, suc, ◌+◌, ◌*◌, ◌/◌, ◌%◌, ◌==◌, nat_lt, List, [], ◌∷◌, ℤ, pos, negsuc}

-- what the front of some bytes is, read as a varint: a number of so many bytes, or bytes that end inside it, or too many
pub data Varint : Type 0 where
  number : (value len : ℕ) → Varint
  ends : Varint
  long : Varint

-- the number and how many bytes it takes, where the bytes begin with one
abbrev pub found_in : Varint → Option (ℕ × ℕ)
found_in (number value len) = Some (value, len)
found_in ends = None
found_in long = None

-- the low seven bits of a byte, and above them what the varint behind it stands for
unfoldable pub continued : ℕ → Varint → Varint
continued byte (number value len) = number (byte % 128 + 128 * value) (suc len)
continued byte ends = ends
continued byte long = long

-- The varint at the front, of at most so many bytes: a byte below 128 is the last one, any other goes on.
unfoldable pub varint : ℕ → List ℕ → Varint
varint zero bytes = long
varint (suc most) [] = ends
varint (suc most) (byte ∷ bytes) = if nat_lt byte 128 then number byte 1 else continued byte (varint most bytes)

-- the number that a zigzag varint stands for: 0, -1, 1, -2, 2 and so on
abbrev pub unzigzag : ℕ → ℤ
unzigzag n = if n % 2 == 0 then pos (n / 2) else negsuc (n / 2)

-- the varint that stands for a number
abbrev pub zigzag : ℤ → ℕ
zigzag (pos n) = 2 * n
zigzag (negsuc n) = 2 * n + 1
