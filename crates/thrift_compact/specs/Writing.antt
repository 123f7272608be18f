-- What is written (Thrift compact protocol).
use Rattle.std.specs.Prelude.{if◌then◌else◌, ℕ, zero, suc, ◌+◌, ◌*◌, ◌/◌, ◌%◌, nat_lt, ◌&&◌, List, [], ◌∷◌, ◌++◌, length, ℤ, pos, negsuc, ◌-ℤ◌}
use Rattle.thrift_compact.specs.declared.wire.Wire.{Wire}
use Rattle.thrift_compact.specs.declared.wire.Wire.TheVariants as wires
use Rattle.thrift_compact.specs.Varints.{zigzag}

-- the number of a wire type
abbrev pub code_of : Wire → ℕ
code_of wires.True = 1
code_of wires.False = 2
code_of wires.Byte = 3
code_of wires.I16 = 4
code_of wires.I32 = 5
code_of wires.I64 = 6
code_of wires.Double = 7
code_of wires.Binary = 8
code_of wires.List = 9
code_of wires.Set = 10
code_of wires.Map = 11
code_of wires.Struct = 12

-- the shortest varint of a number, in at most so many bytes
unfoldable pub varint_of : ℕ → ℕ → List ℕ
varint_of zero number = []
varint_of (suc most) number = if nat_lt number 128 then number ∷ [] else (number % 128 + 128) ∷ varint_of most (number / 128)

-- a varint of 64 bits
abbrev pub varint_bytes : ℕ → List ℕ
varint_bytes number = varint_of 10 number

-- a signed number, as a zigzag varint
abbrev pub number_bytes : ℤ → List ℕ
number_bytes number = varint_bytes (zigzag number)

-- a length, and so many bytes
abbrev pub binary_bytes : List ℕ → List ℕ
binary_bytes bytes = varint_bytes (length bytes) ++ bytes

-- the header of a list: a number of elements below 15 stands in the high four bits
abbrev pub list_bytes : Wire → ℕ → List ℕ
list_bytes wire count =
    if nat_lt count 15 then (16 * count + code_of wire) ∷ [] else (240 + code_of wire) ∷ varint_bytes count

-- the header of a field: an id that is 1 to 15 above the last one stands in the high four bits, as the difference
abbrev pub delta_bytes : ℤ → ℤ → Wire → List ℕ
delta_bytes (pos delta) id wire = if nat_lt 0 delta && nat_lt delta 16 then (16 * delta + code_of wire) ∷ [] else code_of wire ∷ number_bytes id
delta_bytes (negsuc delta) id wire = code_of wire ∷ number_bytes id

-- the header of a field behind one of the id `last`
abbrev pub field_bytes : ℤ → ℤ → Wire → List ℕ
field_bytes last id wire = delta_bytes (id -ℤ last) id wire
