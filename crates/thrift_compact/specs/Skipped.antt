-- Where a value that is skipped ends, or the first fault in it (Thrift compact protocol, "Struct", "List and set", "Map").
use Rattle.std.specs.Prelude.{if◌then◌else◌, ℕ, zero, suc, ◌/◌, ◌%◌, ◌==◌, Bool, true, false, List, length, ℤ, pos, Result, Ok, Err}
use Rattle.thrift_compact.specs.declared.fault.ThriftFault.{ThriftFault}
use Rattle.thrift_compact.specs.declared.fault.ThriftFault.TheVariants as faults
use Rattle.thrift_compact.specs.declared.wire.Wire.{Wire}
use Rattle.thrift_compact.specs.declared.wire.Wire.TheVariants as wires
use Rattle.thrift_compact.specs.declared.wire.Field.{Field}
use Rattle.thrift_compact.specs.declared.wire.Field.TheVariants as fields
use Rattle.row_base.specs.Faults.{◌>>=◌}
use Rattle.thrift_compact.specs.Values.{varint_at, size_at, binary_at, byte_at, behind, wire_of, known, field_at, list_at}

-- so many values one behind the other
unfoldable pub each_end : (ℕ → Result ℕ ThriftFault) → ℕ → ℕ → Result ℕ ThriftFault
each_end one zero at = Ok at
each_end one (suc count) at = one at >>= each_end one count

-- what follows a field header: nothing behind a stop, else the field's value and then more fields
abbrev pub field_end : (Wire → ℕ → Result ℕ ThriftFault) → (ℤ → ℕ → Result ℕ ThriftFault) → Field → ℕ → Result ℕ ThriftFault
field_end value others fields.Stop at = Ok at
field_end value others (fields.Next id wire) at = value wire at >>= others id

-- the fields of a struct and its stop; each takes a byte at least, so a bound above the bytes that are left is none
unfoldable pub fields_end : (Wire → ℕ → Result ℕ ThriftFault) → List ℕ → ℕ → ℤ → ℕ → Result ℕ ThriftFault
fields_end value bytes zero last at = Err (faults.Short (length bytes))
fields_end value bytes (suc most) last at = field_at bytes last at >>= λ field. field_end value (fields_end value bytes most) field.0 field.1

-- what holds other values
abbrev pub is_container : Wire → Bool
is_container wires.True = false
is_container wires.False = false
is_container wires.Byte = false
is_container wires.I16 = false
is_container wires.I32 = false
is_container wires.I64 = false
is_container wires.Double = false
is_container wires.Binary = false
is_container wires.List = true
is_container wires.Set = true
is_container wires.Map = true
is_container wires.Struct = true

-- A value that holds no others. A boolean is in its field's header, and takes a byte where it is an element.
abbrev pub plain_end : List ℕ → Bool → Wire → ℕ → Result ℕ ThriftFault
plain_end bytes element wires.True at = if element then behind bytes at 1 else Ok at
plain_end bytes element wires.False at = if element then behind bytes at 1 else Ok at
plain_end bytes element wires.Byte at = behind bytes at 1
plain_end bytes element wires.I16 at = varint_at bytes at >>= λ n. Ok n.1
plain_end bytes element wires.I32 at = varint_at bytes at >>= λ n. Ok n.1
plain_end bytes element wires.I64 at = varint_at bytes at >>= λ n. Ok n.1
plain_end bytes element wires.Double at = behind bytes at 8
plain_end bytes element wires.Binary at = binary_at bytes at >>= λ n. Ok n.1
plain_end bytes element wires.List at = Ok at
plain_end bytes element wires.Set at = Ok at
plain_end bytes element wires.Map at = Ok at
plain_end bytes element wires.Struct at = Ok at

-- the elements of a list or set, behind its header
abbrev pub list_end : (Wire → ℕ → Result ℕ ThriftFault) → List ℕ → ℕ → Result ℕ ThriftFault
list_end element bytes at = list_at bytes at >>= λ head. each_end (element head.0.wire) head.0.count head.1

-- A map: its size and, unless that is 0, one byte with both wire types, and the pairs.
abbrev pub pairs_end : (Wire → ℕ → Result ℕ ThriftFault) → List ℕ → ℕ → ℕ → Result ℕ ThriftFault
pairs_end element bytes size at = byte_at bytes at >>= λ types.
    known (wire_of (types.0 / 16)) at >>= λ key. known (wire_of (types.0 % 16)) at >>= λ value.
    each_end (λ from. element key from >>= element value) size types.1

-- the pairs of a map behind its size; a map of no pairs is its size alone
abbrev pub map_end : (Wire → ℕ → Result ℕ ThriftFault) → List ℕ → ℕ → Result ℕ ThriftFault
map_end element bytes at = size_at bytes at >>= λ size. if size.0 == 0 then Ok size.1 else pairs_end element bytes size.0 size.1

-- a value that holds others, which are read by a function of their own
abbrev pub container_end : (Bool → Wire → ℕ → Result ℕ ThriftFault) → List ℕ → Wire → ℕ → Result ℕ ThriftFault
container_end inner bytes wires.Struct at = fields_end (inner false) bytes (suc (length bytes)) (pos 0) at
container_end inner bytes wires.Map at = map_end (inner true) bytes at
container_end inner bytes wires.True at = list_end (inner true) bytes at
container_end inner bytes wires.False at = list_end (inner true) bytes at
container_end inner bytes wires.Byte at = list_end (inner true) bytes at
container_end inner bytes wires.I16 at = list_end (inner true) bytes at
container_end inner bytes wires.I32 at = list_end (inner true) bytes at
container_end inner bytes wires.I64 at = list_end (inner true) bytes at
container_end inner bytes wires.Double at = list_end (inner true) bytes at
container_end inner bytes wires.Binary at = list_end (inner true) bytes at
container_end inner bytes wires.List at = list_end (inner true) bytes at
container_end inner bytes wires.Set at = list_end (inner true) bytes at

-- A value in which so many containers may be open at once, itself among them.
unfoldable pub value_end : ℕ → List ℕ → Bool → Wire → ℕ → Result ℕ ThriftFault
value_end zero bytes element wire at = if is_container wire then Err (faults.Deep at) else plain_end bytes element wire at
value_end (suc levels) bytes element wire at =
    if is_container wire then container_end (value_end levels bytes) bytes wire at else plain_end bytes element wire at

-- what skipping gives: nothing, and the place behind the value; sixteen containers may be open at once
abbrev pub skipped_at : List ℕ → Wire → ℕ → Result (Unit {0} × ℕ) ThriftFault
skipped_at bytes wire at = value_end 16 bytes false wire at >>= λ end. Ok (tt, end)
