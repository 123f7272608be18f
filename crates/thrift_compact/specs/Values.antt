-- What the bytes from a place on read as: a value and the place behind it, or the first fault with its place (Thrift
-- compact protocol, "Field header", "List and set", "Map", "Binary", "Struct").
use Rattle.std.specs.Prelude.{ℕ, ◌+◌, ◌/◌, ◌%◌, ◌^◌, ◌==◌, nat_lt, Bool, List, length, take, drop, slice_index, ℤ, pos, negsuc, ◌+ℤ◌, Result, Ok, Err, Option, Some, None, if◌then◌else◌}
use Rattle.thrift_compact.specs.declared.fault.ThriftFault.{ThriftFault}
use Rattle.thrift_compact.specs.declared.fault.ThriftFault.TheVariants as faults
use Rattle.thrift_compact.specs.declared.wire.Wire.{Wire}
use Rattle.thrift_compact.specs.declared.wire.Wire.TheVariants as wires
use Rattle.thrift_compact.specs.declared.wire.Field.{Field}
use Rattle.thrift_compact.specs.declared.wire.Field.TheVariants as fields
use Rattle.thrift_compact.specs.declared.wire.ListHead.{ListHead}
use Rattle.thrift_compact.specs.Varints.{Varint, number, ends, long, varint, unzigzag}
use Rattle.row_base.specs.Faults.{◌>>=◌}

-- a varint of at most ten bytes and 64 bits
abbrev pub varint_here : List ℕ → ℕ → Varint → Result (ℕ × ℕ) ThriftFault
varint_here bytes at (number value len) = if nat_lt value (2 ^ 64) then Ok (value, at + len) else Err (faults.Long at)
varint_here bytes at ends = Err (faults.Short (length bytes))
varint_here bytes at long = Err (faults.Long at)

-- the varint at a place
unfoldable pub varint_at : List ℕ → ℕ → Result (ℕ × ℕ) ThriftFault
varint_at bytes at = varint_here bytes at (varint 10 (drop at bytes))

-- a signed number is a zigzag varint
unfoldable pub number_at : List ℕ → ℕ → Result (ℤ × ℕ) ThriftFault
number_at bytes at = varint_at bytes at >>= λ n. Ok (unzigzag n.0, n.1)

-- a length or a size is a plain varint of 32 bits
unfoldable pub size_at : List ℕ → ℕ → Result (ℕ × ℕ) ThriftFault
size_at bytes at = varint_at bytes at >>= λ n. if nat_lt n.0 (2 ^ 32) then Ok n else Err (faults.Long at)

-- the place behind so many bytes
abbrev pub behind : List ℕ → ℕ → ℕ → Result ℕ ThriftFault
behind bytes at count = if nat_lt (length bytes) (at + count) then Err (faults.Short (length bytes)) else Ok (at + count)

-- a length, and so many bytes
unfoldable pub binary_at : List ℕ → ℕ → Result (List ℕ × ℕ) ThriftFault
binary_at bytes at = size_at bytes at >>= λ n. behind bytes n.1 n.0 >>= λ end. Ok (take n.0 (drop n.1 bytes), end)

-- one byte
unfoldable pub byte_at : List ℕ → ℕ → Result (ℕ × ℕ) ThriftFault
byte_at bytes at = behind bytes at 1 >>= λ end. Ok (slice_index bytes at, end)

-- the wire types by their numbers, from 1 on
abbrev pub wire_of : ℕ → Option Wire
wire_of code =
    if code == 1 then Some wires.True else if code == 2 then Some wires.False else if code == 3 then Some wires.Byte
    else if code == 4 then Some wires.I16 else if code == 5 then Some wires.I32 else if code == 6 then Some wires.I64
    else if code == 7 then Some wires.Double else if code == 8 then Some wires.Binary else if code == 9 then Some wires.List
    else if code == 10 then Some wires.Set else if code == 11 then Some wires.Map else if code == 12 then Some wires.Struct
    else None

-- a wire type that is held by the byte at a place
abbrev pub known : Option Wire → ℕ → Result Wire ThriftFault
known (Some wire) at = Ok wire
known None at = Err (faults.Wire at)

-- a number of 16 bits
abbrev pub fits_16 : ℤ → Bool
fits_16 (pos n) = nat_lt n (2 ^ 15)
fits_16 (negsuc n) = nat_lt n (2 ^ 15)

-- a field of an id and a wire type, whose header stands at a place and ends at another
abbrev pub field_here : ℕ → ℤ → Wire → ℕ → Result (Field × ℕ) ThriftFault
field_here at id wire end = if fits_16 id then Ok (fields.Next id wire, end) else Err (faults.Long at)

-- A field header: 0 is stop. Else the low four bits are the wire type, and the high four what is added to the last id;
-- where they are 0 the id follows as a zigzag varint.
unfoldable pub field_at : List ℕ → ℤ → ℕ → Result (Field × ℕ) ThriftFault
field_at bytes last at = byte_at bytes at >>= λ head.
    if head.0 == 0 then Ok (fields.Stop, head.1)
    else (known (wire_of (head.0 % 16)) at >>= λ wire.
    if nat_lt head.0 16 then (number_at bytes head.1 >>= λ id. field_here at id.0 wire id.1)
    else field_here at (last +ℤ pos (head.0 / 16)) wire head.1)

-- A list or set header: the low four bits are the elements' wire type, and the high four their number; 15 says that the
-- number follows as a varint.
unfoldable pub list_at : List ℕ → ℕ → Result (ListHead × ℕ) ThriftFault
list_at bytes at = byte_at bytes at >>= λ head. known (wire_of (head.0 % 16)) at >>= λ wire.
    if head.0 / 16 == 15 then (size_at bytes head.1 >>= λ size. Ok (record { wire = wire; count = size.0 }, size.1))
    else Ok (record { wire = wire; count = head.0 / 16 }, head.1)
