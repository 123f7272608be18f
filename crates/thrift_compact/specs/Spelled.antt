-- Which bytes spell a value, as relations on whole texts, apart from reading and from writing (Thrift compact protocol).
use Rattle.std.specs.Prelude.{◌≡◌, ◌≢◌, ◌⊎◌, ℕ, zero, suc, ◌+◌, ◌*◌, ◌/◌, ◌%◌, ◌^◌, ◌<◌, ◌≤◌, Bool, true, false, List, [], ◌∷◌, ◌++◌, length, ℤ, pos, ◌+ℤ◌}
use Rattle.thrift_compact.specs.declared.wire.Wire.{Wire}
use Rattle.thrift_compact.specs.declared.wire.Wire.TheVariants as wires
use Rattle.thrift_compact.specs.declared.wire.Field.{Field}
use Rattle.thrift_compact.specs.declared.wire.Field.TheVariants as fields
use Rattle.thrift_compact.specs.declared.wire.ListHead.{ListHead}
use Rattle.thrift_compact.specs.Varints.{zigzag}
use Rattle.thrift_compact.specs.Values.{fits_16}
use Rattle.thrift_compact.specs.Writing.{code_of}

-- "Integer encoding", ULEB128: a byte below 128 is the last, and stands for itself; one from 128 on has the low seven bits
-- of the number, and the bytes behind it stand for the higher ones.
unfoldable pub IsVarint : List ℕ → ℕ → Type 0
IsVarint [] number = ⊥
IsVarint (byte ∷ bytes) number =
    ((byte < 128) × (bytes ≡ []) × (number ≡ byte))
    ⊎ ((128 ≤ byte) × (high : ℕ) × (number ≡ byte % 128 + 128 * high) × IsVarint bytes high)

-- a varint of at most ten bytes and 64 bits
pub record SpellsVarint (text : List ℕ) (number : ℕ) : Type 0 where
  pub varint : IsVarint text number
  pub few : length text ≤ 10
  pub narrow : number < 2 ^ 64

-- "Integer encoding": a signed number is the varint of its zigzag number
abbrev pub SpellsNumber : List ℕ → ℤ → Type 0
SpellsNumber text number = SpellsVarint text (zigzag number)

-- a length or a size is a varint of 32 bits
pub record SpellsSize (text : List ℕ) (size : ℕ) : Type 0 where
  pub varint : SpellsVarint text size
  pub narrow : size < 2 ^ 32

-- "Binary encoding": a length, and so many bytes
pub record SpellsBinary (text : List ℕ) (bytes : List ℕ) : Type 0 where
  pub size : List ℕ
  pub counted : SpellsSize size (length bytes)
  pub all : text ≡ size ++ bytes

-- "List and Set": the low four bits of the first byte are the elements' type, and the high four their number, up to 14; 15
-- there says that the number follows.
pub data SpellsList (head : ListHead) : List ℕ → Type 0 where
  short : (byte : ℕ) → byte % 16 ≡ code_of head.wire → byte / 16 ≡ head.count → head.count ≢ 15 → SpellsList head (byte ∷ [])
  long : (byte : ℕ) (size : List ℕ) → byte % 16 ≡ code_of head.wire → byte / 16 ≡ 15 → SpellsSize size head.count → SpellsList head (byte ∷ size)

-- "Struct": the header of a field behind a field of the id `last`. The low four bits of the first byte are the value's
-- type; the high four are what is added to `last`, or 0 where the id follows. An id has 16 bits.
pub data SpellsNext (last id : ℤ) (wire : Wire) : List ℕ → Type 0 where
  short : (byte : ℕ) → byte % 16 ≡ code_of wire → 16 ≤ byte → id ≡ last +ℤ pos (byte / 16) → SpellsNext last id wire (byte ∷ [])
  long : (byte : ℕ) (number : List ℕ) → byte ≡ code_of wire → SpellsNumber number id → SpellsNext last id wire (byte ∷ number)

-- a stop, or the header of a field with its id and wire type
abbrev pub SpellsField : ℤ → List ℕ → Field → Type 0
SpellsField last text fields.Stop = text ≡ 0 ∷ []
SpellsField last text (fields.Next id wire) = SpellsNext last id wire text × (fits_16 id ≡ true)

-- "Boolean encoding": a boolean is in its field's header; as an element it is one byte
abbrev pub SpellsBoolean : Bool → List ℕ → Type 0
SpellsBoolean true text = length text ≡ 1
SpellsBoolean false text = text ≡ []

-- a value of a type that holds no others, as an element or in a field
abbrev pub SpellsPlain : Bool → Wire → List ℕ → Type 0
SpellsPlain element wires.True text = SpellsBoolean element text
SpellsPlain element wires.False text = SpellsBoolean element text
SpellsPlain element wires.Byte text = length text ≡ 1
SpellsPlain element wires.I16 text = (number : ℕ) × SpellsVarint text number
SpellsPlain element wires.I32 text = (number : ℕ) × SpellsVarint text number
SpellsPlain element wires.I64 text = (number : ℕ) × SpellsVarint text number
SpellsPlain element wires.Double text = length text ≡ 8
SpellsPlain element wires.Binary text = (bytes : List ℕ) × SpellsBinary text bytes
SpellsPlain element wires.List text = ⊥
SpellsPlain element wires.Set text = ⊥
SpellsPlain element wires.Map text = ⊥
SpellsPlain element wires.Struct text = ⊥

-- so many values, one behind the other
unfoldable pub SpellsEach : (List ℕ → Type 0) → ℕ → List ℕ → Type 0
SpellsEach one zero text = text ≡ []
SpellsEach one (suc count) text = (first : List ℕ) × (others : List ℕ) × one first × SpellsEach one count others × (text ≡ first ++ others)

-- "List and Set": the header and the elements
pub record SpellsElements (element : Wire → List ℕ → Type 0) (text : List ℕ) : Type 0 where
  pub head : ListHead
  pub front : List ℕ
  pub rest : List ℕ
  pub headed : SpellsList head front
  pub each : SpellsEach (element head.wire) head.count rest
  pub all : text ≡ front ++ rest

-- a key and its value
abbrev pub SpellsPair : (List ℕ → Type 0) → (List ℕ → Type 0) → List ℕ → Type 0
SpellsPair key value text = (first : List ℕ) × (second : List ℕ) × key first × value second × (text ≡ first ++ second)

-- "Map": the size, one byte with the keys' type in its high four bits and the values' type in the low four, and the
-- pairs; a map of no pairs is its size alone.
pub data SpellsMap (element : Wire → List ℕ → Type 0) (text : List ℕ) : Type 0 where
  empty : SpellsSize text 0 → SpellsMap element text
  some : (count : ℕ) (size : List ℕ) (types : ℕ) (key value : Wire) (pairs : List ℕ) → count ≢ 0 → SpellsSize size count
      → types / 16 ≡ code_of key → types % 16 ≡ code_of value → SpellsEach (SpellsPair (element key) (element value)) count pairs
      → text ≡ size ++ types ∷ pairs → SpellsMap element text

-- "Struct": fields, each behind the one before it, and a stop
pub data SpellsFields (value : Wire → List ℕ → Type 0) : ℤ → List ℕ → Type 0 where
  stop : {last : ℤ} {text : List ℕ} → SpellsField last text fields.Stop → SpellsFields value last text
  next : {last : ℤ} {text : List ℕ} (id : ℤ) (wire : Wire) (head inner others : List ℕ) → SpellsField last head (fields.Next id wire)
      → value wire inner → SpellsFields value id others → text ≡ head ++ (inner ++ others) → SpellsFields value last text

-- a value that holds others
abbrev pub SpellsContainer : (Bool → Wire → List ℕ → Type 0) → Wire → List ℕ → Type 0
SpellsContainer inner wires.True text = ⊥
SpellsContainer inner wires.False text = ⊥
SpellsContainer inner wires.Byte text = ⊥
SpellsContainer inner wires.I16 text = ⊥
SpellsContainer inner wires.I32 text = ⊥
SpellsContainer inner wires.I64 text = ⊥
SpellsContainer inner wires.Double text = ⊥
SpellsContainer inner wires.Binary text = ⊥
SpellsContainer inner wires.List text = SpellsElements (inner true) text
SpellsContainer inner wires.Set text = SpellsElements (inner true) text
SpellsContainer inner wires.Map text = SpellsMap (inner true) text
SpellsContainer inner wires.Struct text = SpellsFields (inner false) (pos 0) text

-- a value of a type, as an element or in a field, in which at most so many containers stand inside one another
unfoldable pub SpellsValue : ℕ → Bool → Wire → List ℕ → Type 0
SpellsValue zero element wire text = SpellsPlain element wire text
SpellsValue (suc levels) element wire text = SpellsPlain element wire text ⊎ SpellsContainer (SpellsValue levels) wire text
