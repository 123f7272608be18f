-- The first fault in a value that is passed over, with its place: what comes before it stands, and it does not.
use Rattle.std.specs.Prelude.{◌≡◌, ◌≢◌, ◌⊎◌, ◌↔◌, ℕ, zero, suc, ◌+◌, ◌/◌, ◌%◌, ◌<◌, ◌≤◌, Bool, true, false, List, [], ◌∷◌, length, ℤ, pos, Err}
use Rattle.thrift_compact.specs.declared.fault.ThriftFault.{ThriftFault}
use Rattle.thrift_compact.specs.declared.fault.ThriftFault.TheVariants as faults
use Rattle.thrift_compact.specs.declared.wire.Wire.{Wire}
use Rattle.thrift_compact.specs.declared.wire.Wire.TheVariants as wires
use Rattle.thrift_compact.specs.declared.wire.Field.TheVariants as fields
use Rattle.thrift_compact.specs.declared.wire.ListHead.{ListHead}
use Rattle.thrift_compact.specs.Skipped.{is_container, skipped_at}
use Rattle.thrift_compact.specs.Writing.{code_of}
use Rattle.thrift_compact.specs.Spelled.{SpellsSize, SpellsList, SpellsField, SpellsEach, SpellsPair, SpellsValue}
use Rattle.thrift_compact.specs.Laws.{Stands, NumberFault, SizeFault, BinaryFault, ListFault, FieldFault, IsUnknown}

-- the bytes end before so many
abbrev pub CutFault : List ℕ → ℕ → ℕ → ThriftFault → Type 0
CutFault bytes count at fault = (length bytes < at + count) × (fault ≡ faults.Short (length bytes))

-- No value of a type that holds no others stands at a place. A boolean in a field takes no byte, so nothing is wrong with it.
abbrev pub PlainFault : List ℕ → Bool → Wire → ℕ → ThriftFault → Type 0
PlainFault bytes element wires.True at fault = (element ≡ true) × CutFault bytes 1 at fault
PlainFault bytes element wires.False at fault = (element ≡ true) × CutFault bytes 1 at fault
PlainFault bytes element wires.Byte at fault = CutFault bytes 1 at fault
PlainFault bytes element wires.I16 at fault = NumberFault bytes at fault
PlainFault bytes element wires.I32 at fault = NumberFault bytes at fault
PlainFault bytes element wires.I64 at fault = NumberFault bytes at fault
PlainFault bytes element wires.Double at fault = CutFault bytes 8 at fault
PlainFault bytes element wires.Binary at fault = BinaryFault bytes at fault
PlainFault bytes element wires.List at fault = ⊥
PlainFault bytes element wires.Set at fault = ⊥
PlainFault bytes element wires.Map at fault = ⊥
PlainFault bytes element wires.Struct at fault = ⊥

-- Of so many values one behind the other, some stand, and there is a fault in the one behind them.
pub record EachFault (bytes : List ℕ) (spells : List ℕ → Type 0) (fails : ℕ → ThriftFault → Type 0) (count at : ℕ) (fault : ThriftFault) : Type 0 where
  pub before : ℕ
  pub front : List ℕ
  pub from : ℕ
  pub fewer : before < count
  pub spelled : SpellsEach spells before front
  pub stands : Stands bytes at front from
  pub fails_there : fails from fault

-- a list or set: no header stands, or there is a fault in an element
pub data ElementsFault (bytes : List ℕ) (spells : Wire → List ℕ → Type 0) (fails : Wire → ℕ → ThriftFault → Type 0) (at : ℕ) (fault : ThriftFault) : Type 0 where
  head_fault : ListFault bytes at fault → ElementsFault bytes spells fails at fault
  element_fault : (head : ListHead) (front : List ℕ) (from : ℕ) → SpellsList head front → Stands bytes at front from
      → EachFault bytes (spells head.wire) (fails head.wire) head.count from fault → ElementsFault bytes spells fails at fault

-- a key and its value: a fault in the key, or in the value behind it
pub data PairFault (bytes : List ℕ) (key : List ℕ → Type 0) (key_fails value_fails : ℕ → ThriftFault → Type 0) (at : ℕ) (fault : ThriftFault) : Type 0 where
  key_fault : key_fails at fault → PairFault bytes key key_fails value_fails at fault
  value_fault : (front : List ℕ) (from : ℕ) → key front → Stands bytes at front from → value_fails from fault
      → PairFault bytes key key_fails value_fails at fault

-- what follows the size of a map that has pairs: no byte, or one with an unknown type, or there is a fault in a pair
pub data PairsFault (bytes : List ℕ) (spells : Wire → List ℕ → Type 0) (fails : Wire → ℕ → ThriftFault → Type 0) (count at : ℕ) : ThriftFault → Type 0 where
  no_types : at ≡ length bytes → PairsFault bytes spells fails count at (faults.Short (length bytes))
  unknown_types : (types from : ℕ) → Stands bytes at (types ∷ []) from → IsUnknown (types / 16) ⊎ IsUnknown (types % 16)
      → PairsFault bytes spells fails count at (faults.Wire at)
  pair_fault : {fault : ThriftFault} (types from : ℕ) (key value : Wire) → Stands bytes at (types ∷ []) from → types / 16 ≡ code_of key → types % 16 ≡ code_of value
      → EachFault bytes (SpellsPair (spells key) (spells value)) (PairFault bytes (spells key) (fails key) (fails value)) count from fault
      → PairsFault bytes spells fails count at fault

-- a map: no size stands, or there is a fault in what follows it
pub data MapFault (bytes : List ℕ) (spells : Wire → List ℕ → Type 0) (fails : Wire → ℕ → ThriftFault → Type 0) (at : ℕ) (fault : ThriftFault) : Type 0 where
  size_fault : SizeFault bytes at fault → MapFault bytes spells fails at fault
  pairs_fault : (count : ℕ) (size : List ℕ) (from : ℕ) → count ≢ 0 → SpellsSize size count → Stands bytes at size from
      → PairsFault bytes spells fails count from fault → MapFault bytes spells fails at fault

-- a struct behind a field of the id `last`: no header of a field stands, or there is a fault in its value, or behind it
pub data FieldsFault (bytes : List ℕ) (spells : Wire → List ℕ → Type 0) (fails : Wire → ℕ → ThriftFault → Type 0) (fault : ThriftFault) : ℤ → ℕ → Type 0 where
  header_fault : {last : ℤ} {at : ℕ} → FieldFault bytes last at fault → FieldsFault bytes spells fails fault last at
  inner_fault : {last : ℤ} {at : ℕ} (id : ℤ) (wire : Wire) (head : List ℕ) (from : ℕ) → SpellsField last head (fields.Next id wire) → Stands bytes at head from
      → fails wire from fault → FieldsFault bytes spells fails fault last at
  later_fault : {last : ℤ} {at : ℕ} (id : ℤ) (wire : Wire) (head inner : List ℕ) (from to : ℕ) → SpellsField last head (fields.Next id wire) → Stands bytes at head from
      → spells wire inner → Stands bytes from inner to → FieldsFault bytes spells fails fault id to → FieldsFault bytes spells fails fault last at

-- no value that holds others stands at a place
abbrev pub ContainerFault : List ℕ → (Bool → Wire → List ℕ → Type 0) → (Bool → Wire → ℕ → ThriftFault → Type 0) → Wire → ℕ → ThriftFault → Type 0
ContainerFault bytes spells fails wires.True at fault = ⊥
ContainerFault bytes spells fails wires.False at fault = ⊥
ContainerFault bytes spells fails wires.Byte at fault = ⊥
ContainerFault bytes spells fails wires.I16 at fault = ⊥
ContainerFault bytes spells fails wires.I32 at fault = ⊥
ContainerFault bytes spells fails wires.I64 at fault = ⊥
ContainerFault bytes spells fails wires.Double at fault = ⊥
ContainerFault bytes spells fails wires.Binary at fault = ⊥
ContainerFault bytes spells fails wires.List at fault = ElementsFault bytes (spells true) (fails true) at fault
ContainerFault bytes spells fails wires.Set at fault = ElementsFault bytes (spells true) (fails true) at fault
ContainerFault bytes spells fails wires.Map at fault = MapFault bytes (spells true) (fails true) at fault
ContainerFault bytes spells fails wires.Struct at fault = FieldsFault bytes (spells false) (fails false) fault (pos 0) at

-- No value of a type stands at a place in which at most so many containers stand inside one another: a container where none
-- may be open is too deep, at its own place.
unfoldable pub ValueFault : ℕ → List ℕ → Bool → Wire → ℕ → ThriftFault → Type 0
ValueFault zero bytes element wire at fault = PlainFault bytes element wire at fault ⊎ ((is_container wire ≡ true) × (fault ≡ faults.Deep at))
ValueFault (suc levels) bytes element wire at fault =
    PlainFault bytes element wire at fault ⊎ ContainerFault bytes (SpellsValue levels) (ValueFault levels bytes) wire at fault

-- sixteen containers may stand inside one another
abbrev pub SkippingFailsExactly : Type 0
SkippingFailsExactly = (bytes : List ℕ) (wire : Wire) (at : ℕ) (fault : ThriftFault) → at ≤ length bytes
    → (skipped_at bytes wire at ≡ Err fault) ↔ ValueFault 16 bytes false wire at fault
