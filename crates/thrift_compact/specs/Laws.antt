-- Reading gives exactly what the relations say, and what is written reads back.
use Rattle.std.specs.Prelude.{◌≡◌, ◌≢◌, ◌↔◌, ℕ, ◌+◌, ◌/◌, ◌%◌, ◌^◌, ◌<◌, ◌≤◌, false, true, List, [], ◌∷◌, ◌++◌, length, ℤ, pos, ◌+ℤ◌, Result, Ok, Err}
use Rattle.thrift_compact.specs.declared.fault.ThriftFault.{ThriftFault}
use Rattle.thrift_compact.specs.declared.fault.ThriftFault.TheVariants as faults
use Rattle.thrift_compact.specs.declared.wire.Wire.{Wire}
use Rattle.thrift_compact.specs.declared.wire.Field.TheVariants as fields
use Rattle.thrift_compact.specs.Varints.{zigzag}
use Rattle.thrift_compact.specs.Values.{number_at, binary_at, field_at, list_at, fits_16}
use Rattle.thrift_compact.specs.Skipped.{skipped_at}
use Rattle.thrift_compact.specs.Writing.{code_of, number_bytes, binary_bytes, list_bytes, field_bytes}
use Rattle.thrift_compact.specs.Spelled.{IsVarint, SpellsVarint, SpellsSize, SpellsNumber, SpellsBinary, SpellsList, SpellsField, SpellsValue}

-- a text stands in bytes from a place up to another
pub record Stands (bytes : List ℕ) (at : ℕ) (text : List ℕ) (end : ℕ) : Type 0 where
  pub front : List ℕ
  pub rest : List ℕ
  pub whole : bytes ≡ front ++ (text ++ rest)
  pub begins : length front ≡ at
  pub ends : at + length text ≡ end

-- reading from a place gives a value, and the place behind it, exactly where a text of this value stands there
abbrev pub ReadsExactly : {A : Type 0} → List ℕ → ℕ → Result (A × ℕ) ThriftFault → (List ℕ → A → Type 0) → Type 0
ReadsExactly {A} bytes at read spells =
    (value : A) (end : ℕ) → (read ≡ Ok (value, end)) ↔ ((text : List ℕ) × spells text value × Stands bytes at text end)

-- a number is read exactly where one stands
abbrev pub NumbersReadExactly : Type 0
NumbersReadExactly = (bytes : List ℕ) (at : ℕ) → at ≤ length bytes → ReadsExactly bytes at (number_at bytes at) SpellsNumber

-- bytes that all say that the number goes on
unfoldable pub GoOn : List ℕ → Type 0
GoOn [] = Unit {0}
GoOn (byte ∷ bytes) = (128 ≤ byte) × GoOn bytes

-- No number stands at a place: the bytes end inside it, or it has more than ten bytes, or more than 64 bits.
pub data NumberFault (bytes : List ℕ) (at : ℕ) : ThriftFault → Type 0 where
  cut : (text : List ℕ) → GoOn text → length text < 10 → Stands bytes at text (length bytes) → NumberFault bytes at (faults.Short (length bytes))
  many : (text : List ℕ) (end : ℕ) → GoOn text → length text ≡ 10 → Stands bytes at text end → NumberFault bytes at (faults.Long at)
  wide : (text : List ℕ) (end number : ℕ) → IsVarint text number → length text ≤ 10 → 2 ^ 64 ≤ number → Stands bytes at text end
      → NumberFault bytes at (faults.Long at)

-- reading a number fails exactly where none stands
abbrev pub NumbersFailExactly : Type 0
NumbersFailExactly = (bytes : List ℕ) (at : ℕ) (fault : ThriftFault) → at ≤ length bytes → (number_at bytes at ≡ Err fault) ↔ NumberFault bytes at fault

-- no size stands at a place: no number, or one of more than 32 bits
pub data SizeFault (bytes : List ℕ) (at : ℕ) : ThriftFault → Type 0 where
  varint : {fault : ThriftFault} → NumberFault bytes at fault → SizeFault bytes at fault
  large : (text : List ℕ) (end size : ℕ) → SpellsVarint text size → 2 ^ 32 ≤ size → Stands bytes at text end → SizeFault bytes at (faults.Long at)

-- no bytes behind their length stand at a place: no size, or the bytes end before so many
pub data BinaryFault (bytes : List ℕ) (at : ℕ) : ThriftFault → Type 0 where
  length_fault : {fault : ThriftFault} → SizeFault bytes at fault → BinaryFault bytes at fault
  content : (text : List ℕ) (from size : ℕ) → SpellsSize text size → Stands bytes at text from → length bytes < from + size
      → BinaryFault bytes at (faults.Short (length bytes))

-- no wire type has this number
abbrev pub IsUnknown : ℕ → Type 0
IsUnknown code = (wire : Wire) → code ≢ code_of wire

-- no header of a list stands at a place: nothing stands there, or the type is unknown, or the size behind it is none
pub data ListFault (bytes : List ℕ) (at : ℕ) : ThriftFault → Type 0 where
  past : at ≡ length bytes → ListFault bytes at (faults.Short (length bytes))
  unknown : (byte from : ℕ) → Stands bytes at (byte ∷ []) from → IsUnknown (byte % 16) → ListFault bytes at (faults.Wire at)
  sized : {fault : ThriftFault} (byte from : ℕ) (wire : Wire) → Stands bytes at (byte ∷ []) from → byte % 16 ≡ code_of wire → byte / 16 ≡ 15
      → SizeFault bytes from fault → ListFault bytes at fault

-- no header of a field stands at a place: nothing stands there, or the type is unknown, or the id behind it is no number,
-- or the id has more than 16 bits
pub data FieldFault (bytes : List ℕ) (last : ℤ) (at : ℕ) : ThriftFault → Type 0 where
  past : at ≡ length bytes → FieldFault bytes last at (faults.Short (length bytes))
  unknown : (byte from : ℕ) → Stands bytes at (byte ∷ []) from → byte ≢ 0 → IsUnknown (byte % 16) → FieldFault bytes last at (faults.Wire at)
  numbered : {fault : ThriftFault} (byte from : ℕ) (wire : Wire) → Stands bytes at (byte ∷ []) from → byte ≡ code_of wire
      → NumberFault bytes from fault → FieldFault bytes last at fault
  large_id : (byte from end : ℕ) (wire : Wire) (number : List ℕ) (id : ℤ) → Stands bytes at (byte ∷ []) from → byte ≡ code_of wire
      → SpellsNumber number id → Stands bytes from number end → fits_16 id ≡ false → FieldFault bytes last at (faults.Long at)
  large_sum : (byte from : ℕ) (wire : Wire) → Stands bytes at (byte ∷ []) from → byte % 16 ≡ code_of wire → 16 ≤ byte
      → fits_16 (last +ℤ pos (byte / 16)) ≡ false → FieldFault bytes last at (faults.Long at)

-- reading bytes fails exactly where none stand behind their length
abbrev pub BinariesFailExactly : Type 0
BinariesFailExactly = (bytes : List ℕ) (at : ℕ) (fault : ThriftFault) → at ≤ length bytes → (binary_at bytes at ≡ Err fault) ↔ BinaryFault bytes at fault

-- reading the header of a list fails exactly where none stands
abbrev pub ListsFailExactly : Type 0
ListsFailExactly = (bytes : List ℕ) (at : ℕ) (fault : ThriftFault) → at ≤ length bytes → (list_at bytes at ≡ Err fault) ↔ ListFault bytes at fault

-- reading the header of a field fails exactly where none stands
abbrev pub FieldsFailExactly : Type 0
FieldsFailExactly = (bytes : List ℕ) (last : ℤ) (at : ℕ) (fault : ThriftFault) → at ≤ length bytes
    → (field_at bytes last at ≡ Err fault) ↔ FieldFault bytes last at fault

-- bytes are read exactly where they stand behind their length
abbrev pub BinariesReadExactly : Type 0
BinariesReadExactly = (bytes : List ℕ) (at : ℕ) → at ≤ length bytes → ReadsExactly bytes at (binary_at bytes at) SpellsBinary

-- the header of a list is read exactly where it stands
abbrev pub ListsReadExactly : Type 0
ListsReadExactly = (bytes : List ℕ) (at : ℕ) → at ≤ length bytes → ReadsExactly bytes at (list_at bytes at) (λ text head. SpellsList head text)

-- the header of a field is read exactly where it stands
abbrev pub FieldsReadExactly : Type 0
FieldsReadExactly = (bytes : List ℕ) (last : ℤ) (at : ℕ) → at ≤ length bytes → ReadsExactly bytes at (field_at bytes last at) (SpellsField last)

-- sixteen containers may stand inside one another
abbrev pub ValuesSkipExactly : Type 0
ValuesSkipExactly = (bytes : List ℕ) (wire : Wire) (at : ℕ) → at ≤ length bytes
    → ReadsExactly bytes at (skipped_at bytes wire at) (λ text nothing. SpellsValue 16 false wire text)

-- whatever stands before and behind what is written, it reads as the value that was written
abbrev pub ReadsBack : {A : Type 0} → (List ℕ → ℕ → Result (A × ℕ) ThriftFault) → List ℕ → A → Type 0
ReadsBack read text value = (front rest : List ℕ) → read (front ++ (text ++ rest)) (length front) ≡ Ok (value, length front + length text)

-- a number of 64 bits reads back
abbrev pub NumbersReadBack : Type 0
NumbersReadBack = (number : ℤ) → zigzag number < 2 ^ 64 → ReadsBack number_at (number_bytes number) number

-- fewer than 2^32 bytes read back
abbrev pub BinariesReadBack : Type 0
BinariesReadBack = (content : List ℕ) → length content < 2 ^ 32 → ReadsBack binary_at (binary_bytes content) content

-- the header of a list of fewer than 2^32 elements reads back
abbrev pub ListsReadBack : Type 0
ListsReadBack = (wire : Wire) (count : ℕ) → count < 2 ^ 32
    → ReadsBack list_at (list_bytes wire count) (record { wire = wire; count = count })

-- the header of a field of an id of 16 bits reads back
abbrev pub FieldsReadBack : Type 0
FieldsReadBack = (last id : ℤ) (wire : Wire) → fits_16 id ≡ true
    → ReadsBack (λ bytes at. field_at bytes last at) (field_bytes last id wire) (fields.Next id wire)

-- a stop reads back, whatever field came before it
abbrev pub StopsReadBack : Type 0
StopsReadBack = (last : ℤ) → ReadsBack (λ bytes at. field_at bytes last at) (0 ∷ []) fields.Stop
