-- What a used field of a struct reads as, with faults at their places in the file (Thrift compact protocol; Parquet
-- format, parquet.thrift).
use Rattle.std.specs.Prelude.{if◌then◌else◌, ℕ, zero, suc, ◌==◌, Bool, List, [], ◌∷◌, ℤ, Result, Ok, Err}
use Rattle.std.specs.Str.{is_utf8}
use Rattle.thrift_compact.specs.declared.wire.Wire.{Wire}
use Rattle.thrift_compact.specs.declared.wire.Field.{Field}
use Rattle.thrift_compact.specs.declared.wire.ListHead.{ListHead}
use Rattle.thrift_compact.specs.Values.{number_at, binary_at, field_at, list_at}
use Rattle.thrift_compact.specs.Skipped.{skipped_at}
use Rattle.thrift_compact.specs.Writing.{code_of}
use Rattle.parquet_meta.specs.declared.fault.FileFault.{FileFault}
use Rattle.parquet_meta.specs.declared.fault.FileFault.TheVariants as faults
use Rattle.row_base.specs.Faults.{◌>>=◌}
use Rattle.parquet_meta.specs.Faults.{located}
use Rattle.parquet_meta.specs.Pieces.{Piece}

-- ---- single values

-- the header of a field behind one of the id `last`
unfoldable pub field_in : Piece → ℤ → ℕ → Result (Field × ℕ) FileFault
field_in piece last at = located piece.start (field_at piece.bytes last at)

-- a number
unfoldable pub number_in : Piece → ℕ → Result (ℤ × ℕ) FileFault
number_in piece at = located piece.start (number_at piece.bytes at)

-- bytes behind their length
unfoldable pub binary_in : Piece → ℕ → Result (List ℕ × ℕ) FileFault
binary_in piece at = located piece.start (binary_at piece.bytes at)

-- the header of a list
unfoldable pub head_in : Piece → ℕ → Result (ListHead × ℕ) FileFault
head_in piece at = located piece.start (list_at piece.bytes at)

-- a value of a wire type, which is passed over
unfoldable pub skipped_in : Piece → Wire → ℕ → Result (Unit {0} × ℕ) FileFault
skipped_in piece wire at = located piece.start (skipped_at piece.bytes wire at)

-- ---- used fields; `place` is the place in the file of the field's first byte, `found` its wire type, and `at` the place
-- of its value

-- the wire type that was found is the one that is wanted
abbrev pub is_wire : Wire → Wire → Bool
is_wire found wanted = code_of found == code_of wanted

-- a field of another wire type is a fault at its first byte
abbrev pub typed : {X : Type 0} → Wire → Wire → ℕ → Result X FileFault → Result X FileFault
typed wanted found place read = if is_wire found wanted then read else Err (faults.Thrift place)

-- a text that isn't UTF-8 is a fault at the first byte of its field
unfoldable pub text_in : Piece → ℕ → ℕ → Result (List ℕ × ℕ) FileFault
text_in piece place at = binary_in piece at >>= λ text. if is_utf8 text.0 then Ok text else Err (faults.Thrift place)

-- so many elements, one behind another
unfoldable pub elements_from : {A : Type 0} → (ℕ → Result (A × ℕ) FileFault) → ℕ → ℕ → Result (List A × ℕ) FileFault
elements_from one zero at = Ok ([], at)
elements_from one (suc count) at = one at >>= λ first. elements_from one count first.1 >>= λ others. Ok (first.0 ∷ others.0, others.1)

-- a list; another type of its elements is a fault at the first byte of its field
unfoldable pub list_in : {A : Type 0} → Wire → (Piece → ℕ → ℕ → Result (A × ℕ) FileFault) → Piece → ℕ → ℕ → Result (List A × ℕ) FileFault
list_in wanted one piece place at = head_in piece at >>= λ head.
    typed wanted head.0.wire place (elements_from (one piece place) head.0.count head.1)

-- a number that is an element or a field
abbrev pub number_of : Piece → ℕ → ℕ → Result (ℤ × ℕ) FileFault
number_of piece place at = number_in piece at

-- what is read goes into what is known
abbrev pub put : {A D : Type 0} → (A → D) → Result (A × ℕ) FileFault → Result (D × ℕ) FileFault
put into read = read >>= λ value. Ok (into value.0, value.1)

-- a field that isn't used is passed over
abbrev pub passed : {D : Type 0} → Piece → Wire → ℕ → D → Result (D × ℕ) FileFault
passed piece found at known = put (λ nothing. known) (skipped_in piece found at)
