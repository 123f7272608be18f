-- Structs: fields, each behind the one before it, and a stop (Thrift compact protocol, "Struct").
use Rattle.std.specs.Prelude.{ℕ, zero, suc, ◌+◌, length, ℤ, pos, Option, Some, None, Result, Ok, Err}
use Rattle.thrift_compact.specs.declared.wire.Wire.{Wire}
use Rattle.thrift_compact.specs.declared.wire.Field.{Field}
use Rattle.thrift_compact.specs.declared.wire.Field.TheVariants as fields
use Rattle.parquet_meta.specs.declared.fault.FileFault.{FileFault}
use Rattle.parquet_meta.specs.declared.fault.FileFault.TheVariants as faults
use Rattle.row_base.specs.Faults.{◌>>=◌}
use Rattle.parquet_meta.specs.Pieces.{Piece}
use Rattle.parquet_meta.specs.Values.{field_in}

-- What follows a field's header: at a stop the struct ends, with what is known of it and the place of the stop in the
-- file; else the field's value makes of what is known what is known then, and more fields follow.
abbrev pub field_then : {D : Type 0} → (ℤ → Wire → ℕ → ℕ → D → Result (D × ℕ) FileFault) → (ℤ → D → ℕ → Result ((D × ℕ) × ℕ) FileFault)
    → Field → ℕ → ℕ → D → Result ((D × ℕ) × ℕ) FileFault
field_then step others fields.Stop place at known = Ok ((known, place), at)
field_then step others (fields.Next id wire) place at known = step id wire place at known >>= λ k. others id k.0 k.1

-- The fields from here on, behind one of the id `last`; `step` says what each makes of what is known. Each takes a byte
-- at least, so a bound above the bytes that are left is none.
unfoldable pub fields_from : {D : Type 0} → (Piece → ℤ → Wire → ℕ → ℕ → D → Result (D × ℕ) FileFault) → Piece → ℕ → ℤ → D → ℕ
    → Result ((D × ℕ) × ℕ) FileFault
fields_from step piece zero last known at = Err (faults.Thrift (piece.start + length piece.bytes))
fields_from step piece (suc most) last known at = field_in piece last at >>= λ field.
    field_then (step piece) (λ id k to. fields_from step piece most id k to) field.0 (piece.start + at) field.1 known

-- all fields of a struct
abbrev pub fields_of : {D : Type 0} → (Piece → ℤ → Wire → ℕ → ℕ → D → Result (D × ℕ) FileFault) → D → Piece → ℕ → Result ((D × ℕ) × ℕ) FileFault
fields_of step none piece at = fields_from step piece (suc (length piece.bytes)) (pos 0) none at

-- a struct, made of what is known of it at its stop
abbrev pub struct_of : {A D : Type 0} → (Piece → ℤ → Wire → ℕ → ℕ → D → Result (D × ℕ) FileFault) → D → (ℕ → D → Result A FileFault)
    → Piece → ℕ → ℕ → Result (A × ℕ) FileFault
struct_of step none made piece place at = fields_of step none piece at >>= λ known. made known.0.1 known.0.0 >>= λ value. Ok (value, known.1)

-- a needed field; where it didn't come the fault is at the stop
abbrev pub needed : {A : Type 0} → ℕ → Option A → Result A FileFault
needed stop (Some value) = Ok value
needed stop None = Err (faults.Thrift stop)
