-- What files read as, and the texts of it.
use Rattle.std.specs.Prelude.{◌≡◌, ◌⊎◌, ℕ, zero, suc, ◌+◌, ◌*◌, ◌%◌, ◌^◌, List, [], ◌∷◌, ◌++◌, length, ℤ, pos, Result, Ok, Err, IfOk, codes}
use Rattle.std.specs.Int.{w32, from_le_bytes}
use Rattle.std.specs.Fmt.{decimal}
use Rattle.bit_pack.specs.Hybrid.{Reads}
use Rattle.thrift_compact.specs.declared.fault.ThriftFault.{ThriftFault}
use Rattle.thrift_compact.specs.declared.fault.ThriftFault.TheVariants as faults
use Rattle.thrift_compact.specs.declared.wire.Field.{Field}
use Rattle.thrift_compact.specs.declared.wire.Field.TheVariants as fields
use Rattle.row_base.specs.Faults.{◌>>=◌}
use Rattle.thrift_compact.specs.Values.{field_at}
use Rattle.thrift_compact.specs.Skipped.{skipped_at}
use Rattle.workbench.specs.declared.words.Format.{Format}
use Rattle.workbench.specs.declared.words.Format.TheVariants as formats
use Rattle.workbench.specs.Parquet.{IsFileText, wanting_text}

-- so many fields more
abbrev pub after_fields : ℕ → Result (ℕ × ℕ) ThriftFault → Result (ℕ × ℕ) ThriftFault
after_fields count rest = rest >>= λ n. Ok (count + n.0, n.1)

-- a stop, or a field's value and the fields behind it
abbrev pub count_from : List ℕ → (ℤ → ℕ → Result (ℕ × ℕ) ThriftFault) → Field → ℕ → Result (ℕ × ℕ) ThriftFault
count_from bytes others fields.Stop at = Ok (0, at)
count_from bytes others (fields.Next id wire) at = skipped_at bytes wire at >>= λ past. after_fields 1 (others id past.1)

-- how many fields stand before a struct's stop, and where it ends; each field takes a byte, so a bound of the bytes is none
unfoldable pub field_count : ℕ → List ℕ → ℤ → ℕ → Result (ℕ × ℕ) ThriftFault
field_count zero bytes last at = Err (faults.Short at)
field_count (suc most) bytes last at = field_at bytes last at >>= λ field. count_from bytes (field_count most bytes) field.0 field.1

-- the text for a struct
abbrev pub fields_text : ℕ → ℕ → List ℕ
fields_text count end = decimal count ++ (codes " fields, " ++ (decimal end ++ codes " bytes"))

-- the checksum of values, in 64 bits
abbrev pub checksum_from : ℕ → List ℕ → ℕ
checksum_from sum [] = sum
checksum_from sum (value ∷ values) = checksum_from ((sum * 31 + value) % 2 ^ 64) values

-- the text for a hybrid
abbrev pub values_text : ℕ → ℕ → List ℕ
values_text count sum = decimal count ++ (codes " values, checksum " ++ decimal sum)

-- A struct that can be read has the text of its fields. The text of a fault is free.
abbrev pub IsFieldsText : List ℕ → List ℕ → Type 0
IsFieldsText bytes text = IfOk (field_count (length bytes) bytes (pos 0) 0) (λ n. text ≡ fields_text n.0 n.1)

-- Where the bytes hold so many values, the text is theirs, unless memory ran out. The text of a fault is free.
abbrev pub IsValuesText : ℕ → ℕ → List ℕ → List ℕ → Type 0
IsValuesText width count bytes text =
    (values : List ℕ) → Reads width bytes count values → (text ≡ values_text count (checksum_from 0 values)) ⊎ (text ≡ wanting_text)

-- The hybrid stands behind one byte of width and four of count, the lowest first.
abbrev pub IsHybridText : List ℕ → List ℕ → Type 0
IsHybridText (width ∷ a ∷ b ∷ c ∷ d ∷ rest) text = IsValuesText width (from_le_bytes w32 (a ∷ b ∷ c ∷ d ∷ [])) rest text
IsHybridText bytes text = text ≡ codes "no width and count"

-- what bytes of a format read as
abbrev pub IsText : Format → List ℕ → List ℕ → Type 0
IsText formats.Hybrid bytes text = IsHybridText bytes text
IsText formats.Thrift bytes text = IsFieldsText bytes text
IsText formats.Parquet bytes text = IsFileText bytes text
