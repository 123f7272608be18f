-- Values in the PLAIN encoding (Encodings.md, "Plain: (PLAIN = 0)"), as functions of bytes.
use Rattle.std.specs.Prelude.{ℕ, zero, suc, ℤ, nat_le, ◌==◌, Bool, not, ◌&&◌, if◌then◌else◌, List, [], ◌∷◌, length, take, drop, map, pos, neg_ℤ, int_le, Option, Some, None, option_map}
use Rattle.std.specs.Int.{w32, w64, from_le_bytes, cast_signed}
use Rattle.std.specs.Str.{is_utf8}
use Rattle.row_base.specs.declared.limits.TheConstants.{MAX_TEXT_BYTES}
use Rattle.row_base.specs.declared.row.Datum.{Datum}
use Rattle.row_base.specs.declared.row.Datum.TheVariants as datum
use Rattle.row_base.specs.declared.row.Kind.{Kind}
use Rattle.row_base.specs.declared.row.Kind.TheVariants as kind
use Rattle.row_base.specs.Readings.{◌>>=◌}
use Rattle.parquet_pages.specs.Hybrids.{unpacked}

-- the first bytes, so many, and what is behind them
abbrev pub cut : ℕ → List ℕ → Option (List ℕ × List ℕ)
cut n bytes = if nat_le n (length bytes) then Some (take n bytes, drop n bytes) else None

-- bytes behind their number, which has four bytes, and what is behind them
unfoldable pub block_in : List ℕ → Option (List ℕ × List ℕ)
block_in bytes = cut 4 bytes >>= λ front. cut (from_le_bytes w32 front.0) front.1

abbrev pub long_of : List ℕ → ℤ
long_of bytes = cast_signed w64 (from_le_bytes w64 bytes)

abbrev pub long_datum : List ℕ → Datum
long_datum bytes = datum.Long (long_of bytes)

abbrev pub integer_of : List ℕ → ℤ
integer_of bytes = cast_signed w32 (from_le_bytes w32 bytes)

-- a day from 0001-01-01 to 9999-12-31
abbrev pub is_day_number : ℤ → Bool
is_day_number n = int_le (neg_ℤ (pos 719_162)) n && int_le n (pos 2_932_896)

-- at most MAX_TEXT_BYTES bytes of UTF-8
abbrev pub is_text : List ℕ → Bool
is_text bytes = nat_le (length bytes) MAX_TEXT_BYTES && is_utf8 bytes

abbrev pub long_in : List ℕ → Option (Datum × List ℕ)
long_in bytes = option_map (λ c. (datum.Long (long_of c.0), c.1)) (cut 8 bytes)

abbrev pub integer_in : List ℕ → Option (Datum × List ℕ)
integer_in bytes = option_map (λ c. (datum.Integer (integer_of c.0), c.1)) (cut 4 bytes)

abbrev pub date_in : List ℕ → Option (Datum × List ℕ)
date_in bytes = cut 4 bytes >>= λ c.
    if is_day_number (integer_of c.0) then Some (datum.Date (integer_of c.0), c.1) else None

abbrev pub text_datum : List ℕ → Option Datum
text_datum bytes = if is_text bytes then Some (datum.Text bytes) else None

abbrev pub text_in : List ℕ → Option (Datum × List ℕ)
text_in bytes = block_in bytes >>= λ b. option_map (λ d. (d, b.1)) (text_datum b.0)

-- The value at the front, and what is behind it. A boolean takes no whole byte, so none begins with one.
unfoldable pub plain_value : Kind → List ℕ → Option (Datum × List ℕ)
plain_value kind.Long bytes = long_in bytes
plain_value kind.Integer bytes = integer_in bytes
plain_value kind.Boolean bytes = None
plain_value kind.String bytes = text_in bytes
plain_value kind.Date bytes = date_in bytes

-- so many values one behind the other; bytes that are left over are ignored
unfoldable pub values_in_line : Kind → ℕ → List ℕ → Option (List Datum)
values_in_line k zero bytes = Some []
values_in_line k (suc count) bytes = plain_value k bytes >>= λ v. option_map (λ vs. v.0 ∷ vs) (values_in_line k count v.1)

abbrev pub boolean_of : ℕ → Datum
boolean_of bit = datum.Boolean (not (bit == 0))

-- so many booleans, one bit each, the lowest first
unfoldable pub booleans_in : ℕ → List ℕ → Option (List Datum)
booleans_in count bytes = option_map (map boolean_of) (unpacked 1 count bytes)

-- so many values of a kind
unfoldable pub plain_values : Kind → ℕ → List ℕ → Option (List Datum)
plain_values kind.Boolean count bytes = booleans_in count bytes
plain_values kind.Long count bytes = values_in_line kind.Long count bytes
plain_values kind.Integer count bytes = values_in_line kind.Integer count bytes
plain_values kind.String count bytes = values_in_line kind.String count bytes
plain_values kind.Date count bytes = values_in_line kind.Date count bytes
