-- PLAIN values that are written stand there.
use Rattle.std.proofs.Common.{◌≡◌, ℕ, ◌+◌, ◌*◌, ◌/◌, ◌^◌, ◌<◌, ℤ, Bool, true, false, cond, List, [], ◌∷◌, ◌++◌, length, map, refl, sym, ap, subst, ◌∙◌, arith, append_assoc}
use Rattle.std.specs.Int.{w32, w64, to_le_bytes, cast_unsigned, cast_signed}
use Rattle.std.specs.List.{All, flat_map}
use Rattle.std.specs.Prelude.{FitsSigned}
use Rattle.std.proofs.lemmas.Int.{ints, to_z-of_z}
use Rattle.std.proofs.lemmas.Nat.{from_le_bytes-to_le_bytes_4, from_le_bytes-to_le_bytes_8}
use Rattle.bit_pack.specs.Bits.{Packs}
use Rattle.bit_pack.specs.Numbers.{packed_number, bytes_of}
use Rattle.bit_pack.proofs.Sums.{Packs-bytes}
use Rattle.row_base.specs.Dates.{IsDayNumber}
use Rattle.row_base.specs.declared.row.Datum.{Datum}
use Rattle.row_base.specs.declared.row.Datum.TheVariants as datum
use Rattle.row_base.specs.declared.row.Kind.{Kind}
use Rattle.row_base.specs.declared.row.Kind.TheVariants as kind
use Rattle.parquet_pages.specs.Plain.{long_of, integer_of, boolean_of}
use Rattle.parquet_pages.specs.Places.{is_null, is_boolean}
use Rattle.parquet_pages.specs.Written.{block_text, plain_text, bits_of, bits_text, values_text, CanStand}
use Rattle.parquet_pages.specs.ReadBack.{CanReturn}
use Rattle.parquet_pages.specs.Grammar.{Block, PlainValue, long, integer, date, string, InLine, done, next, InBits, PlainValues}
use Rattle.parquet_pages.proofs.Bits.{bits_fit}
use Rattle.parquet_pages.proofs.Kept.{kept, null_is, first_of, others_of}

-- ---- one value

unsigned_fits : (n : ℤ) → FitsSigned w64 n → cast_unsigned w64 n < 2 ^ 64
unsigned_fits n fits = omega (arith, ints)

unsigned_fits_32 : (n : ℤ) → FitsSigned w32 n → cast_unsigned w32 n < 2 ^ 32
unsigned_fits_32 n fits = omega (arith, ints)

long_back : (n : ℤ) → FitsSigned w64 n → long_of (to_le_bytes w64 (cast_unsigned w64 n)) ≡ n
long_back n fits = ap (cast_signed w64) (from_le_bytes-to_le_bytes_8 (cast_unsigned w64 n) (unsigned_fits n fits)) ∙ to_z-of_z w64 n fits

integer_back : (n : ℤ) → FitsSigned w32 n → integer_of (to_le_bytes w32 (cast_unsigned w32 n)) ≡ n
integer_back n fits = ap (cast_signed w32) (from_le_bytes-to_le_bytes_4 (cast_unsigned w32 n) (unsigned_fits_32 n fits)) ∙ to_z-of_z w32 n fits

pub block_back : (bytes rest : List ℕ) → length bytes < 2 ^ 32 → Block (block_text bytes ++ rest) bytes rest
block_back bytes rest small = record {
  front = to_le_bytes w32 (length bytes);
  whole = append_assoc (to_le_bytes w32 (length bytes)) bytes rest;
  four = refl;
  counted = from_le_bytes-to_le_bytes_4 (length bytes) small;
}

value_back : (k : Kind) (o : Bool) (v : Datum) (rest : List ℕ) → is_boolean k ≡ false → is_null v ≡ false → CanStand k o v → CanReturn v
    → PlainValue k (plain_text v ++ rest) v rest
value_back kind.Long o (datum.Long n) rest b h stand fits =
    subst (λ (m : ℤ). PlainValue kind.Long (plain_text (datum.Long n) ++ rest) (datum.Long m) rest) (long_back n fits)
    (long (to_le_bytes w64 (cast_unsigned w64 n)) rest refl)
value_back kind.Integer o (datum.Integer n) rest b h stand fits =
    subst (λ (m : ℤ). PlainValue kind.Integer (plain_text (datum.Integer n) ++ rest) (datum.Integer m) rest) (integer_back n fits)
    (integer (to_le_bytes w32 (cast_unsigned w32 n)) rest refl)
value_back kind.Date o (datum.Date n) rest b h stand fits =
    subst (λ (m : ℤ). PlainValue kind.Date (plain_text (datum.Date n) ++ rest) (datum.Date m) rest) (integer_back n fits.0)
    (date (to_le_bytes w32 (cast_unsigned w32 n)) rest refl (subst IsDayNumber (sym (integer_back n fits.0)) fits.1))
value_back kind.String o (datum.Text t) rest b h stand fits =
    string (block_text t ++ rest) t rest (block_back t rest (omega (arith, fits.short))) fits
value_back k o v rest b h stand fits = absurd cc

-- ---- values in line

line_back : (k : Kind) (o : Bool) (vs : List Datum) → is_boolean k ≡ false → All (CanStand k o) vs → All CanReturn vs
    → InLine k (flat_map plain_text vs) (kept vs)
unfolding kept
line_back k o [] b stand fits = done []
line_back k o (v ∷ vs) b stand fits = step (is_null v) refl (line_back k o vs b (others_of (CanStand k o) v vs stand) (others_of CanReturn v vs fits))
  where
    step : (n : Bool) → is_null v ≡ n → InLine k (flat_map plain_text vs) (kept vs)
        → InLine k (plain_text v ++ flat_map plain_text vs) (cond n (kept vs) (v ∷ kept vs))
    step true n rest = subst (λ (d : Datum). InLine k (plain_text d ++ flat_map plain_text vs) (kept vs)) (sym (null_is v n)) rest
    step false n rest =
        next (plain_text v ++ flat_map plain_text vs) (flat_map plain_text vs) v (kept vs)
        (value_back k o v (flat_map plain_text vs) b n (first_of (CanStand k o) v vs stand) (first_of CanReturn v vs fits)) rest

-- ---- booleans

booleans_kept : (o : Bool) (vs : List Datum) → All (CanStand kind.Boolean o) vs → kept vs ≡ map boolean_of (bits_of vs)
unfolding kept
booleans_kept o [] stand = refl
booleans_kept o (datum.Null ∷ vs) stand = booleans_kept o vs (others_of (CanStand kind.Boolean o) datum.Null vs stand)
booleans_kept o (datum.Boolean true ∷ vs) stand = ap (λ (ds : List Datum). datum.Boolean true ∷ ds) (booleans_kept o vs (others_of (CanStand kind.Boolean o) (datum.Boolean true) vs stand))
booleans_kept o (datum.Boolean false ∷ vs) stand = ap (λ (ds : List Datum). datum.Boolean false ∷ ds) (booleans_kept o vs (others_of (CanStand kind.Boolean o) (datum.Boolean false) vs stand))
booleans_kept o (datum.Long n ∷ vs) stand = let h : false ≡ true = first_of (CanStand kind.Boolean o) (datum.Long n) vs stand in absurd cc
booleans_kept o (datum.Integer n ∷ vs) stand = let h : false ≡ true = first_of (CanStand kind.Boolean o) (datum.Integer n) vs stand in absurd cc
booleans_kept o (datum.Text t ∷ vs) stand = let h : false ≡ true = first_of (CanStand kind.Boolean o) (datum.Text t) vs stand in absurd cc
booleans_kept o (datum.Date n ∷ vs) stand = let h : false ≡ true = first_of (CanStand kind.Boolean o) (datum.Date n) vs stand in absurd cc

bits_back : (o : Bool) (vs : List Datum) → All (CanStand kind.Boolean o) vs → InBits (bits_text (bits_of vs)) (kept vs)
bits_back o vs stand =
    let once : length (bits_of vs) ≡ length (bits_of vs) * 1 = omega arith in
    let packs : Packs 1 (bits_of vs) (bits_text (bits_of vs))
    = Packs-bytes 1 (bits_of vs) (bits_text (bits_of vs)) (bits_fit vs) (ap (λ n. bytes_of ((n + 7) / 8) (packed_number 1 (bits_of vs))) once) in
    record {
      bits = bits_of vs;
      packed = packs.packed;
      means = booleans_kept o vs stand;
    }

-- ---- values of a kind

pub plain_back : (k : Kind) (o : Bool) (vs : List Datum) → All (CanStand k o) vs → All CanReturn vs → PlainValues k (values_text k vs) (kept vs)
unfolding values_text
plain_back kind.Boolean o vs stand fits = bits_back o vs stand
plain_back kind.Long o vs stand fits = line_back kind.Long o vs refl stand fits
plain_back kind.Integer o vs stand fits = line_back kind.Integer o vs refl stand fits
plain_back kind.String o vs stand fits = line_back kind.String o vs refl stand fits
plain_back kind.Date o vs stand fits = line_back kind.Date o vs refl stand fits
