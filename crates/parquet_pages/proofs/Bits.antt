-- Levels and bits are 0 or 1, and there are no more of them than values.
use Rattle.std.proofs.Common.{◌≡◌, ℕ, zero, suc, ◌<◌, ◌≤◌, Bool, true, false, cond, List, [], ◌∷◌, length, get_or, refl, ap, arith}
use Rattle.row_base.specs.declared.row.Datum.{Datum}
use Rattle.row_base.specs.declared.row.Datum.TheVariants as datum
use Rattle.parquet_pages.specs.Places.{is_null}
use Rattle.parquet_pages.specs.Written.{levels_of, bits_of}

-- each value fits one bit
abbrev pub AllBits : List ℕ → Type 0
AllBits bits = (k : ℕ) → k < length bits → get_or bits k 0 < 2

-- one bit more in front
bit_first : (bit : ℕ) (bits : List ℕ) → bit < 2 → AllBits bits → AllBits (bit ∷ bits)
bit_first bit bits small rest zero lt = small
bit_first bit bits small rest (suc k) lt = rest k (omega (arith, lt))

small : (b : Bool) → cond b 1 0 < 2
small true = omega arith
small false = omega arith

null_small : (b : Bool) → cond b 0 1 < 2
null_small true = omega arith
null_small false = omega arith

pub length-levels_of : (vs : List Datum) → length (levels_of vs) ≡ length vs
length-levels_of [] = refl
length-levels_of (v ∷ vs) = ap suc (length-levels_of vs)

pub levels_fit : (vs : List Datum) → AllBits (levels_of vs)
levels_fit [] k lt = absurd (omega (arith, lt))
levels_fit (v ∷ vs) k lt = bit_first (cond (is_null v) 0 1) (levels_of vs) (null_small (is_null v)) (levels_fit vs) k lt

pub bits_few : (vs : List Datum) → length (bits_of vs) ≤ length vs
bits_few [] = omega arith
bits_few (datum.Boolean b ∷ vs) = omega (arith, bits_few vs)
bits_few (datum.Null ∷ vs) = omega (arith, bits_few vs)
bits_few (datum.Long n ∷ vs) = omega (arith, bits_few vs)
bits_few (datum.Integer n ∷ vs) = omega (arith, bits_few vs)
bits_few (datum.Text t ∷ vs) = omega (arith, bits_few vs)
bits_few (datum.Date n ∷ vs) = omega (arith, bits_few vs)

pub bits_fit : (vs : List Datum) → AllBits (bits_of vs)
bits_fit [] k lt = absurd (omega (arith, lt))
bits_fit (datum.Boolean b ∷ vs) k lt = bit_first (cond b 1 0) (bits_of vs) (small b) (bits_fit vs) k lt
bits_fit (datum.Null ∷ vs) k lt = bits_fit vs k lt
bits_fit (datum.Long n ∷ vs) k lt = bits_fit vs k lt
bits_fit (datum.Integer n ∷ vs) k lt = bits_fit vs k lt
bits_fit (datum.Text t ∷ vs) k lt = bits_fit vs k lt
bits_fit (datum.Date n ∷ vs) k lt = bits_fit vs k lt
