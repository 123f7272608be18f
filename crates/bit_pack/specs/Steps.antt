-- What one step of reading the hybrid does, which the private functions speak of.
use Rattle.std.specs.Prelude.{◌≡◌, ℕ, ◌-◌, ◌*◌, ◌^◌, ◌<◌, ◌≤◌, List, ◌++◌, length, take, drop, replicate, min}
use Rattle.bit_pack.specs.Bits.{most_values}
use Rattle.bit_pack.specs.Numbers.{number_in, fields}
use Rattle.bit_pack.specs.Hybrid.{byte_width, IsPiece, Pieces}

-- What reading the bytes behind a run's header adds to the values, up to a count, and what it leaves of the bytes.
pub record AddsRun (width : ℕ) (body : List ℕ) (copies count : ℕ) (old new rest : List ℕ) : Type 0 where
  pub few : copies ≤ most_values
  pub within : byte_width width ≤ length body
  pub narrow : number_in (take (byte_width width) body) < 2 ^ width
  pub added : new ≡ old ++ replicate (min copies (count - length old)) (number_in (take (byte_width width) body))
  pub left : rest ≡ drop (byte_width width) body

-- The same behind a stretch's header.
pub record AddsStretch (width : ℕ) (body : List ℕ) (groups count : ℕ) (old new rest : List ℕ) : Type 0 where
  pub few : 8 * groups ≤ most_values
  pub within : groups * width ≤ length body
  pub added : new ≡ old ++ fields width (number_in body) 0 (min (8 * groups) (count - length old))
  pub left : rest ≡ drop (groups * width) body

-- The same of a whole piece.
abbrev pub AddsPiece : ℕ → List ℕ → ℕ → List ℕ → List ℕ → List ℕ → Type 0
AddsPiece width bytes count old new rest = (len : ℕ) × (values : List ℕ) × IsPiece width bytes len values
    × (0 < len) × (len ≤ length bytes) × (new ≡ take count (old ++ values)) × (rest ≡ drop len bytes)

-- What was read so far: pieces up to the rest, and the first of their values, up to the count.
abbrev pub ReadSoFar : ℕ → List ℕ → ℕ → List ℕ → List ℕ → Type 0
ReadSoFar width bytes count rest values = (all : List ℕ) × Pieces width bytes rest all × (values ≡ take count all)
