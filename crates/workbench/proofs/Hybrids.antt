-- The bytes in front of a hybrid.
use Rattle.std.proofs.Common.{◌≡◌, ℕ, ◌<◌, ◌≤◌, List, [], ◌∷◌, length, drop, get_or, arith, codes}
use Rattle.std.specs.Int.{w32, from_le_bytes}
use Rattle.workbench.specs.Reading.{IsValuesText, IsHybridText}

pub too_short : (bytes text : List ℕ) → length bytes < 5 → text ≡ codes "no width and count" → IsHybridText bytes text
too_short [] text short e = e
too_short (w ∷ []) text short e = e
too_short (w ∷ a ∷ []) text short e = e
too_short (w ∷ a ∷ b ∷ []) text short e = e
too_short (w ∷ a ∷ b ∷ c ∷ []) text short e = e
too_short (w ∷ a ∷ b ∷ c ∷ d ∷ rest) text short e = absurd (omega arith)

pub behind : (bytes text : List ℕ) → 5 ≤ length bytes
    → IsValuesText (get_or bytes 0 0) (from_le_bytes w32 (get_or bytes 1 0 ∷ get_or bytes 2 0 ∷ get_or bytes 3 0 ∷ get_or bytes 4 0 ∷ [])) (drop 5 bytes) text
    → IsHybridText bytes text
behind [] text long h = absurd (omega arith)
behind (w ∷ []) text long h = absurd (omega arith)
behind (w ∷ a ∷ []) text long h = absurd (omega arith)
behind (w ∷ a ∷ b ∷ []) text long h = absurd (omega arith)
behind (w ∷ a ∷ b ∷ c ∷ []) text long h = absurd (omega arith)
behind (w ∷ a ∷ b ∷ c ∷ d ∷ rest) text long h = h
