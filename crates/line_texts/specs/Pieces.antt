-- Texts that are cut at a byte, and what their pieces read as.
use Rattle.std.specs.Prelude.{ℕ, ◌+◌, ◌-◌, ◌^◌, min, ◌==◌, if◌then◌else◌, List, [], ◌∷◌, length, Option, Some, None, option_map, is_some}
use Rattle.std.specs.List.{slice_split}

-- the pieces between the places of a byte
abbrev pub pieces : ℕ → List ℕ → List (List ℕ)
pieces byte text = slice_split (λ b. b == byte) text

abbrev pub both : {A : Type 0} → Option A → Option (List A) → Option (List A)
both None xs = None
both (Some x) xs = option_map (λ ys. x ∷ ys) xs

-- the values of pieces, where each has one
abbrev pub each : {A : Type 0} → (List ℕ → Option A) → List (List ℕ) → Option (List A)
each read [] = Some []
each read (p ∷ ps) = both (read p) (each read ps)

-- the values of lines, where each has one, and nothing stands behind the end of the last
abbrev pub each_line : {A : Type 0} → (List ℕ → Option A) → List (List ℕ) → Option (List A)
each_line read [] = None
each_line read (l ∷ []) = if length l == 0 then Some [] else None
each_line read (l ∷ m ∷ ls) = both (read l) (each_line read (m ∷ ls))

-- the number of the line behind; numbers of lines stand still at 2^32 - 1
abbrev pub next_line : ℕ → ℕ
next_line n = min (n + 1) (2 ^ 32 - 1)

-- the first line that has no value or no end, where the first of all has the number n
abbrev pub first_bad : {A : Type 0} → (List ℕ → Option A) → ℕ → List (List ℕ) → ℕ
first_bad read n [] = n
first_bad read n (l ∷ []) = n
first_bad read n (l ∷ m ∷ ls) = if is_some (read l) then first_bad read (next_line n) (m ∷ ls) else n

-- the value of the only line, which has its end
abbrev pub only_line : {A : Type 0} → (List ℕ → Option A) → List (List ℕ) → Option A
only_line read [] = None
only_line read (l ∷ []) = None
only_line read (l ∷ [] ∷ []) = read l
only_line read (l ∷ [] ∷ m ∷ ls) = None
only_line read (l ∷ (b ∷ bs) ∷ ls) = None

-- line 1 where it has no value or no end, else the line behind it
abbrev pub bad_only : {A : Type 0} → (List ℕ → Option A) → List (List ℕ) → ℕ
bad_only read [] = 1
bad_only read (l ∷ []) = 1
bad_only read (l ∷ m ∷ ls) = if is_some (read l) then 2 else 1
