-- Rows one after another in one list of data, cut at their ends.
use Rattle.std.specs.Prelude.{◌≡◌, ℕ, ◌-◌, ◌≤◌, List, [], ◌∷◌, take, drop, slice_index}

-- the rows of this data, which begins at a place; each row ends at its own
abbrev pub rows_from : {A : Type 0} → ℕ → List ℕ → List A → List (List A)
rows_from at [] rest = []
rows_from at (e ∷ es) rest = take (e - at) rest ∷ rows_from e es (drop (e - at) rest)

-- the ends go up from this place to that one
abbrev pub AreEnds : ℕ → List ℕ → ℕ → Type 0
AreEnds at [] most = at ≡ most
AreEnds at (e ∷ es) most = (at ≤ e) × AreEnds e es most

-- the place where the rows from a number on begin
abbrev pub place_of_row : ℕ → List ℕ → ℕ → ℕ
place_of_row at es n = slice_index (at ∷ es) n
