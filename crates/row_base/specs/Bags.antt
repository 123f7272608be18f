-- Bags, as lists of which only the counts matter: first of any values, by a test of equality, and then of
-- rows. The sum of two bags is the list of both, one after the other.
use Rattle.std.specs.Prelude.{◌≡◌, ℕ, ◌+◌, ◌≤◌, Bool, not, if◌then◌else◌, List, [], ◌∷◌}
use Rattle.std.specs.List.{filter}
use Rattle.row_base.specs.declared.row.Datum.{Datum}
use Rattle.row_base.specs.RowOrder.{row_eq}

-- how often a value stands in a list
abbrev pub count_in : {A : Type 0} → (A → A → Bool) → A → List A → ℕ
count_in same x [] = 0
count_in same x (y ∷ ys) = (if same x y then 1 else 0) + count_in same x ys

-- two lists are one bag
abbrev pub SameBag : {A : Type 0} → (A → A → Bool) → List A → List A → Type 0
SameBag {A} same xs ys = (x : A) → count_in same x xs ≡ count_in same x ys

-- the first bag has each value at most as often as the second
abbrev pub IsSubBag : {A : Type 0} → (A → A → Bool) → List A → List A → Type 0
IsSubBag {A} same xs ys = (x : A) → count_in same x xs ≤ count_in same x ys

-- one y taken away, where there is one
abbrev pub without_one : {A : Type 0} → (A → A → Bool) → A → List A → List A
without_one same y [] = []
without_one same y (x ∷ xs) = if same y x then xs else x ∷ without_one same y xs

-- the second bag taken away from the first: the counts are subtracted, down to 0
abbrev pub without_bag : {A : Type 0} → (A → A → Bool) → List A → List A → List A
without_bag same xs [] = xs
without_bag same xs (y ∷ ys) = without_bag same (without_one same y xs) ys

-- the values for which a test fails
abbrev pub others : {A : Type 0} → (A → Bool) → List A → List A
others test xs = filter (λ x. not (test x)) xs

-- the same words for rows
abbrev pub count_of : List Datum → List (List Datum) → ℕ
count_of = count_in row_eq

abbrev pub SameRows : List (List Datum) → List (List Datum) → Type 0
SameRows = SameBag row_eq

abbrev pub IsContained : List (List Datum) → List (List Datum) → Type 0
IsContained = IsSubBag row_eq

abbrev pub without : List (List Datum) → List (List Datum) → List (List Datum)
without = without_bag row_eq
