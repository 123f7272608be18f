-- Items of lists at a place, and tests of equal numbers.
use Rattle.std.proofs.Common.{◌≡◌, ◌≢◌, ℕ, zero, suc, ◌<◌, ◌==◌, Bool, true, false, List, [], ◌∷◌, length, get_or, set, refl, sym, ap, arith}
use Rattle.std.proofs.lemmas.Bool.Decides.{nat_tests}
use Rattle.std.specs.Prelude.{Some, slice_get}

-- the test of equal numbers
pub equal-refl : (n : ℕ) → (n == n) ≡ true
equal-refl n = grind (arith, nat_tests)

pub equal_is : (a b : ℕ) → (a == b) ≡ true → a ≡ b
equal_is a b h = grind (arith, nat_tests)

pub equal_not : (a b : ℕ) → (a == b) ≡ false → a ≢ b
equal_not a b h e = grind (arith, nat_tests)

pub not_equal : (a b : ℕ) → a ≢ b → (a == b) ≡ false
not_equal a b h = by (a == b) refl
  where
    by : (c : Bool) → (a == b) ≡ c → c ≡ false
    by true e = absurd (h (equal_is a b e))
    by false e = refl

-- one value
pub some_same : {A : Type 0} (x y : A) → Some x ≡ Some y → x ≡ y
some_same x y h = cc

-- there is an item at each place of a list
pub item_of : {A : Type 0} (xs : List A) (i : ℕ) → i < length xs → (a : A) × (slice_get xs i ≡ Some a)
item_of [] i lt = absurd (omega arith)
item_of (x ∷ xs) zero lt = (x, refl)
item_of (x ∷ xs) (suc i) lt = item_of xs i (omega arith)

-- the item at a place
pub at_item : {A : Type 0} (xs : List A) (k : ℕ) (a : A) → k < length xs → a ≡ get_or xs k a → slice_get xs k ≡ Some a
at_item [] k a lt is = absurd (omega arith)
at_item (x ∷ xs) zero a lt is = ap (λ (y : _). Some y) (sym is)
at_item (x ∷ xs) (suc k) a lt is = at_item xs k a (omega arith) is

-- other places stay
pub set_other : {A : Type 0} (xs : List A) (k i : ℕ) (b : A) → k ≢ i → slice_get (set xs k b) i ≡ slice_get xs i
set_other [] k i b differ = refl
set_other (x ∷ xs) zero zero b differ = absurd (differ refl)
set_other (x ∷ xs) zero (suc i) b differ = refl
set_other (x ∷ xs) (suc k) zero b differ = refl
set_other (x ∷ xs) (suc k) (suc i) b differ = set_other xs k i b (λ e. differ (ap suc e))

-- the place that is set
pub set_here : {A : Type 0} (xs : List A) (k : ℕ) (a b : A) → slice_get xs k ≡ Some a → slice_get (set xs k b) k ≡ Some b
set_here [] k a b h = cc
set_here (x ∷ xs) zero a b h = refl
set_here (x ∷ xs) (suc k) a b h = set_here xs k a b h

-- a place that is set to what it has
pub set_same : {A : Type 0} (xs : List A) (k : ℕ) (a : A) → slice_get xs k ≡ Some a → xs ≡ set xs k a
set_same [] k a h = refl
set_same (x ∷ xs) zero a h = let same : x ≡ a = cc in ap (λ (y : _). y ∷ xs) same
set_same (x ∷ xs) (suc k) a h = ap (λ (l : List _). x ∷ l) (set_same xs k a h)
