-- A path put into an ordered set is a file put in its place.
use Rattle.std.proofs.Common.{◌≡◌, ℕ, suc, ◌≤◌, Bool, true, false, List, [], ◌∷◌, length, refl, sym, ◌∙◌, ap, subst, arith}
use Rattle.std.specs.Prelude.{if◌then◌else◌, Result, Ok, Err, OnOk, OnErr}
use Rattle.std.specs.declared.cmp.Ordering.{Ordering}
use Rattle.std.specs.declared.cmp.Ordering.TheVariants.{Less, Equal, Greater}
use Rattle.std.specs.Ordering.{is_lt, nat_cmp, ordering_reverse, match_ordering, ordering_then}
use Rattle.std.specs.Cmp.{IsTotalOrder}
use Rattle.std.specs.Cmp.Lexicographic.{slice_cmp}
use Rattle.std.specs.List.{AllByRecursion}
use Rattle.std.specs.List.Sorted.{IsStrictlySortedBy}
use Rattle.std.specs.BTreeSet.{insert_key}
use Rattle.std.specs.Str.{bytes_eq}
use Rattle.std.proofs.lemmas.Cmp.{nat_list_cmp_total, tied_itself}
use Rattle.std.proofs.lemmas.Slice.Eq.{bytes_eq-Decides}
use Rattle.std.proofs.lemmas.Bool.Decides.{nat_tests}
use Rattle.snapshot_replay.specs.Table.{Add, Action, Adds, without_path, placed, paths_of, reconciled}
use Rattle.snapshot_replay.specs.State.{files_of}

abbrev order : List ℕ → List ℕ → Ordering
order = slice_cmp nat_cmp

abbrev file : List ℕ → Add
file path = record { path = path; stats = [] }

pub length-files_of : (ks : List (List ℕ)) → length (files_of ks) ≡ length ks
length-files_of [] = refl
length-files_of (k ∷ ks) = ap (λ (n : ℕ). suc n) (length-files_of ks)

pub paths-files_of : (ks : List (List ℕ)) → paths_of (files_of ks) ≡ ks
paths-files_of [] = refl
paths-files_of (k ∷ ks) = ap (λ (l : List (List ℕ)). k ∷ l) (paths-files_of ks)

numbers_apart : (x y : ℕ) → nat_cmp x y ≡ Equal → x ≡ y
numbers_apart x y is = grind (arith, nat_tests)

first_equal : (r s : Ordering) → ordering_then r s ≡ Equal → r ≡ Equal
first_equal Equal s e = refl
first_equal Less s e = cc
first_equal Greater s e = cc

second_equal : (r s : Ordering) → ordering_then r s ≡ Equal → s ≡ Equal
second_equal Equal s e = e
second_equal Less s e = cc
second_equal Greater s e = cc

pub paths_apart : (xs ys : List ℕ) → order xs ys ≡ Equal → xs ≡ ys
paths_apart [] [] e = refl
paths_apart [] (y ∷ ys) e = cc
paths_apart (x ∷ xs) [] e = cc
paths_apart (x ∷ xs) (y ∷ ys) e =
    let p = numbers_apart x y (first_equal (nat_cmp x y) (order xs ys) e) in
    let q = paths_apart xs ys (second_equal (nat_cmp x y) (order xs ys) e) in
    λ i. p i ∷ q i

-- a path that isn't equal by the order is another one
other : (x k : List ℕ) (o : Ordering) → order k x ≡ o → (o ≡ Equal → ⊥) → (b : Bool) → bytes_eq x k ≡ b → b ≡ false
other x k o is no_tie false e = refl
other x k o is no_tie true e = absurd (no_tie (sym is ∙ ap (order k) ((bytes_eq-Decides x k).0 e) ∙ tied_itself nat_list_cmp_total k))

less_other : (x k : List ℕ) → order k x ≡ Less → bytes_eq x k ≡ false
less_other x k is = other x k Less is (λ e. cc) (bytes_eq x k) refl

greater_other : (x k : List ℕ) → order k x ≡ Greater → bytes_eq x k ≡ false
greater_other x k is = other x k Greater is (λ e. cc) (bytes_eq x k) refl

back_less : (x k : List ℕ) → order k x ≡ Less → is_lt (order x k) ≡ false
back_less x k is = ap is_lt (nat_list_cmp_total.antisymm x k ∙ ap ordering_reverse is)

back_greater : (x k : List ℕ) → order k x ≡ Greater → is_lt (order x k) ≡ true
back_greater x k is = ap is_lt (nat_list_cmp_total.antisymm x k ∙ ap ordering_reverse is)

-- nothing is taken out where all are greater
none_out : (k : List ℕ) (xs : List (List ℕ)) → AllByRecursion (λ y. order k y ≡ Less) xs → without_path (files_of xs) k ≡ files_of xs
none_out k [] all = refl
none_out k (x ∷ xs) all =
    ap (λ (b : Bool). if b then without_path (files_of xs) k else file x ∷ without_path (files_of xs) k) (less_other x k all.0) ∙ ap (λ (l : List Add). file x ∷ l) (none_out k xs all.1)

-- a file stands first where all are greater
stands_first : (k : List ℕ) (xs : List (List ℕ)) → AllByRecursion (λ y. order k y ≡ Less) xs → placed (file k) (files_of xs) ≡ file k ∷ files_of xs
stands_first k [] all = refl
stands_first k (x ∷ xs) all = ap (λ (b : Bool). if b then file x ∷ placed (file k) (files_of xs) else file k ∷ file x ∷ files_of xs) (back_less x k all.0)

pub below_all : (k x : List ℕ) (xs : List (List ℕ)) → order k x ≡ Less → AllByRecursion (λ y. order x y ≡ Less) xs → AllByRecursion (λ y. order k y ≡ Less) xs
below_all k x [] is all = tt
below_all k x (y ∷ ys) is all = (nat_list_cmp_total.trans k x y is all.0, below_all k x ys is all.1)

module _ (k x : List ℕ) (xs : List (List ℕ)) where
  abbrev Inserted : Ordering → List Add
  Inserted o = files_of (match_ordering o (k ∷ x ∷ xs) (x ∷ xs) (x ∷ insert_key order xs k))

  abbrev Taken : Bool → List Add
  Taken b = if b then without_path (files_of xs) k else file x ∷ without_path (files_of xs) k

  at_less : order k x ≡ Less → AllByRecursion (λ y. order x y ≡ Less) xs → Inserted (order k x) ≡ placed (file k) (Taken (bytes_eq x k))
  at_less is all =
      let out : Taken (bytes_eq x k) ≡ files_of (x ∷ xs) = ap Taken (less_other x k is) ∙ ap (λ (l : List Add). file x ∷ l) (none_out k xs (below_all k x xs is all)) in
      ap Inserted is ∙ sym (ap (placed (file k)) out ∙ stands_first k (x ∷ xs) (is, below_all k x xs is all))

  at_equal : order k x ≡ Equal → AllByRecursion (λ y. order x y ≡ Less) xs → Inserted (order k x) ≡ placed (file k) (Taken (bytes_eq x k))
  at_equal is all =
      let same : k ≡ x = paths_apart k x is in
      let above : AllByRecursion (λ y. order k y ≡ Less) xs = subst (λ (p : List ℕ). AllByRecursion (λ y. order p y ≡ Less) xs) (sym same) all in
      let out : Taken (bytes_eq x k) ≡ files_of xs = ap Taken ((bytes_eq-Decides x k).1 (sym same)) ∙ none_out k xs above in
      ap Inserted is ∙ sym (ap (placed (file k)) out ∙ stands_first k xs above ∙ ap (λ (p : List ℕ). file p ∷ files_of xs) same)

  at_greater : order k x ≡ Greater → files_of (insert_key order xs k) ≡ placed (file k) (without_path (files_of xs) k) → Inserted (order k x) ≡ placed (file k) (Taken (bytes_eq x k))
  at_greater is rest =
      let later : placed (file k) (file x ∷ without_path (files_of xs) k) ≡ file x ∷ placed (file k) (without_path (files_of xs) k) =
      ap (λ (b : Bool). if b then file x ∷ placed (file k) (without_path (files_of xs) k) else file k ∷ file x ∷ without_path (files_of xs) k) (back_greater x k is) in
      ap Inserted is ∙ ap (λ (l : List Add). file x ∷ l) rest ∙ sym (ap (λ (b : Bool). placed (file k) (Taken b)) (greater_other x k is) ∙ later)

-- a path put into an ordered set
pub placed_key : (ks : List (List ℕ)) (k : List ℕ) → IsStrictlySortedBy (slice_cmp nat_cmp) ks → files_of (insert_key (slice_cmp nat_cmp) ks k) ≡ placed (file k) (without_path (files_of ks) k)
unfolding IsStrictlySortedBy
placed_key [] k sorted = refl
placed_key (x ∷ xs) k sorted = by (order k x) refl (placed_key xs k sorted.1)
  where
    by : (o : Ordering) → order k x ≡ o → files_of (insert_key order xs k) ≡ placed (file k) (without_path (files_of xs) k)
        → files_of (insert_key order (x ∷ xs) k) ≡ placed (file k) (without_path (files_of (x ∷ xs)) k)
    by Less is rest = at_less k x xs is sorted.0
    by Equal is rest = at_equal k x xs is sorted.0
    by Greater is rest = at_greater k x xs is rest

pub length-insert_key : (ks : List (List ℕ)) (k : List ℕ) → length (insert_key (slice_cmp nat_cmp) ks k) ≤ suc (length ks)
length-insert_key [] k = omega arith
length-insert_key (x ∷ xs) k = by (order k x) (length-insert_key xs k)
  where
    by : (o : Ordering) → length (insert_key order xs k) ≤ suc (length xs) → length (match_ordering o (k ∷ x ∷ xs) (x ∷ xs) (x ∷ insert_key order xs k)) ≤ suc (suc (length xs))
    by Less h = omega arith
    by Equal h = omega arith
    by Greater h = omega (arith, h)

-- whatever the set answers
pub put_more : {A E : Type 0} (r : Result A E) (old new : List (List ℕ)) (k : List ℕ) → OnOk r (new ≡ insert_key (slice_cmp nat_cmp) old k) → OnErr r (new ≡ old) → length (files_of new) ≤ suc (length (files_of old))
put_more (Ok a) old new k keys err =
    let more = length-insert_key old k in
    let here = length-files_of new ∙ ap length keys in
    let there = length-files_of old in
    omega (arith, more, here, there)
put_more (Err e) old new k keys err = let same = ap (λ (l : List (List ℕ)). length (files_of l)) err in omega (arith, same)
