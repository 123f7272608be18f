-- Values put in order are the only ones in order that have the same elements.
use Rattle.std.proofs.Common.{◌≡◌, ℕ, suc, ◌+◌, ◌<◌, ◌≤◌, Bool, true, false, cond, List, [], ◌∷◌, length, get_or, refl, sym, ap, ◌∙◌, arith}
use Rattle.std.specs.Bool.{Decides}
use Rattle.std.specs.Cmp.{IsTotalOrder, on_total, then_total}
use Rattle.std.specs.Ordering.{is_lt, is_gt, ordering_reverse, ordering_then, then_cmp}
use Rattle.std.specs.declared.cmp.Ordering.{Ordering}
use Rattle.std.specs.declared.cmp.Ordering.TheVariants.{Less, Equal, Greater}
use Rattle.std.specs.List.Sorted.{IsPermutation, IsSortedBy}
use Rattle.std.proofs.lemmas.Cmp.{tied_itself}
use Rattle.std.proofs.lemmas.Bool.{true≢false}
use Rattle.std.proofs.lemmas.List.MinMax.{ranks_by}
use Rattle.std.proofs.lemmas.List.Sorted.{sorted_far, sum_by-IsPermutation}
use Rattle.std.proofs.lemmas.List.Sums.{sum_by-cons}
use Rattle.std.specs.List.{sum_by}
use Rattle.row_base.specs.Bags.{count_in, SameBag}
use Rattle.row_base.specs.RowOrder.{IsToldApart}
use Rattle.row_base.specs.RowOrderLaws.{row_cmp_total}
use Rattle.row_base.specs.Schema.{TableSchema}
use Rattle.write_files.specs.Order.{values_of, group_cmp, placed, in_order}

module _ {A : Type 0} (same : A → A → Bool) where
  -- a count as a sum
  count_sum : (x : A) (xs : List A) → sum_by (λ y. cond (same x y) 1 0) xs ≡ count_in same x xs
  count_sum x [] = refl
  count_sum x (y ∷ xs) = sum_by-cons (λ z. cond (same x z) 1 0) y xs ∙ ap (λ n. cond (same x y) 1 0 + n) (count_sum x xs)

  pub same_bag : (xs ys : List A) → IsPermutation xs ys → SameBag same xs ys
  same_bag xs ys p x = sym (count_sum x xs) ∙ sym (sum_by-IsPermutation (λ y. cond (same x y) 1 0) xs ys p) ∙ count_sum x ys

  -- putting in order keeps the elements
  module _ (order : A → A → Ordering) where
    placed_count : (z x : A) (ys : List A) → count_in same z (placed order x ys) ≡ count_in same z (x ∷ ys)
    unfolding placed
    placed_count z x [] = refl
    placed_count z x (y ∷ ys) = by (is_gt (order x y)) (placed_count z x ys)
      where
        by : (b : Bool) → count_in same z (placed order x ys) ≡ count_in same z (x ∷ ys) → count_in same z (cond b (y ∷ placed order x ys) (x ∷ y ∷ ys)) ≡ count_in same z (x ∷ y ∷ ys)
        by true h = omega (arith, h)
        by false h = refl

    pub order_count : (xs : List A) → SameBag same xs (in_order order xs)
    unfolding in_order
    order_count [] z = refl
    order_count (x ∷ xs) z = ap (λ n. cond (same z x) 1 0 + n) (order_count xs z) ∙ sym (placed_count z x (in_order order xs))

-- an order that ends with one that tells values apart
pub then_apart : {A : Type 0} (first second : A → A → Ordering) → IsToldApart second → IsToldApart (then_cmp first second)
then_apart first second apart x y e = apart x y (by (first x y) (second x y) e)
  where
    by : (r t : Ordering) → ordering_then r t ≡ Equal → t ≡ Equal
    by Less t f = cc
    by Equal t f = f
    by Greater t f = cc

-- ---- lists that go up

module _ {A : Type 0} (order : A → A → Ordering) where
  -- none of these is less than x
  abbrev pub Above : A → List A → Type 0
  Above x [] = Unit {0}
  Above x (y ∷ ys) = (is_lt (order y x) ≡ false) × Above x ys

  abbrev pub Up : List A → Type 0
  Up [] = Unit {0}
  Up (x ∷ xs) = Above x xs × Up xs

  above_from : (x : A) (xs : List A) → ((k : ℕ) → k < length xs → is_lt (order (get_or xs k x) x) ≡ false) → Above x xs
  above_from x [] h = tt
  above_from x (y ∷ ys) h = (h 0 (omega arith), above_from x ys (λ k p. h (suc k) (omega arith)))

  up_from : (xs : List A) → ((i j : ℕ) (d : A) → i ≤ j → j < length xs → is_lt (order (get_or xs j d) (get_or xs i d)) ≡ false) → Up xs
  up_from [] h = tt
  up_from (x ∷ xs) h = (above_from x xs (λ k p. h 0 (suc k) x (omega arith) (omega arith)), up_from xs (λ i j d p q. h (suc i) (suc j) d (omega arith) (omega arith)))

  module _ (total : IsTotalOrder order) (apart : IsToldApart order) where
    pub up_of : (xs : List A) → IsSortedBy (λ x y. is_lt (order x y)) xs → Up xs
    up_of xs h = up_from xs (sorted_far (λ x y. is_lt (order x y)) (ranks_by total (λ x. x)) xs h)

    -- ---- by the results of the order

    not_lt_itself : (x : A) → is_lt (order x x) ≡ false
    not_lt_itself x = ap is_lt (tied_itself total x)

    gt_not_lt : (r : Ordering) → is_gt r ≡ true → is_lt r ≡ false
    gt_not_lt Less e = cc
    gt_not_lt Equal e = cc
    gt_not_lt Greater e = refl

    lt_reversed : (r : Ordering) → is_lt (ordering_reverse r) ≡ is_gt r
    lt_reversed Less = refl
    lt_reversed Equal = refl
    lt_reversed Greater = refl

    -- the other way round
    turned : (x y : A) → is_lt (order y x) ≡ is_gt (order x y)
    turned x y = ap is_lt (total.antisymm y x) ∙ lt_reversed (order x y)

    neither : (r : Ordering) → is_lt r ≡ false → is_gt r ≡ false → r ≡ Equal
    neither Less p q = cc
    neither Equal p q = refl
    neither Greater p q = cc

    -- neither is less
    pub same_of : (x y : A) → is_lt (order x y) ≡ false → is_lt (order y x) ≡ false → x ≡ y
    same_of x y p q = apart x y (neither (order x y) p (sym (turned x y) ∙ q))

    below : (z x y : A) → is_gt (order x y) ≡ false → is_lt (order z y) ≡ false → is_lt (order z x) ≡ false
    below z x y p q = by (order x y) refl (order z x) refl
      where
        by : (r : Ordering) → r ≡ order x y → (s : Ordering) → s ≡ order z x → is_lt s ≡ false
        by r e Equal f = refl
        by r e Greater f = refl
        by Less e Less f = absurd (true≢false (ap is_lt (sym (total.trans z x y (sym f) (sym e))) ∙ q))
        by Equal e Less f = absurd (true≢false (ap is_lt f ∙ ap (λ w. is_lt (order z w)) (apart x y (sym e)) ∙ q))
        by Greater e Less f = absurd (true≢false (ap is_gt e ∙ p))

    above_down : (x y : A) (zs : List A) → is_gt (order x y) ≡ false → Above y zs → Above x zs
    above_down x y [] p a = tt
    above_down x y (z ∷ zs) p a = (below z x y p a.0, above_down x y zs p a.1)

    above_placed : (w x : A) (ys : List A) → is_lt (order x w) ≡ false → Above w ys → Above w (placed order x ys)
    unfolding placed
    above_placed w x [] p a = (p, tt)
    above_placed w x (y ∷ ys) p a = by (is_gt (order x y)) (above_placed w x ys p a.1)
      where
        by : (b : Bool) → Above w (placed order x ys) → Above w (cond b (y ∷ placed order x ys) (x ∷ y ∷ ys))
        by true rest = (a.0, rest)
        by false rest = (p, a)

    up_placed : (x : A) (ys : List A) → Up ys → Up (placed order x ys)
    unfolding placed
    up_placed x [] u = (tt, tt)
    up_placed x (y ∷ ys) u = by (is_gt (order x y)) refl (up_placed x ys u.1)
      where
        by : (b : Bool) → b ≡ is_gt (order x y) → Up (placed order x ys) → Up (cond b (y ∷ placed order x ys) (x ∷ y ∷ ys))
        by true e rest = (above_placed y x ys (gt_not_lt (order x y) (sym e)) u.0, rest)
        by false e rest = ((turned x y ∙ sym e, above_down x y ys (sym e) u.0), u)

    pub up_in_order : (xs : List A) → Up (in_order order xs)
    unfolding in_order
    up_in_order [] = tt
    up_in_order (x ∷ xs) = up_placed x (in_order order xs) (up_in_order xs)

    -- ---- one list alone goes up

    module _ (same : A → A → Bool) (decides : (x y : A) → Decides (same x y) (x ≡ y)) where
      -- what is among these is none that is less
      among : (x y : A) (zs : List A) → 0 < count_in same x zs → Above y zs → is_lt (order x y) ≡ false
      among x y [] some a = absurd (omega arith)
      among x y (z ∷ zs) some a = by (same x z) refl (among x y zs)
        where
          by : (b : Bool) → b ≡ same x z → (0 < count_in same x zs → Above y zs → is_lt (order x y) ≡ false) → is_lt (order x y) ≡ false
          by true e rest = ap (λ w. is_lt (order w y)) ((decides x z).0 (sym e)) ∙ a.0
          by false e rest = let none : cond {A = ℕ} (same x z) 1 0 ≡ 0 = ap (λ (t : Bool). cond {A = ℕ} t 1 0) (sym e) in rest (omega (arith, some, none)) a.1

      one : (x : A) (zs : List A) → count_in same x (x ∷ zs) ≡ 1 + count_in same x zs
      one x zs = ap (λ b. cond b 1 0 + count_in same x zs) ((decides x x).1 refl)

      pub unique : (xs ys : List A) → Up xs → Up ys → SameBag same xs ys → xs ≡ ys
      unique [] [] u v h = refl
      unique [] (y ∷ ys) u v h = absurd (omega (arith, h y, one y ys))
      unique (x ∷ xs) [] u v h = absurd (omega (arith, h x, one x xs))
      unique (x ∷ xs) (y ∷ ys) u v h =
          let first : x ≡ y = same_of x y
          (among x y (y ∷ ys) (omega (arith, h x, one x xs)) (not_lt_itself y, v.0))
          (among y x (x ∷ xs) (omega (arith, h y, one y ys)) (not_lt_itself x, u.0)) in
          let rest : SameBag same xs ys = λ z. omega (arith, h z, ap (λ (w : A). cond {A = ℕ} (same z w) 1 0) first) in
          (λ i. first i ∷ unique xs ys u.1 v.1 rest i)

      pub in_order_is : (xs ys : List A) → IsPermutation xs ys → IsSortedBy (λ x y. is_lt (order x y)) ys → ys ≡ in_order order xs
      in_order_is xs ys p h = unique ys (in_order order xs) (up_of ys h) (up_in_order xs) (λ z. sym (same_bag same xs ys p z) ∙ order_count same order xs z)

-- the order of new rows is total
pub group_total : (s : TableSchema) → IsTotalOrder (group_cmp s)
group_total s = then_total (on_total (values_of s) row_cmp_total) row_cmp_total
