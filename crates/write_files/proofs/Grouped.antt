-- The groups of rows: one for each list of partition values, in order of these.
use Rattle.std.proofs.Common.{◌≡◌, zero, suc, ◌<◌, ◌+◌, Bool, true, false, cond, List, [], ◌∷◌, ◌++◌, length, get_or, refl, sym, subst, ap, ◌∙◌, arith}
use Rattle.std.specs.Prelude.{IsSorted}
use Rattle.std.specs.List.{AllByRecursion, AllPairs}
use Rattle.std.specs.Ordering.{is_lt, is_eq, ordering_then, ordering_reverse}
use Rattle.std.specs.declared.cmp.Ordering.{Ordering}
use Rattle.std.specs.declared.cmp.Ordering.TheVariants.{Less, Equal, Greater}
use Rattle.std.proofs.lemmas.Bool.{true≢false}
use Rattle.std.proofs.lemmas.Cmp.{tied_itself}
use Rattle.std.proofs.lemmas.List.Elements.{All-from_recursion}
use Rattle.row_base.specs.declared.row.Datum.{Datum}
use Rattle.row_base.specs.RowOrder.{row_cmp, row_eq}
use Rattle.row_base.specs.RowOrderLaws.{row_cmp_total}
use Rattle.row_base.specs.Bags.{SameRows}
use Rattle.row_base.specs.Schema.{TableSchema}
use Rattle.row_base.proofs.RowOrder.{row_apart}
use Rattle.write_files.specs.Order.{values_of, group_cmp, in_order}
use Rattle.write_files.specs.Pieces.{cut, cut_after, joined, first_row, has_values, groups_of}
use Rattle.write_files.specs.Laws.{IsGroup, GroupsAreOrdered}
use Rattle.write_files.proofs.Ordered.{Above, Up, up_in_order, then_apart, order_count, group_total}
use Rattle.write_files.proofs.Parts.{AreOne, HaveValues, one_partition, more_partition, first_stays, kept, joined_cut, in_parts, each_weaker, each_both}

-- ---- by the order of values

-- of two that differ, of which the second isn't less
greater : (v w : List Datum) → is_lt (row_cmp w v) ≡ false → row_eq v w ≡ false → row_cmp v w ≡ Less
greater v w e d = by (row_cmp v w) refl
  where
    by : (r : Ordering) → r ≡ row_cmp v w → row_cmp v w ≡ Less
    by Less p = sym p
    by Equal p = absurd (true≢false (ap is_eq p ∙ d))
    by Greater p = absurd (true≢false (ap (λ q. is_lt (ordering_reverse q)) p ∙ ap is_lt (sym (row_cmp_total.antisymm w v)) ∙ e))

-- what isn't less than a greater one is greater
beyond : (v w z : List Datum) → row_cmp v w ≡ Less → is_lt (row_cmp z w) ≡ false → row_cmp v z ≡ Less
beyond v w z p e = by (row_cmp w z) refl
  where
    by : (r : Ordering) → r ≡ row_cmp w z → row_cmp v z ≡ Less
    by Less q = row_cmp_total.trans v w z p (sym q)
    by Equal q = ap (row_cmp v) (sym (row_apart w z (sym q))) ∙ p
    by Greater q = absurd (true≢false (ap (λ r. is_lt (ordering_reverse r)) q ∙ ap is_lt (sym (row_cmp_total.antisymm z w)) ∙ e))

first_not_less : (r t : Ordering) → is_lt (ordering_then r t) ≡ false → is_lt r ≡ false
first_not_less Less t e = e
first_not_less Equal t e = refl
first_not_less Greater t e = refl

first_in : (P : List Datum → Type 0) (g : List (List Datum)) → 0 < length g → AllByRecursion P g → P (first_row g)
first_in P [] some h = absurd (omega (arith, some))
first_in P (r ∷ g) some h = h.0

module _ (s : TableSchema) where
  -- rows of greater values
  abbrev Later : List Datum → List (List Datum) → Type 0
  Later v rows = AllByRecursion (λ r. row_cmp v (values_of s r) ≡ Less) rows

  -- rows whose values aren't less
  abbrev From : List Datum → List (List Datum) → Type 0
  From v rows = AllByRecursion (λ r. is_lt (row_cmp (values_of s r) v) ≡ false) rows

  -- groups of greater values, and groups in order of their values
  abbrev After : List Datum → List (List (List Datum)) → Type 0
  After v gs = AllByRecursion (λ g. row_cmp v (values_of s (first_row g)) ≡ Less) gs

  abbrev Rising : List (List (List Datum)) → Type 0
  Rising [] = Unit {0}
  Rising (g ∷ gs) = After (values_of s (first_row g)) gs × Rising gs

  from_above : (x : List Datum) (xs : List (List Datum)) → Above (group_cmp s) x xs → From (values_of s x) xs
  from_above x [] a = tt
  from_above x (z ∷ xs) a = (first_not_less (row_cmp (values_of s z) (values_of s x)) (row_cmp z x) a.0, from_above x xs a.1)

  later_from : (v w : List Datum) (xs : List (List Datum)) → row_cmp v w ≡ Less → From w xs → Later v xs
  later_from v w [] p h = tt
  later_from v w (z ∷ xs) p h = (beyond v w (values_of s z) p h.0, later_from v w xs p h.1)

  groups_one : (rows : List (List Datum)) → AllByRecursion (AreOne s) (cut (has_values s) rows)
  groups_one rows = kept (has_values s) (AreOne s) (one_partition s) (more_partition s) rows

  after_of : (v : List Datum) (rows : List (List Datum)) → Later v rows → After v (cut (has_values s) rows)
  after_of v rows h =
      let P : List Datum → Type 0 = λ r. row_cmp v (values_of s r) ≡ Less in
      each_weaker (λ g. AreOne s g × AllByRecursion P g) (λ g. P (first_row g)) (λ g k. first_in P g k.0.0 k.1) (cut (has_values s) rows)
      (each_both (AreOne s) (AllByRecursion P) (cut (has_values s) rows) (groups_one rows)
      (in_parts P (cut (has_values s) rows) (subst (AllByRecursion P) (sym (joined_cut (has_values s) rows)) h)))

  rising_after : (part xs : List (List Datum)) → AreOne s part → From (values_of s (first_row part)) xs → Up (group_cmp s) xs → Rising (cut_after (has_values s) part xs)
  unfolding cut_after cut
  rising_after part [] one f u = (tt, tt)
  rising_after part (x ∷ xs) one f u =
      by (has_values s part x) refl (rising_after (part ++ x ∷ []) xs) (rising_after (x ∷ []) xs (one_partition s x) (from_above x xs u.0) u.1)
    where
      v : List Datum
      v = values_of s (first_row part)

      by : (b : Bool) → b ≡ has_values s part x
          → (AreOne s (part ++ x ∷ []) → From (values_of s (first_row (part ++ x ∷ []))) xs → Up (group_cmp s) xs → Rising (cut_after (has_values s) (part ++ x ∷ []) xs))
          → Rising (cut_after (has_values s) (x ∷ []) xs)
          → Rising (cond b (cut_after (has_values s) (part ++ x ∷ []) xs) (part ∷ cut_after (has_values s) (x ∷ []) xs))
      by true e p q = p (more_partition s part x one (sym e)) (subst (λ r. From (values_of s r) xs) (sym (first_stays part x one.0)) f.1) u.1
      by false e p q =
          let less = greater v (values_of s x) f.0 (sym e) in
          (after_of v (x ∷ xs) (less, later_from v (values_of s x) xs less (from_above x xs u.0)), q)

  rising : (rows : List (List Datum)) → Up (group_cmp s) rows → Rising (cut (has_values s) rows)
  unfolding cut
  rising [] u = tt
  rising (x ∷ xs) u = rising_after (x ∷ []) xs (one_partition s x) (from_above x xs u.0) u.1

  pairs : (gs : List (List (List Datum))) → Rising gs → AllPairs (λ g h. row_cmp (values_of s (first_row g)) (values_of s (first_row h)) ≡ Less) gs
  pairs [] h i j d lt within = absurd (omega (arith, within))
  pairs (g ∷ gs) h zero zero d lt within = absurd (omega (arith, lt))
  pairs (g ∷ gs) h zero (suc j) d lt within = All-from_recursion (λ k. row_cmp (values_of s (first_row g)) (values_of s (first_row k)) ≡ Less) gs h.0 j d (omega (arith, within))
  pairs (g ∷ gs) h (suc i) zero d lt within = absurd (omega (arith, lt))
  pairs (g ∷ gs) h (suc i) (suc j) d lt within = pairs gs h.1 i j d (omega (arith, lt)) (omega (arith, within))

  -- ---- the rows of a group

  -- parts of a list that goes up go up
  up_split : (xs ys : List (List Datum)) → Up (group_cmp s) (xs ++ ys) → Up (group_cmp s) xs × Up (group_cmp s) ys
  up_split [] ys u = (tt, u)
  up_split (x ∷ xs) ys u = let r = up_split xs ys u.1 in ((above_front x xs ys u.0, r.0), r.1)
    where
      above_front : (w : List Datum) (front back : List (List Datum)) → Above (group_cmp s) w (front ++ back) → Above (group_cmp s) w front
      above_front w [] back a = tt
      above_front w (z ∷ front) back a = (a.0, above_front w front back a.1)

  up_parts : (gs : List (List (List Datum))) → Up (group_cmp s) (joined gs) → AllByRecursion (Up (group_cmp s)) gs
  up_parts [] u = tt
  up_parts (g ∷ gs) u = let r = up_split g (joined gs) u in (r.0, up_parts gs r.1)

  -- with the same values the rows decide
  by_rows : (v x y : List Datum) → values_of s x ≡ v → values_of s y ≡ v → is_lt (group_cmp s y x) ≡ false → is_lt (row_cmp y x) ≡ false
  by_rows v x y p q e =
      let tied : row_cmp (values_of s y) (values_of s x) ≡ Equal = (λ i. row_cmp (q i) (p i)) ∙ tied_itself row_cmp_total v in
      ap (λ r. is_lt (ordering_then r (row_cmp y x))) (sym tied) ∙ e

  sorted : (v : List Datum) (g : List (List Datum)) → HaveValues s v g → Up (group_cmp s) g → IsSorted row_cmp g
  sorted v [] h u k d low within = absurd (omega (arith, within))
  sorted v (x ∷ []) h u k d low within = absurd (omega (arith, within))
  sorted v (x ∷ y ∷ g) h u zero d low within = by_rows v x y h.0 h.1.0 u.0.0
  sorted v (x ∷ y ∷ g) h u (suc k) d low within =
      let on : suc k + 1 ≡ suc (k + 1) = omega arith in
      ap (λ n. is_lt (row_cmp (get_or (x ∷ y ∷ g) n d) (get_or (y ∷ g) k d))) on ∙ sorted v (y ∷ g) h.1 u.1 k d (omega arith) (omega (arith, within))

pub groups_ordered : GroupsAreOrdered
groups_ordered s rows =
    let order = group_cmp s in
    let R = in_order order rows in
    let u : Up order R = up_in_order order (group_total s) (then_apart _ row_cmp row_apart) rows in
    let gs = groups_of s rows in
    record {
      same = subst (SameRows rows) (sym (joined_cut (has_values s) R)) (order_count row_eq order rows);
      each = All-from_recursion (IsGroup s) gs (each_weaker (λ g. AreOne s g × Up order g) (IsGroup s)
          (λ g h. record {
            some = h.0.0;
            values = All-from_recursion (λ r. values_of s r ≡ values_of s (first_row g)) g h.0.1;
            sorted = sorted s (values_of s (first_row g)) g h.0.1 h.1;
          })
          gs (each_both (AreOne s) (Up order) gs (groups_one s R) (up_parts s gs (subst (Up order) (sym (joined_cut (has_values s) R)) u))));
      order = pairs s gs (rising s R u);
    }
