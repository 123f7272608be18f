-- What holds of the parts of a cut, and of the rows of new files.
use Rattle.std.proofs.Common.{◌≡◌, ◌<◌, ◌≤◌, ◌+◌, Bool, true, false, ◌&&◌, cond, List, [], ◌∷◌, ◌++◌, length, nat_lt, nat_le, refl, sym, subst, ap, ◌∙◌, arith, ◌⊎◌, inl, inr, append_assoc, length-append}
use Rattle.std.specs.List.{AllByRecursion}
use Rattle.std.specs.Ordering.{is_gt}
use Rattle.std.specs.declared.cmp.Ordering.{Ordering}
use borrow.Author.Tests.{ltb-true, leb-true}
use Rattle.row_base.specs.declared.row.Datum.{Datum}
use Rattle.row_base.specs.Bags.{SameRows}
use Rattle.row_base.specs.RowOrder.{row_eq}
use Rattle.row_base.specs.Schema.{TableSchema}
use Rattle.row_base.proofs.RowOrder.{row_decides}
use Rattle.write_files.specs.declared.limits.TheConstants.{MAX_NEW_FILE_ROWS, MAX_NEW_FILE_SIZE}
use Rattle.write_files.specs.Order.{values_of, group_cmp, placed, in_order}
use Rattle.write_files.specs.Pieces.{cut, cut_after, joined, first_row, has_values, groups_of, has_room, rows_size, row_size, pieces_in, pieces_of}
use Rattle.write_files.proofs.Cuts.{rows_size_push}
use Rattle.write_files.proofs.Ordered.{order_count}

module _ {A : Type 0} where
  pub joined_append : (ps qs : List (List A)) → joined (ps ++ qs) ≡ joined ps ++ joined qs
  joined_append [] qs = refl
  joined_append (p ∷ ps) qs = ap (λ l. p ++ l) (joined_append ps qs) ∙ sym (append_assoc p (joined ps) (joined qs))

  each_split : (P : A → Type 0) (xs ys : List A) → AllByRecursion P (xs ++ ys) → AllByRecursion P xs × AllByRecursion P ys
  each_split P [] ys h = (tt, h)
  each_split P (x ∷ xs) ys h = let r = each_split P xs ys h.1 in ((h.0, r.0), r.1)

  pub each_append : (P : A → Type 0) (xs ys : List A) → AllByRecursion P xs → AllByRecursion P ys → AllByRecursion P (xs ++ ys)
  each_append P [] ys h k = k
  each_append P (x ∷ xs) ys h k = (h.0, each_append P xs ys h.1 k)

  pub each_weaker : (P Q : A → Type 0) → ((x : A) → P x → Q x) → (xs : List A) → AllByRecursion P xs → AllByRecursion Q xs
  each_weaker P Q w [] h = tt
  each_weaker P Q w (x ∷ xs) h = (w x h.0, each_weaker P Q w xs h.1)

  pub each_both : (P Q : A → Type 0) (xs : List A) → AllByRecursion P xs → AllByRecursion Q xs → AllByRecursion (λ x. P x × Q x) xs
  each_both P Q [] h k = tt
  each_both P Q (x ∷ xs) h k = ((h.0, k.0), each_both P Q xs h.1 k.1)

  -- what holds of all together holds in each part
  pub in_parts : (P : A → Type 0) (ps : List (List A)) → AllByRecursion P (joined ps) → AllByRecursion (AllByRecursion P) ps
  in_parts P [] h = tt
  in_parts P (p ∷ ps) h = let r = each_split P p (joined ps) h in (r.0, in_parts P ps r.1)

  -- putting in order keeps what holds of each
  module _ (P : A → Type 0) (order : A → A → Ordering) where
    each_placed : (x : A) (ys : List A) → P x → AllByRecursion P ys → AllByRecursion P (placed order x ys)
    unfolding placed
    each_placed x [] p h = (p, tt)
    each_placed x (y ∷ ys) p h = by (is_gt (order x y)) (each_placed x ys p h.1)
      where
        by : (b : Bool) → AllByRecursion P (placed order x ys) → AllByRecursion P (cond b (y ∷ placed order x ys) (x ∷ y ∷ ys))
        by true rest = (h.0, rest)
        by false rest = (p, h)

    pub each_in_order : (xs : List A) → AllByRecursion P xs → AllByRecursion P (in_order order xs)
    unfolding in_order
    each_in_order [] h = tt
    each_in_order (x ∷ xs) h = each_placed x (in_order order xs) h.0 (each_in_order xs h.1)

  module _ (goes : List A → A → Bool) where
    joined_after : (part xs : List A) → joined (cut_after goes part xs) ≡ part ++ xs
    unfolding cut_after
    joined_after part [] = refl
    joined_after part (x ∷ xs) = by (goes part x) (joined_after (part ++ x ∷ []) xs) (joined_after (x ∷ []) xs)
      where
        by : (b : Bool) → joined (cut_after goes (part ++ x ∷ []) xs) ≡ (part ++ x ∷ []) ++ xs → joined (cut_after goes (x ∷ []) xs) ≡ x ∷ xs
            → joined (cond b (cut_after goes (part ++ x ∷ []) xs) (part ∷ cut_after goes (x ∷ []) xs)) ≡ part ++ x ∷ xs
        by true p q = p ∙ append_assoc part (x ∷ []) xs
        by false p q = ap (λ l. part ++ l) q

    pub joined_cut : (xs : List A) → joined (cut goes xs) ≡ xs
    unfolding cut
    joined_cut [] = refl
    joined_cut (x ∷ xs) = joined_after (x ∷ []) xs

    -- what holds of one element, and of one more that goes with those before it, holds of each part
    module _ (Q : List A → Type 0) (one : (x : A) → Q (x ∷ [])) (more : (p : List A) (x : A) → Q p → goes p x ≡ true → Q (p ++ x ∷ [])) where
      kept_after : (part xs : List A) → Q part → AllByRecursion Q (cut_after goes part xs)
      unfolding cut_after
      kept_after part [] q = (q, tt)
      kept_after part (x ∷ xs) q = by (goes part x) refl (kept_after (part ++ x ∷ []) xs) (kept_after (x ∷ []) xs (one x))
        where
          by : (b : Bool) → b ≡ goes part x → (Q (part ++ x ∷ []) → AllByRecursion Q (cut_after goes (part ++ x ∷ []) xs)) → AllByRecursion Q (cut_after goes (x ∷ []) xs)
              → AllByRecursion Q (cond b (cut_after goes (part ++ x ∷ []) xs) (part ∷ cut_after goes (x ∷ []) xs))
          by true e p r = p (more part x q (sym e))
          by false e p r = (q, r)

      pub kept : (xs : List A) → AllByRecursion Q (cut goes xs)
      unfolding cut
      kept [] = tt
      kept (x ∷ xs) = kept_after (x ∷ []) xs (one x)

-- ---- the rows of all files

joined_pieces : (gs : List (List (List Datum))) → joined (pieces_in gs) ≡ joined gs
unfolding pieces_in
joined_pieces [] = refl
joined_pieces (g ∷ gs) =
    joined_append (cut has_room g) (pieces_in gs)
    ∙ ap (λ l. l ++ joined (pieces_in gs)) (joined_cut has_room g) ∙ ap (λ l. g ++ l) (joined_pieces gs)

pub joined_is : (s : TableSchema) (rows : List (List Datum)) → joined (pieces_of s rows) ≡ in_order (group_cmp s) rows
unfolding pieces_of
joined_is s rows = joined_pieces (groups_of s rows) ∙ joined_cut (has_values s) (in_order (group_cmp s) rows)

pub rows_kept : (s : TableSchema) (rows : List (List Datum)) → SameRows rows (joined (pieces_of s rows))
rows_kept s rows = subst (SameRows rows) (sym (joined_is s rows)) (order_count row_eq (group_cmp s) rows)

-- what holds of each row holds of each row of a file
pub each_row : (P : List Datum → Type 0) (s : TableSchema) (rows : List (List Datum)) → AllByRecursion P rows → AllByRecursion (AllByRecursion P) (pieces_of s rows)
each_row P s rows h = in_parts P (pieces_of s rows) (subst (AllByRecursion P) (sym (joined_is s rows)) (each_in_order P (group_cmp s) rows h))

-- ---- the limits of a file

abbrev pub Within : List (List Datum) → Type 0
Within rows = (0 < length rows) × (length rows ≤ MAX_NEW_FILE_ROWS) × ((rows_size rows ≤ MAX_NEW_FILE_SIZE) ⊎ (length rows ≡ 1))

first_of : (a b : Bool) → (a && b) ≡ true → a ≡ true
first_of true b e = refl
first_of false b e = cc

second_of : (a b : Bool) → (a && b) ≡ true → b ≡ true
second_of true b e = e
second_of false b e = cc

one_within : (r : List Datum) → Within (r ∷ [])
one_within r = (omega arith, omega arith, inr refl)

more_within : (rows : List (List Datum)) (r : List Datum) → Within rows → has_room rows r ≡ true → Within (rows ++ r ∷ [])
more_within rows r w e =
    let few = ltb-true (length rows) MAX_NEW_FILE_ROWS (first_of (nat_lt (length rows) MAX_NEW_FILE_ROWS) (nat_le (rows_size rows + row_size r) MAX_NEW_FILE_SIZE) e) in
    let small = leb-true (rows_size rows + row_size r) MAX_NEW_FILE_SIZE (second_of (nat_lt (length rows) MAX_NEW_FILE_ROWS) (nat_le (rows_size rows + row_size r) MAX_NEW_FILE_SIZE) e) in
    let long = length-append rows (r ∷ []) in
    (omega (arith, long), omega (arith, long, few), inl (omega (arith, small, rows_size_push rows r)))

all_within : (gs : List (List (List Datum))) → AllByRecursion Within (pieces_in gs)
unfolding pieces_in
all_within [] = tt
all_within (g ∷ gs) = each_append Within (cut has_room g) (pieces_in gs) (kept has_room Within one_within more_within g) (all_within gs)

pub each_within : (s : TableSchema) (rows : List (List Datum)) → AllByRecursion Within (pieces_of s rows)
unfolding pieces_of
each_within s rows = all_within (groups_of s rows)

-- ---- the partition of a file

-- all rows have these values in the partition columns
abbrev pub HaveValues : TableSchema → List Datum → List (List Datum) → Type 0
HaveValues s v rows = AllByRecursion (λ r. values_of s r ≡ v) rows

-- rows of one partition
abbrev pub AreOne : TableSchema → List (List Datum) → Type 0
AreOne s rows = (0 < length rows) × HaveValues s (values_of s (first_row rows)) rows

pub first_stays : (rows : List (List Datum)) (r : List Datum) → 0 < length rows → first_row (rows ++ r ∷ []) ≡ first_row rows
first_stays [] r some = absurd (omega (arith, some))
first_stays (x ∷ rows) r some = refl

pub one_partition : (s : TableSchema) (r : List Datum) → AreOne s (r ∷ [])
one_partition s r = (omega arith, (refl, tt))

pub more_partition : (s : TableSchema) (rows : List (List Datum)) (r : List Datum) → AreOne s rows → has_values s rows r ≡ true → AreOne s (rows ++ r ∷ [])
more_partition s rows r one e =
    let v = values_of s (first_row rows) in
    let same : values_of s r ≡ v = sym ((row_decides v (values_of s r)).0 e) in
    let long = length-append rows (r ∷ []) in
    (omega (arith, long), subst (λ x. HaveValues s (values_of s x) (rows ++ r ∷ [])) (sym (first_stays rows r one.0)) (each_append (λ x. values_of s x ≡ v) rows (r ∷ []) one.1 (same, tt)))

first_has : (s : TableSchema) (v : List Datum) (rows : List (List Datum)) → 0 < length rows → HaveValues s v rows → AreOne s rows
first_has s v [] some h = absurd (omega (arith, some))
first_has s v (r ∷ rows) some h = (some, each_weaker (λ x. values_of s x ≡ v) (λ x. values_of s x ≡ values_of s r) (λ x e. e ∙ sym h.0) (r ∷ rows) h)

all_one : (s : TableSchema) (gs : List (List (List Datum))) → AllByRecursion (AreOne s) gs → AllByRecursion (AreOne s) (pieces_in gs)
unfolding pieces_in
all_one s [] h = tt
all_one s (g ∷ gs) h =
    let v = values_of s (first_row g) in
    let values : AllByRecursion (HaveValues s v) (cut has_room g) = in_parts (λ r. values_of s r ≡ v) (cut has_room g) (subst (HaveValues s v) (sym (joined_cut has_room g)) h.0.1) in
    each_append (AreOne s) (cut has_room g) (pieces_in gs)
    (each_weaker (λ p. Within p × HaveValues s v p) (AreOne s) (λ p w. first_has s v p w.0.0 w.1) (cut has_room g)
    (each_both Within (HaveValues s v) (cut has_room g) (kept has_room Within one_within more_within g) values))
    (all_one s gs h.1)

pub each_one : (s : TableSchema) (rows : List (List Datum)) → AllByRecursion (AreOne s) (pieces_of s rows)
unfolding pieces_of
each_one s rows = all_one s (groups_of s rows) (kept (has_values s) (AreOne s) (one_partition s) (more_partition s) (in_order (group_cmp s) rows))
