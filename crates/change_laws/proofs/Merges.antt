-- Merges.
use Rattle.std.proofs.Common.{◌≡◌, ℕ, Bool, true, false, not, ◌&&◌, List, [], ◌∷◌, ◌++◌, Ok, Err, refl, sym, ap, ◌∙◌, subst, arith}
use Rattle.std.specs.Prelude.{Option, Some, None, filter, if◌then◌else◌, is_some, option_map, unwrap_or}
use Rattle.std.specs.List.{list_any}
use Rattle.std.specs.Result.{result_map_both}
use Rattle.std.proofs.lemmas.List.Elements.{filter_agree}
use Rattle.row_base.specs.Bags.{others}
use Rattle.row_base.specs.Faults.{◌>>=◌}
use Rattle.row_base.specs.Schema.{TableSchema}
use Rattle.row_base.specs.declared.row.Datum.{Datum}
use Rattle.row_base.proofs.Bags.{count_of-append}
use Rattle.predicates.specs.declared.pred.Pred.{Pred}
use Rattle.op_types.specs.declared.bound.Change.{Change}
use Rattle.op_types.specs.declared.bound.Change.TheVariants as change
use Rattle.op_types.specs.declared.bound.MergeSpec.{MergeSpec}
use Rattle.dml_ops.specs.declared.fault.ImageFault.TheVariants as image
use Rattle.dml_ops.specs.declared.fault.WrongRow.{WrongRow}
use Rattle.dml_ops.specs.Images.{updated}
use Rattle.dml_ops.specs.Changes.{passes}
use Rattle.dml_ops.specs.Outcomes.{Outcome, given, wrong_of, lesser, lesser_by, gives_way, its_row, rows_of, least_of, finished}
use Rattle.dml_ops.proofs.Lesser.{lesser_none}
use Rattle.merge_op.specs.Matches.{is_match}
use Rattle.merge_op.specs.Merges.{match_of, change_by, change_of, source_of, changed_to, merge_step, is_another, is_ambiguous, itself, least_where, unambiguous, merge_fault, is_touched, merged, rows_in, added}
use Rattle.merge_op.specs.Operations as merges
use Rattle.merge_op.specs.Operations.{in_scope}
use Rattle.merge_op.proofs.Assembled.{merge_is}
use Rattle.merge_op.proofs.Least.{itself_none}
use Rattle.merge_op.proofs.Scoped.{outside, stays}
use Rattle.table_changes.specs.Table.{File}
use Rattle.table_changes.specs.Operations.{SameIfGiven, operated}
use Rattle.table_changes.specs.Statements.{any_row, kept_with, joined, results, unmatched}
use Rattle.table_changes.proofs.Results.{same_refl, same_trans, kept_same, joined_both}
use Rattle.table_changes.proofs.Statements.{merge_sound}
use Rattle.change_laws.specs.Operations.{if_given, is_changed, merge_image, insertable, merge_scope, merge_operation}
use Rattle.change_laws.specs.Laws.{EachMergeIsSound, EachMergeGives, EachMergedFileIsTaken}
use Rattle.change_laws.proofs.Values.{is_said, chain_said, updated_said}
use Rattle.change_laws.proofs.Outcomes.{same_merge, given_behind, behind_same}
use Rattle.change_laws.proofs.RowChanges.{any_is}
use Rattle.change_laws.proofs.Scopes.{scope_is_named}

abbrev Row : Type 0
Row = List Datum

-- no row of two is ambiguous and none is wrong
abbrev if_right : Option Row → Option WrongRow → List Row → Option (List Row)
if_right None None rows = Some rows
if_right None (Some w) rows = None
if_right (Some x) l rows = None

two_wrong : (a : Option Row) (w : WrongRow) (l : Option WrongRow) (rows : List Row) → if_right a (lesser (Some w) l) rows ≡ None
two_wrong (Some x) w l rows = refl
two_wrong None w None rows = refl
two_wrong None w (Some v) rows = by (gives_way its_row (Some w) (its_row v))
  where
    by : (c : Bool) → if_right None (if c then Some v else Some w) rows ≡ None
    by true = refl
    by false = refl

two_ambiguous : (x : Row) (o : Option Row) (l : Option WrongRow) (rows : List Row) → if_right (lesser_by itself (Some x) o) l rows ≡ None
two_ambiguous x None l rows = refl
two_ambiguous x (Some y) l rows = by (gives_way itself (Some x) (itself y))
  where
    by : (c : Bool) → if_right (if c then Some y else Some x) l rows ≡ None
    by true = refl
    by false = refl

more_right : (a : Option Row) (l : Option WrongRow) (ys rows : List Row) → if_right a l (ys ++ rows) ≡ kept_with ys (if_right a l rows)
more_right None None ys rows = refl
more_right None (Some w) ys rows = refl
more_right (Some x) l ys rows = refl

module _ (schema : TableSchema) (m : MergeSpec ℕ) where
  step_said : (x : Row) → is_said (merge_step schema m x) ≡ true
  step_said x = by (change_of m x)
    where
      by : (c : Option (Change ℕ)) → is_said (unwrap_or (option_map (changed_to schema x (source_of (match_of m x))) c) (Ok (x ∷ []))) ≡ true
      by None = refl
      by (Some change.Delete) = refl
      by (Some (change.Update sets)) = chain_said (updated schema sets x (source_of (match_of m x))) (λ y. Ok (y ∷ [])) (updated_said schema sets x (source_of (match_of m x))) (λ y. refl)

  right_rows : (xs : List Row) → if_right (least_where (is_ambiguous m) xs) (least_of (merge_step schema m) xs) (rows_of (merge_step schema m) xs) ≡ results (merge_image schema m) xs
  right_rows [] = refl
  right_rows (x ∷ xs) = by (is_ambiguous m x) (merge_step schema m x) (step_said x) (right_rows xs)
    where
      A : Option Row
      A = least_where (is_ambiguous m) xs

      L : Option WrongRow
      L = least_of (merge_step schema m) xs

      R : List Row
      R = rows_of (merge_step schema m) xs

      by : (b : Bool) (o : Outcome) → is_said o ≡ true
          → if_right (least_where (is_ambiguous m) xs) (least_of (merge_step schema m) xs) (rows_of (merge_step schema m) xs) ≡ results (merge_image schema m) xs
          → if_right (lesser_by itself (if b then Some x else None) (least_where (is_ambiguous m) xs)) (lesser (wrong_of x o) (least_of (merge_step schema m) xs)) (given o ++ rows_of (merge_step schema m) xs)
          ≡ joined (if b then None else if_given o) (results (merge_image schema m) xs)
      by true o h rest = two_ambiguous x A (lesser (wrong_of x o) L) (given o ++ R)
      by false (Ok ys) h rest =
          ap (λ (a : Option Row). if_right a (lesser None L) (ys ++ R)) (itself_none A) ∙ ap (λ (l : Option WrongRow). if_right A l (ys ++ R)) (lesser_none L)
          ∙ more_right A L ys R ∙ ap (kept_with ys) rest
      by false (Err (image.Wrong w)) h rest = two_wrong (lesser_by itself None A) (record { row = x; wrong = w }) L R
      by false (Err image.NoMemory) h rest = absurd cc

  -- a row that no clause changes stays, and isn't ambiguous
  unchanged : (x : Row) → change_of m x ≡ None → merge_image schema m x ≡ Some (x ∷ [])
  unchanged x e = by (match_of m x) e ∙ ap if_given (stays schema m x e)
    where
      by : (o : Option (Row × Bool)) → change_by m x o ≡ None → (if is_some m.matched && is_another o then None else if_given (merge_step schema m x)) ≡ if_given (merge_step schema m x)
      by (Some f) e = ap (λ (c : Option (Change ℕ)). if is_some c && f.1 then None else if_given (merge_step schema m x)) e
      by None e = never (is_some m.matched)
        where
          never : (b : Bool) → (if b && false then None else if_given (merge_step schema m x)) ≡ if_given (merge_step schema m x)
          never true = refl
          never false = refl

  -- the unchanged rows before what the others give
  apart : (xs : List Row) → SameIfGiven (results (merge_image schema m) xs) (kept_with (others (is_changed m) xs) (results (merge_image schema m) (filter (is_changed m) xs)))
  apart [] = λ x. refl
  apart (x ∷ xs) = by (change_of m x) refl (apart xs)
    where
      O : List Row
      O = others (is_changed m) xs

      Q : Option (List Row)
      Q = results (merge_image schema m) (filter (is_changed m) xs)

      swapped : (t q : Option (List Row)) → SameIfGiven (joined t (kept_with O q)) (kept_with O (joined t q))
      swapped None q = tt
      swapped (Some ys) None = tt
      swapped (Some ys) (Some zs) = λ y.
          let a = count_of-append y ys (O ++ zs) in
          let b = count_of-append y O zs in
          let c = count_of-append y O (ys ++ zs) in
          let d = count_of-append y ys zs in
          omega arith

      before : (q : Option (List Row)) → kept_with (x ∷ []) (kept_with O q) ≡ kept_with (x ∷ O) q
      before None = refl
      before (Some zs) = refl

      by : (c : Option (Change ℕ)) → change_of m x ≡ c
          → SameIfGiven (results (merge_image schema m) xs) (kept_with (others (is_changed m) xs) (results (merge_image schema m) (filter (is_changed m) xs)))
          → SameIfGiven (joined (merge_image schema m x) (results (merge_image schema m) xs))
          (kept_with (if not (is_some c) then x ∷ others (is_changed m) xs else others (is_changed m) xs) (results (merge_image schema m) (if is_some c then x ∷ filter (is_changed m) xs else filter (is_changed m) xs)))
      by (Some c) e h =
          same_trans (joined (merge_image schema m x) (results (merge_image schema m) xs)) (joined (merge_image schema m x) (kept_with O Q)) (kept_with O (joined (merge_image schema m x) Q))
          (joined_both (merge_image schema m x) (merge_image schema m x) (results (merge_image schema m) xs) (kept_with O Q) (same_refl (merge_image schema m x)) h) (swapped (merge_image schema m x) Q)
      by None e h =
          subst (λ (t : Option (List Row)). SameIfGiven (joined t (results (merge_image schema m) xs)) (kept_with (x ∷ O) Q)) (sym (unchanged x e))
          (subst (λ (o : Option (List Row)). SameIfGiven (kept_with (x ∷ []) (results (merge_image schema m) xs)) o) (before Q)
          (kept_same (x ∷ []) (x ∷ []) (results (merge_image schema m) xs) (kept_with O Q) (λ y. refl) h))

  -- ---- the rows that are added

  all_added : (rs : List Row) → results (λ r. Some (r ∷ [])) rs ≡ Some rs
  all_added [] = refl
  all_added (r ∷ rs) = ap (λ (o : Option (List Row)). joined (Some (r ∷ [])) o) (all_added rs)

  added_are : (xs : List Row) → unmatched (is_match m.keys) (insertable m) xs ≡ added m xs
  added_are xs = by m.insert
    where
      by : (b : Bool) → unmatched (is_match m.keys) (if b then m.source else []) xs ≡ (if b then filter (λ s. not (list_any (λ x. is_match m.keys x s) xs)) m.source else [])
      by true = filter_agree (λ r. not (any_row (λ x. is_match m.keys x r) xs)) (λ s. not (list_any (λ x. is_match m.keys x s) xs)) (λ s. ap not (any_is (λ x. is_match m.keys x s) xs)) m.source
      by false = refl

  -- ---- what the rows of the scope give

  ended : (a : Option Row) (l : Option WrongRow) (rows more : List Row)
      → if_given (unambiguous a >>= λ u. result_map_both (λ ys. ys) merge_fault (finished rows l) >>= λ ys. Ok (ys ++ more)) ≡ option_map (λ ys. ys ++ more) (if_right a l rows)
  ended None None rows more = refl
  ended None (Some w) rows more = refl
  ended (Some x) l rows more = refl

  with_added : (o q : Option (List Row)) (kept more : List Row) → SameIfGiven o (kept_with kept q) → SameIfGiven (option_map (λ ys. ys ++ more) o) (kept_with kept (joined q (Some more)))
  with_added None None kept more h = tt
  with_added None (Some zs) kept more h = h
  with_added (Some ys) None kept more h = h
  with_added (Some ys) (Some zs) kept more h = λ x.
      let a = h x in
      let b = count_of-append x ys more in
      let c = count_of-append x kept zs in
      let d = count_of-append x kept (zs ++ more) in
      let e = count_of-append x zs more in
      omega arith

  module _ (may : Pred ℕ → File → Bool) where
    scope_gives : (xs : List Row) → SameIfGiven (if_given (merges.gives schema m xs)) ((merge_operation may schema m).gives xs)
    scope_gives xs =
        let A = least_where (is_ambiguous m) xs in
        let L = least_of (merge_step schema m) xs in
        let R = rows_of (merge_step schema m) xs in
        let O = others (is_changed m) xs in
        let Q = results (merge_image schema m) (filter (is_changed m) xs) in
        let came : if_given (merges.gives schema m xs) ≡ option_map (λ ys. ys ++ added m xs) (results (merge_image schema m) xs)
        = ended A L R (added m xs) ∙ ap (option_map (λ ys. ys ++ added m xs)) (right_rows xs) in
        let more : results (λ r. Some (r ∷ [])) (unmatched (is_match m.keys) (insertable m) xs) ≡ Some (added m xs)
        = all_added (unmatched (is_match m.keys) (insertable m) xs) ∙ ap (λ (l : List Row). Some l) (added_are xs) in
        subst (λ (o : Option (List Row)). SameIfGiven o ((merge_operation may schema m).gives xs)) (sym came)
        (subst (λ (o : Option (List Row)). SameIfGiven (option_map (λ ys. ys ++ added m xs) (results (merge_image schema m) xs)) (kept_with O (joined Q o))) (sym more)
        (with_added (results (merge_image schema m) xs) Q O (added m xs) (apart xs)))

    operated_is : (xs : List Row) → operated passes (merge_operation may schema m) xs ≡ option_map (λ ys. others (in_scope m) xs ++ ys) ((merge_operation may schema m).gives (filter (in_scope m) xs))
    operated_is xs =
        ap (λ (l : List Row). option_map (λ ys. l ++ ys) ((merge_operation may schema m).gives (filter (passes (merge_scope m)) xs)))
        (filter_agree (λ x. not (passes (merge_scope m) x)) (λ x. not (in_scope m x)) (λ x. ap not (scope_is_named m x)) xs)
        ∙ ap (λ (l : List Row). option_map (λ ys. others (in_scope m) xs ++ ys) ((merge_operation may schema m).gives l))
        (filter_agree (passes (merge_scope m)) (in_scope m) (scope_is_named m) xs)

pub merge_gives : EachMergeGives
merge_gives may schema m files =
    let rows = rows_in files in
    let S = in_scope m in
    let made = merged schema m files >>= λ c. Ok (rows_in (filter (λ f. not (is_touched m f)) files) ++ c.rows) in
    let meant = merges.gives schema m (filter S rows) >>= λ ys. Ok (others S rows ++ ys) in
    same_trans (if_given made) (if_given meant) (operated passes (merge_operation may schema m) rows) (same_merge made meant (merge_is schema m files))
    (subst (λ (a : Option (List Row)). SameIfGiven a (operated passes (merge_operation may schema m) rows)) (sym (given_behind (others S rows) (merges.gives schema m (filter S rows))))
    (subst (λ (b : Option (List Row)). SameIfGiven (option_map (λ ys. others S rows ++ ys) (if_given (merges.gives schema m (filter S rows)))) b) (sym (operated_is schema m may rows))
    (behind_same (others S rows) (others S rows) (if_given (merges.gives schema m (filter S rows))) ((merge_operation may schema m).gives (filter S rows)) (λ x. refl) (scope_gives schema m may (filter S rows)))))

-- a row that is changed is of the scope
changed_inside : (schema : TableSchema) (m : MergeSpec ℕ) (x : Row) → is_changed m x ≡ true → passes (merge_scope m) x ≡ true
changed_inside schema m x e = scope_is_named m x ∙ by (in_scope m x) refl
  where
    by : (b : Bool) → in_scope m x ≡ b → b ≡ true
    by true h = refl
    by false h = sym (ap is_some (outside schema m x h)) ∙ e

pub merge_is_sound : EachMergeIsSound
merge_is_sound may schema m =
    merge_sound (Pred ℕ) passes may (merge_scope m) (is_changed m) (merge_image schema m) (is_match m.keys) (λ r. Some (r ∷ [])) (insertable m) (changed_inside schema m)

pub merged_is_taken : EachMergedFileIsTaken
merged_is_taken may schema m view files a = ap (λ (b : Bool). may (merge_scope m) a && b) (any_is (is_changed m) (view a))
