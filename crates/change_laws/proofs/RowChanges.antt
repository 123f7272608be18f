-- Deletes, updates and insert selects.
use Rattle.std.proofs.Common.{◌≡◌, ℕ, Bool, true, false, ◌&&◌, ◌||◌, List, [], ◌∷◌, ◌++◌, Result, Ok, Err, refl, sym, ap, ◌∙◌, subst, arith}
use Rattle.std.specs.Prelude.{Option, Some, None, filter, if◌then◌else◌, option_map}
use Rattle.std.specs.List.{list_any}
use Rattle.row_base.specs.Bags.{count_of, SameRows, others}
use Rattle.row_base.specs.Faults.{◌>>=◌}
use Rattle.row_base.specs.declared.row.Datum.{Datum}
use Rattle.row_base.proofs.Bags.{count_of-append, count_of-filter_no, count_of-others, count_of-others_no}
use Rattle.predicates.specs.declared.pred.Pred.{Pred}
use Rattle.op_types.specs.declared.bound.RowOp.{RowOp}
use Rattle.op_types.specs.declared.bound.RowOp.TheVariants as op
use Rattle.dml_ops.specs.declared.change.Changed.{Changed}
use Rattle.dml_ops.specs.declared.fault.OpFault.{OpFault}
use Rattle.dml_ops.specs.declared.fault.ImageFault.{ImageFault}
use Rattle.dml_ops.specs.Images.{updated, selected}
use Rattle.dml_ops.specs.Outcomes as outcomes
use Rattle.dml_ops.specs.Outcomes.{Outcome, one}
use Rattle.dml_ops.specs.Changes.{passes, changed_by, update_step, select_step}
use Rattle.dml_ops.specs.Operations as changes
use Rattle.dml_ops.specs.Operations.{scope_of}
use Rattle.dml_ops.proofs.Split.{file_is_operated}
use Rattle.table_changes.specs.Table.{File}
use Rattle.table_changes.specs.Operations.{SameIfGiven, operated}
use Rattle.table_changes.specs.Statements.{any_row, kept_with, one_row, results}
use Rattle.table_changes.proofs.Results.{same_trans}
use Rattle.table_changes.proofs.Statements.{delete_sound, update_sound, insert_select_sound}
use Rattle.change_laws.specs.Operations.{if_given, row_operation}
use Rattle.change_laws.specs.Laws.{EachChangeIsSound, EachChangeGives, EachTouchedFileIsTaken}
use Rattle.change_laws.proofs.Values.{is_said, chain_said, updated_said, selected_said}
use Rattle.change_laws.proofs.Outcomes.{same_result, given_behind, behind_same, results_agree, one_given, results_given}

abbrev Row : Type 0
Row = List Datum

pub change_is_sound : EachChangeIsSound
change_is_sound may (op.Delete p) = delete_sound (Pred ℕ) passes may p
change_is_sound may (op.Update p sets schema) = update_sound (Pred ℕ) passes may p (λ x. if_given (updated schema sets x []))
change_is_sound may (op.InsertSelect p exprs schema) = insert_select_sound (Pred ℕ) passes may p (λ x. if_given (selected schema exprs x))

-- ---- what the rows of the scope give

-- of the scope's own rows none is outside
none_outside : (P : Row → Bool) (rows : List Row) (x : Row) → count_of x (others P (filter P rows)) ≡ 0
none_outside P rows x = by (P x) refl
  where
    by : (b : Bool) → P x ≡ b → count_of x (others P (filter P rows)) ≡ 0
    by true e = count_of-others_no P x (filter P rows) e
    by false e = count_of-others P x (filter P rows) e ∙ count_of-filter_no P x rows e

-- rows of which there are none, before what is given
pub kept_none : (kept : List Row) → ((x : Row) → count_of x kept ≡ 0) → (o : Option (List Row)) → SameIfGiven o (kept_with kept o)
kept_none kept none None = tt
kept_none kept none (Some ys) = λ x. let a = none x in let b = count_of-append x kept ys in omega arith

one_said : (r : Result Row ImageFault) → is_said r ≡ true → is_said (one r) ≡ true
one_said r h = chain_said r (λ y. Ok (y ∷ [])) h (λ y. refl)

-- images of rows
images_given : (f : Row → Result Row ImageFault) → ((x : Row) → is_said (f x) ≡ true) → (xs : List Row) → if_given (outcomes.results (λ x. one (f x)) xs) ≡ results (λ x. one_row (if_given (f x))) xs
images_given f said xs =
    results_given (λ x. one (f x)) (λ x. one_said (f x) (said x)) xs ∙ results_agree (λ x. if_given (one (f x))) (λ x. one_row (if_given (f x))) (λ x. one_given (f x)) xs

selected_same : (xs ys : List Row) (r : Result (List Row) OpFault) → SameRows xs ys → SameIfGiven (if_given (r >>= λ zs. Ok (xs ++ zs))) (kept_with ys (if_given r))
selected_same xs ys (Err e) h = tt
selected_same xs ys (Ok zs) h = λ x. let a = h x in let b = count_of-append x xs zs in let c = count_of-append x ys zs in omega arith

module _ (may : Pred ℕ → File → Bool) where
  scope_gives : (o : RowOp) (rows : List Row) → SameIfGiven (if_given (changes.gives o (filter (passes (scope_of o)) rows))) ((row_operation may o).gives (filter (passes (scope_of o)) rows))
  scope_gives (op.Delete p) rows = kept_none (others (passes p) (filter (passes p) rows)) (none_outside (passes p) rows) (Some [])
  scope_gives (op.Update p sets schema) rows =
      let F = filter (passes p) rows in
      let f : Row → Result Row ImageFault = λ x. updated schema sets x [] in
      subst (λ (o : Option (List Row)). SameIfGiven o (kept_with (others (passes p) F) (results (λ x. one_row (if_given (f x))) F))) (sym (images_given f (λ x. updated_said schema sets x []) F))
      (kept_none (others (passes p) F) (none_outside (passes p) rows) (results (λ x. one_row (if_given (f x))) F))
  scope_gives (op.InsertSelect p exprs schema) rows =
      let F = filter (passes p) rows in
      let f : Row → Result Row ImageFault = λ x. selected schema exprs x in
      subst (λ (o : Option (List Row)). SameIfGiven (if_given (outcomes.results (λ x. one (f x)) F >>= λ zs. Ok (F ++ zs))) (kept_with (others (λ x. false) F) o)) (images_given f (λ x. selected_said schema exprs x) F)
      (selected_same F (others (λ x. false) F) (outcomes.results (λ x. one (f x)) F) (λ x. sym (count_of-others (λ x. false) x F refl)))

  -- the scope of an operation is its statement's
  operated_is : (o : RowOp) (rows : List Row) → operated passes (row_operation may o) rows ≡ option_map (λ ys. others (passes (scope_of o)) rows ++ ys) ((row_operation may o).gives (filter (passes (scope_of o)) rows))
  operated_is (op.Delete p) rows = refl
  operated_is (op.Update p sets schema) rows = refl
  operated_is (op.InsertSelect p exprs schema) rows = refl

pub change_gives : EachChangeGives
change_gives may o rows =
    let P = passes (scope_of o) in
    let made = changed_by o rows >>= λ c. Ok (c.rows ++ c.extra) in
    let meant = changes.gives o (filter P rows) >>= λ ys. Ok (others P rows ++ ys) in
    let ours = (row_operation may o).gives (filter P rows) in
    same_trans (if_given made) (if_given meant) (operated passes (row_operation may o) rows) (same_result made meant (file_is_operated o rows))
    (subst (λ (a : Option (List Row)). SameIfGiven a (operated passes (row_operation may o) rows)) (sym (given_behind (others P rows) (changes.gives o (filter P rows))))
    (subst (λ (b : Option (List Row)). SameIfGiven (option_map (λ ys. others P rows ++ ys) (if_given (changes.gives o (filter P rows)))) b) (sym (operated_is may o rows))
    (behind_same (others P rows) (others P rows) (if_given (changes.gives o (filter P rows))) ours (λ x. refl) (scope_gives may o rows))))

-- ---- the files that are taken out

pub any_is : (test : Row → Bool) (xs : List Row) → any_row test xs ≡ list_any test xs
any_is test [] = refl
any_is test (x ∷ xs) = by (test x) (any_is test xs)
  where
    by : (b : Bool) → any_row test xs ≡ list_any test xs → (if b then true else any_row test xs) ≡ (b || list_any test xs)
    by true h = refl
    by false h = h

none_changes : (xs : List Row) → any_row (λ x. false) xs ≡ false
none_changes [] = refl
none_changes (x ∷ xs) = none_changes xs

touched_of : (r : Result (List Row) OpFault) (t : Bool) (make : List Row → Changed) (c : Changed) → ((ys : List Row) → (make ys).touched ≡ t) → (r >>= λ ys. Ok (make ys)) ≡ Ok c → t ≡ c.touched
touched_of (Ok ys) t make c is e = sym (is ys) ∙ ap (λ (k : Changed). k.touched) (inside (make ys) c e)
  where
    inside : (a b : Changed) → ◌≡◌ {A = Result Changed OpFault} (Ok a) (Ok b) → a ≡ b
    inside a b e = cc
touched_of (Err f) t make c is e = absurd cc

pub touched_is_taken : EachTouchedFileIsTaken
touched_is_taken may (op.Delete p) view files a c is =
    ap (λ (b : Bool). may p a && b) (any_is (passes p) (view a) ∙ touched_of (Ok []) (list_any (passes p) (view a)) (λ ys. record { touched = list_any (passes p) (view a); rows = others (passes p) (view a); extra = [] }) c (λ ys. refl) is)
touched_is_taken may (op.Update p sets schema) view files a c is =
    ap (λ (b : Bool). may p a && b)
    (any_is (passes p) (view a)
    ∙ touched_of (outcomes.results (update_step p sets schema) (view a)) (list_any (passes p) (view a)) (λ ys. record { touched = list_any (passes p) (view a); rows = ys; extra = [] }) c (λ ys. refl) is)
touched_is_taken may (op.InsertSelect p exprs schema) view files a c is =
    ap (λ (b : Bool). may p a && b)
    (none_changes (view a) ∙ touched_of (outcomes.results (select_step p exprs schema) (view a)) false (λ ys. record { touched = false; rows = view a; extra = ys }) c (λ ys. refl) is)
