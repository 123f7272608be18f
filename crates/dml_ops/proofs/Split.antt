-- An update of a file is one of the rows in its scope, beside the others.
use Rattle.std.proofs.Common.{◌≡◌, ◌+◌, Bool, true, false, not, cond, List, [], ◌∷◌, ◌++◌, refl, ◌∙◌, ap, subst, arith}
use Rattle.std.specs.Prelude.{Option, Some, None, Result, Ok, filter, if◌then◌else◌}
use Rattle.row_base.specs.RowOrder.{row_eq}
use Rattle.row_base.specs.Bags.{count_of, SameRows, others}
use Rattle.row_base.specs.Faults.{◌>>=◌}
use Rattle.row_base.specs.declared.row.Datum.{Datum}
use Rattle.row_base.proofs.Bags.{count_of-append, count_in-split}
use Rattle.op_types.specs.declared.bound.RowOp.{RowOp}
use Rattle.op_types.specs.declared.bound.RowOp.TheVariants as op
use Rattle.dml_ops.specs.declared.change.Changed.{Changed}
use Rattle.dml_ops.specs.declared.fault.OpFault.{OpFault}
use Rattle.dml_ops.specs.declared.fault.WrongRow.{WrongRow}
use Rattle.dml_ops.specs.Images.{updated, selected}
use Rattle.dml_ops.specs.Outcomes.{Outcome, one, given, wrong_of, lesser, rows_of, least_of, finished}
use Rattle.dml_ops.specs.Changes.{passes, changed_by}
use Rattle.dml_ops.specs.Operations.{operated, SameResult}
use Rattle.dml_ops.proofs.Lesser.{lesser_none}

abbrev Row : Type 0
Row = List Datum

module _ (P : Row → Bool) (image : Row → Outcome) where
  -- rows outside the scope stay
  abbrev step : Row → Outcome
  step x = if P x then image x else Ok (x ∷ [])

  split_rows : (xs : List Row) (y : Row) → count_of y (rows_of step xs) ≡ count_of y (others P xs) + count_of y (rows_of image (filter P xs))
  split_rows [] y = omega arith
  split_rows (x ∷ xs) y = by (P x) (split_rows xs y)
    where
      by : (b : Bool) → count_of y (rows_of step xs) ≡ count_of y (others P xs) + count_of y (rows_of image (filter P xs))
          → count_of y (given (if b then image x else Ok (x ∷ [])) ++ rows_of step xs)
          ≡ count_of y (cond (not b) (x ∷ others P xs) (others P xs)) + count_of y (rows_of image (cond b (x ∷ filter P xs) (filter P xs)))
      by true h =
          let a = count_of-append y (given (image x)) (rows_of step xs) in
          let c = count_of-append y (given (image x)) (rows_of image (filter P xs)) in
          omega arith
      by false h = omega arith

  split_least : (xs : List Row) → least_of step xs ≡ least_of image (filter P xs)
  split_least [] = refl
  split_least (x ∷ xs) = by (P x) (split_least xs)
    where
      by : (b : Bool) → least_of step xs ≡ least_of image (filter P xs)
          → lesser (wrong_of x (if b then image x else Ok (x ∷ []))) (least_of step xs) ≡ least_of image (cond b (x ∷ filter P xs) (filter P xs))
      by true h = ap (λ (l : Option WrongRow). lesser (wrong_of x (image x)) l) h
      by false h = lesser_none (least_of step xs) ∙ h

  -- nothing comes of rows outside the scope
  abbrev sift : Row → Outcome
  sift x = if P x then image x else Ok []

  sift_rows : (xs : List Row) → rows_of sift xs ≡ rows_of image (filter P xs)
  sift_rows [] = refl
  sift_rows (x ∷ xs) = by (P x) (sift_rows xs)
    where
      by : (b : Bool) → rows_of sift xs ≡ rows_of image (filter P xs) → given (if b then image x else Ok []) ++ rows_of sift xs ≡ rows_of image (cond b (x ∷ filter P xs) (filter P xs))
      by true h = ap (λ (l : List Row). given (image x) ++ l) h
      by false h = h

  sift_least : (xs : List Row) → least_of sift xs ≡ least_of image (filter P xs)
  sift_least [] = refl
  sift_least (x ∷ xs) = by (P x) (sift_least xs)
    where
      by : (b : Bool) → least_of sift xs ≡ least_of image (filter P xs) → lesser (wrong_of x (if b then image x else Ok [])) (least_of sift xs) ≡ least_of image (cond b (x ∷ filter P xs) (filter P xs))
      by true h = ap (λ (l : Option WrongRow). lesser (wrong_of x (image x)) l) h
      by false h = lesser_none (least_of sift xs) ∙ h

-- the rows of a file, with those that are added
abbrev all_rows : Result Changed OpFault → Result (List Row) OpFault
all_rows r = r >>= λ c. Ok (c.rows ++ c.extra)

update_law : (R S O : List Row) (t : Bool) (l m : Option WrongRow) → l ≡ m → SameRows (R ++ []) (O ++ S)
    → SameResult (all_rows (finished R l >>= λ ys. Ok (record { touched = t; rows = ys; extra = [] }))) (finished S m >>= λ ys. Ok (O ++ ys))
update_law R S O t l m e h = subst (λ (o : Option WrongRow). SameResult (all_rows (finished R l >>= λ ys. Ok (record { touched = t; rows = ys; extra = [] }))) (finished S o >>= λ ys. Ok (O ++ ys))) e (by l)
  where
    by : (l : Option WrongRow) → SameResult (all_rows (finished R l >>= λ ys. Ok (record { touched = t; rows = ys; extra = [] }))) (finished S l >>= λ ys. Ok (O ++ ys))
    by None = h
    by (Some w) = refl

select_law : (rows R S F O : List Row) (l m : Option WrongRow) → l ≡ m → SameRows (rows ++ R) (O ++ (F ++ S))
    → SameResult (all_rows (finished R l >>= λ ys. Ok (record { touched = false; rows = rows; extra = ys }))) ((finished S m >>= λ ys. Ok (F ++ ys)) >>= λ ys. Ok (O ++ ys))
select_law rows R S F O l m e h = subst (λ (o : Option WrongRow). SameResult (all_rows (finished R l >>= λ ys. Ok (record { touched = false; rows = rows; extra = ys }))) ((finished S o >>= λ ys. Ok (F ++ ys)) >>= λ ys. Ok (O ++ ys))) e (by l)
  where
    by : (l : Option WrongRow) → SameResult (all_rows (finished R l >>= λ ys. Ok (record { touched = false; rows = rows; extra = ys }))) ((finished S l >>= λ ys. Ok (F ++ ys)) >>= λ ys. Ok (O ++ ys))
    by None = h
    by (Some w) = refl

pub file_is_operated : (o : RowOp) (rows : List Row) → SameResult (changed_by o rows >>= λ c. Ok (c.rows ++ c.extra)) (operated o rows)
file_is_operated (op.Delete pred) rows = λ y. refl
file_is_operated (op.Update pred sets schema) rows =
    let P = passes pred in
    let image : Row → Outcome = λ x. one (updated schema sets x []) in
    update_law (rows_of (step P image) rows) (rows_of image (filter P rows)) (others P rows) _ (least_of (step P image) rows) (least_of image (filter P rows)) (split_least P image rows)
    (λ y.
    let h = split_rows P image rows y in
    let a = count_of-append y (rows_of (step P image) rows) [] in
    let b = count_of-append y (others P rows) (rows_of image (filter P rows)) in
    omega arith)
file_is_operated (op.InsertSelect pred exprs schema) rows =
    let P = passes pred in
    let image : Row → Outcome = λ x. one (selected schema exprs x) in
    let R = rows_of (sift P image) rows in
    let S = rows_of image (filter P rows) in
    select_law rows R S (filter P rows) (others P rows) (least_of (sift P image) rows) (least_of image (filter P rows)) (sift_least P image rows)
    (λ y.
    let h = count_in-split row_eq P y rows in
    let e = ap (count_of y) (sift_rows P image rows) in
    let a = count_of-append y rows R in
    let b = count_of-append y (filter P rows) S in
    let c = count_of-append y (others P rows) (filter P rows ++ S) in
    omega arith)
