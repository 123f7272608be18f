-- What comes of rows one by one is given where nothing stands against it.
use Rattle.std.proofs.Common.{◌≡◌, Bool, true, false, List, [], ◌∷◌, ◌++◌, Result, Ok, Err, refl, ap, ◌∙◌, arith}
use Rattle.std.specs.Prelude.{Option, Some, None, if◌then◌else◌, option_map}
use Rattle.row_base.specs.Bags.{SameRows}
use Rattle.row_base.specs.Faults.{◌>>=◌}
use Rattle.row_base.specs.declared.row.Datum.{Datum}
use Rattle.row_base.proofs.Bags.{count_of-append}
use Rattle.dml_ops.specs.declared.fault.ImageFault.{ImageFault}
use Rattle.dml_ops.specs.declared.fault.ImageFault.TheVariants as image
use Rattle.dml_ops.specs.declared.fault.OpFault.{OpFault}
use Rattle.dml_ops.specs.declared.fault.WrongRow.{WrongRow}
use Rattle.dml_ops.specs.Outcomes as outcomes
use Rattle.dml_ops.specs.Outcomes.{Outcome, one, given, wrong_of, lesser, gives_way, its_row, rows_of, least_of, finished}
use Rattle.dml_ops.specs.Operations.{SameResult}
use Rattle.dml_ops.proofs.Lesser.{lesser_none}
use Rattle.merge_op.specs.declared.fault.MergeFault.{MergeFault}
use Rattle.merge_op.specs.Operations.{SameMerge}
use Rattle.table_changes.specs.Operations.{SameIfGiven}
use Rattle.table_changes.specs.Statements.{kept_with, joined, one_row, results}
use Rattle.change_laws.specs.Operations.{if_given}
use Rattle.change_laws.proofs.Values.{is_said}

abbrev Row : Type 0
Row = List Datum

pub same_result : (r s : Result (List Row) OpFault) → SameResult r s → SameIfGiven (if_given r) (if_given s)
same_result (Ok xs) (Ok ys) h = h
same_result (Ok xs) (Err e) h = absurd h
same_result (Err e) (Ok ys) h = absurd h
same_result (Err e) (Err f) h = tt

pub same_merge : (r s : Result (List Row) MergeFault) → SameMerge r s → SameIfGiven (if_given r) (if_given s)
same_merge (Ok xs) (Ok ys) h = h
same_merge (Ok xs) (Err e) h = absurd h
same_merge (Err e) (Ok ys) h = absurd h
same_merge (Err e) (Err f) h = tt

-- rows before what is given
pub given_behind : {E : Type 0} (xs : List Row) (r : Result (List Row) E) → if_given (r >>= λ ys. Ok (xs ++ ys)) ≡ option_map (λ ys. xs ++ ys) (if_given r)
given_behind xs (Ok ys) = refl
given_behind xs (Err e) = refl

pub behind_same : (xs ys : List Row) (a b : Option (List Row)) → SameRows xs ys → SameIfGiven a b → SameIfGiven (option_map (λ zs. xs ++ zs) a) (option_map (λ zs. ys ++ zs) b)
behind_same xs ys None None e h = tt
behind_same xs ys None (Some zs) e h = h
behind_same xs ys (Some zs) None e h = h
behind_same xs ys (Some zs) (Some ws) e h = λ x. let c = h x in let d = e x in let k = count_of-append x xs zs in let l = count_of-append x ys ws in omega arith

pub results_agree : (f g : Row → Option (List Row)) → ((x : Row) → f x ≡ g x) → (xs : List Row) → results f xs ≡ results g xs
results_agree f g h [] = refl
results_agree f g h (x ∷ xs) = ap (λ (o : Option (List Row)). joined o (results f xs)) (h x) ∙ ap (λ (o : Option (List Row)). joined (g x) o) (results_agree f g h xs)

pub one_given : (r : Result Row ImageFault) → if_given (one r) ≡ one_row (if_given r)
one_given (Ok y) = refl
one_given (Err e) = refl

-- a wrong row among others
pub one_wrong : (a : WrongRow) (l : Option WrongRow) (rows : List Row) → if_given (finished rows (lesser (Some a) l)) ≡ None
one_wrong a None rows = refl
one_wrong a (Some b) rows = by (gives_way its_row (Some a) (its_row b))
  where
    by : (c : Bool) → if_given (finished rows (if c then Some b else Some a)) ≡ None
    by true = refl
    by false = refl

pub more_given : (ys rows : List Row) (l : Option WrongRow) → if_given (finished (ys ++ rows) l) ≡ kept_with ys (if_given (finished rows l))
more_given ys rows None = refl
more_given ys rows (Some w) = refl

pub results_given : (f : Row → Outcome) → ((x : Row) → is_said (f x) ≡ true) → (xs : List Row) → if_given (outcomes.results f xs) ≡ results (λ x. if_given (f x)) xs
results_given f said [] = refl
results_given f said (x ∷ xs) = by (f x) (said x) ∙ ap (λ (o : Option (List Row)). joined (if_given (f x)) o) (results_given f said xs)
  where
    by : (o : Outcome) → is_said o ≡ true → if_given (finished (given o ++ rows_of f xs) (lesser (wrong_of x o) (least_of f xs))) ≡ joined (if_given o) (if_given (outcomes.results f xs))
    by (Ok ys) h = ap (λ (l : Option WrongRow). if_given (finished (ys ++ rows_of f xs) l)) (lesser_none (least_of f xs)) ∙ more_given ys (rows_of f xs) (least_of f xs)
    by (Err (image.Wrong w)) h = one_wrong (record { row = x; wrong = w }) (least_of f xs) (rows_of f xs)
    by (Err image.NoMemory) h = absurd cc
