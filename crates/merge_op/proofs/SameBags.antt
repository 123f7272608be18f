-- A merge respects bags.
use Rattle.std.proofs.Common.{◌≡◌, ℕ, Bool, true, false, cond, not, ◌||◌, List, [], ◌∷◌, ◌++◌, refl, sym, ap, ◌∙◌, subst, arith}
use Rattle.std.specs.Prelude.{Option, Some, None, Result, Ok, Err, filter, option_map, if◌then◌else◌}
use Rattle.std.specs.List.{list_any}
use Rattle.std.specs.Ordering.{is_gt}
use Rattle.std.specs.Result.{result_map_both}
use Rattle.row_base.specs.RowOrder.{row_eq, row_cmp}
use Rattle.row_base.specs.Bags.{count_of, SameRows, others}
use Rattle.row_base.specs.Faults.{◌>>=◌}
use Rattle.row_base.specs.Schema.{TableSchema}
use Rattle.row_base.specs.declared.row.Datum.{Datum}
use Rattle.row_base.proofs.RowOrder.{row_decides}
use Rattle.row_base.proofs.Bags.{count_of-append, SameBag-filter}
use Rattle.op_types.specs.declared.bound.MergeSpec.{MergeSpec}
use Rattle.dml_ops.specs.declared.fault.ImageFault.TheVariants as image
use Rattle.dml_ops.specs.declared.fault.OpFault.{OpFault}
use Rattle.dml_ops.specs.declared.fault.Wrong.TheVariants as wrong
use Rattle.dml_ops.specs.declared.fault.WrongRow.{WrongRow}
use Rattle.dml_ops.specs.Operations.{SameResult}
use Rattle.dml_ops.specs.Outcomes.{Outcome, its_row, lesser, lesser_by, wrong_of, least_of, results}
use Rattle.dml_ops.proofs.Bagged.{none_there, respected, results_respect}
use Rattle.merge_op.specs.declared.fault.MergeFault.{MergeFault}
use Rattle.merge_op.specs.Matches.{is_match, unmatched}
use Rattle.merge_op.specs.Merges.{itself, least_where, is_ambiguous, unambiguous, merge_fault, merge_step, merged_rows, added}
use Rattle.merge_op.specs.Operations.{in_scope, gives, operated, SameMerge}

abbrev Row : Type 0
Row = List Datum

-- ---- whether some row passes

abbrev some_row : List Row → Bool
some_row [] = false
some_row (x ∷ xs) = true

any_is : (P : Row → Bool) (xs : List Row) → list_any P xs ≡ some_row (filter P xs)
any_is P [] = refl
any_is P (x ∷ xs) = by (P x) (any_is P xs)
  where
    by : (b : Bool) → list_any P xs ≡ some_row (filter P xs) → (b || list_any P xs) ≡ some_row (cond b (x ∷ filter P xs) (filter P xs))
    by true h = refl
    by false h = h

some_same : (xs ys : List Row) → SameRows xs ys → some_row xs ≡ some_row ys
some_same [] ys same = ap some_row (none_there ys same)
some_same (x ∷ xs) [] same = sym (ap some_row (none_there (x ∷ xs) (λ y. sym (same y))))
some_same (x ∷ xs) (y ∷ ys) same = refl

any_same : (P : Row → Bool) (xs ys : List Row) → SameRows xs ys → list_any P xs ≡ list_any P ys
any_same P xs ys same =
    any_is P xs ∙ some_same (filter P xs) (filter P ys) (SameBag-filter row_eq row_decides P xs ys same) ∙ sym (any_is P ys)

unmatched_same : (keys : List ℕ) (source xs ys : List Row) → SameRows xs ys → unmatched keys source xs ≡ unmatched keys source ys
unmatched_same keys [] xs ys same = refl
unmatched_same keys (s ∷ source) xs ys same =
    ap (λ (b : Bool). cond (not b) (s ∷ unmatched keys source xs) (unmatched keys source xs)) (any_same (λ x. is_match keys x s) xs ys same)
    ∙ ap (λ (l : List Row). cond (not (list_any (λ x. is_match keys x s) ys)) (s ∷ l) l) (unmatched_same keys source xs ys same)

-- ---- the least row that passes

-- a test as what comes of rows
abbrev refusing : (Row → Bool) → Row → Outcome
refusing test x = if test x then Err (image.Wrong wrong.Overflow) else Ok []

lesser_rows : (a b : Option WrongRow) → option_map its_row (lesser a b) ≡ lesser_by itself (option_map its_row a) (option_map its_row b)
lesser_rows a None = refl
lesser_rows None (Some b) = refl
lesser_rows (Some a) (Some b) = by (is_gt (row_cmp a.row b.row))
  where
    by : (c : Bool) → option_map its_row (if c then Some b else Some a) ≡ (if c then Some b.row else Some a.row)
    by true = refl
    by false = refl

first_row : (test : Row → Bool) (x : Row) → option_map its_row (wrong_of x (refusing test x)) ≡ (if test x then Some x else None)
first_row test x = by (test x)
  where
    by : (c : Bool) → option_map its_row (wrong_of x (if c then Err (image.Wrong wrong.Overflow) else Ok [])) ≡ (if c then Some x else None)
    by true = refl
    by false = refl

as_rows : (test : Row → Bool) (xs : List Row) → option_map its_row (least_of (refusing test) xs) ≡ least_where test xs
as_rows test [] = refl
as_rows test (x ∷ xs) =
    lesser_rows (wrong_of x (refusing test x)) (least_of (refusing test) xs)
    ∙ ap (λ (o : Option Row). lesser_by itself o (option_map its_row (least_of (refusing test) xs))) (first_row test x)
    ∙ ap (λ (o : Option Row). lesser_by itself (if test x then Some x else None) o) (as_rows test xs)

where_same : (test : Row → Bool) (xs ys : List Row) → SameRows xs ys → least_where test xs ≡ least_where test ys
where_same test xs ys same =
    let h = respected (refusing test) xs ys same in
    sym (as_rows test xs) ∙ ap (option_map its_row) h.least ∙ as_rows test ys

-- ---- a merge

ended_same : (r s : Result (List Row) OpFault) → SameResult r s → SameMerge (result_map_both (λ ys. ys) merge_fault r) (result_map_both (λ ys. ys) merge_fault s)
ended_same (Ok xs) (Ok ys) h = h
ended_same (Ok xs) (Err e) h = h
ended_same (Err e) (Ok ys) h = h
ended_same (Err e) (Err f) h = ap merge_fault h

-- with rows behind
behind : (r s : Result (List Row) MergeFault) (D E : List Row) → SameMerge r s → SameRows D E → SameMerge (r >>= λ ys. Ok (ys ++ D)) (s >>= λ ys. Ok (ys ++ E))
behind (Ok xs) (Ok ys) D E h k = λ y.
    let p = h y in
    let q = k y in
    let a = count_of-append y xs D in
    let b = count_of-append y ys E in
    omega arith
behind (Ok xs) (Err e) D E h k = h
behind (Err e) (Ok ys) D E h k = h
behind (Err e) (Err f) D E h k = h

-- with rows before
before : (r s : Result (List Row) MergeFault) (A B : List Row) → SameMerge r s → SameRows A B → SameMerge (r >>= λ ys. Ok (A ++ ys)) (s >>= λ ys. Ok (B ++ ys))
before (Ok xs) (Ok ys) A B h g = λ y.
    let p = h y in
    let r = g y in
    let c = count_of-append y A xs in
    let d = count_of-append y B ys in
    omega arith
before (Ok xs) (Err e) A B h g = h
before (Err e) (Ok ys) A B h g = h
before (Err e) (Err f) A B h g = h

checked : (a : Option Row) (r s : Result (List Row) MergeFault) (D E : List Row) → SameMerge r s → SameRows D E
    → SameMerge (unambiguous a >>= λ u. r >>= λ ys. Ok (ys ++ D)) (unambiguous a >>= λ u. s >>= λ ys. Ok (ys ++ E))
checked None r s D E h k = behind r s D E h k
checked (Some x) r s D E h k = refl

added_same : (m : MergeSpec ℕ) (xs ys : List Row) → SameRows xs ys → added m xs ≡ added m ys
added_same m xs ys same = ap (λ (l : List Row). if m.insert then l else []) (unmatched_same m.keys m.source xs ys same)

pub given_same : (schema : TableSchema) (m : MergeSpec ℕ) (F G : List Row) → SameRows F G → SameMerge (gives schema m F) (gives schema m G)
given_same schema m F G same =
    let f = merge_step schema m in
    subst (λ (a : Option Row). SameMerge (gives schema m F) (unambiguous a >>= λ u. merged_rows schema m G >>= λ zs. Ok (zs ++ added m G)))
    (where_same (is_ambiguous m) F G same)
    (checked (least_where (is_ambiguous m) F) (merged_rows schema m F) (merged_rows schema m G) (added m F) (added m G)
    (ended_same (results f F) (results f G) (results_respect f F G same))
    (λ y. ap (count_of y) (added_same m F G same)))

pub scope_same : (schema : TableSchema) (m : MergeSpec ℕ) (xs ys : List Row) → SameRows (filter (in_scope m) xs) (filter (in_scope m) ys)
    → SameMerge (gives schema m (filter (in_scope m) xs)) (gives schema m (filter (in_scope m) ys))
scope_same schema m xs ys same = given_same schema m (filter (in_scope m) xs) (filter (in_scope m) ys) same

pub merged_same : (schema : TableSchema) (m : MergeSpec ℕ) (xs ys : List Row) → SameRows xs ys → SameMerge (operated schema m xs) (operated schema m ys)
merged_same schema m xs ys same =
    before (gives schema m (filter (in_scope m) xs)) (gives schema m (filter (in_scope m) ys)) (others (in_scope m) xs) (others (in_scope m) ys)
    (given_same schema m (filter (in_scope m) xs) (filter (in_scope m) ys) (SameBag-filter row_eq row_decides (in_scope m) xs ys same))
    (SameBag-filter row_eq row_decides (λ x. not (in_scope m x)) xs ys same)
