-- An operation respects bags, needs the rows of its scope alone, and adds up over files.
use Rattle.std.proofs.Common.{◌≡◌, ◌+◌, Bool, true, false, not, List, [], ◌++◌, refl, sym, ◌∙◌, ap, arith}
use Rattle.std.specs.Prelude.{Option, Some, None, Result, Ok, Err, filter, if◌then◌else◌}
use Rattle.std.specs.List.{list_any}
use Rattle.std.specs.Ordering.{is_gt}
use Rattle.std.proofs.lemmas.List.Elements.{filter-append}
use Rattle.row_base.specs.RowOrder.{row_cmp, row_eq}
use Rattle.row_base.specs.Bags.{count_of, SameRows, others}
use Rattle.row_base.specs.Faults.{◌>>=◌}
use Rattle.row_base.specs.declared.row.Datum.{Datum}
use Rattle.row_base.proofs.RowOrder.{row_decides}
use Rattle.row_base.proofs.Bags.{count_of-append, SameBag-filter}
use Rattle.op_types.specs.declared.bound.RowOp.{RowOp}
use Rattle.op_types.specs.declared.bound.RowOp.TheVariants as op
use Rattle.dml_ops.specs.declared.change.Changed.{Changed}
use Rattle.dml_ops.specs.declared.fault.OpFault.{OpFault}
use Rattle.dml_ops.specs.declared.fault.Wrong.{Wrong}
use Rattle.dml_ops.specs.declared.fault.Wrong.TheVariants as wrong
use Rattle.dml_ops.specs.declared.fault.WrongRow.{WrongRow}
use Rattle.dml_ops.specs.Images.{updated, selected}
use Rattle.dml_ops.specs.Outcomes.{Outcome, one, lesser, rows_of, least_of, finished, results, fault_by, op_fault}
use Rattle.dml_ops.specs.Changes.{passes, update_step, select_step, changed_by}
use Rattle.dml_ops.specs.Operations.{scope_of, gives, operated, SameResult}
use Rattle.dml_ops.specs.Laws.{row_of, together}
use Rattle.dml_ops.proofs.Bagged.{results_respect, rows_of-append, least_of-append}
use Rattle.dml_ops.proofs.Untouched.{none_taken, none_changed}

abbrev Row : Type 0
Row = List Datum

-- rows before what comes
behind_same : (xs ys : List Row) (r s : Result (List Row) OpFault) → SameRows xs ys → SameResult r s → SameResult (r >>= λ zs. Ok (xs ++ zs)) (s >>= λ zs. Ok (ys ++ zs))
behind_same xs ys (Ok zs) (Ok ws) h k = λ y.
    let p = h y in
    let q = k y in
    let a = count_of-append y xs zs in
    let b = count_of-append y ys ws in
    omega arith
behind_same xs ys (Ok zs) (Err e) h k = k
behind_same xs ys (Err e) (Ok zs) h k = k
behind_same xs ys (Err e) (Err f) h k = k

pub gives_respects : (o : RowOp) (xs ys : List Row) → SameRows xs ys → SameResult (gives o xs) (gives o ys)
gives_respects (op.Delete pred) xs ys same = λ y. refl
gives_respects (op.Update pred sets schema) xs ys same = results_respect (λ x. one (updated schema sets x [])) xs ys same
gives_respects (op.InsertSelect pred exprs schema) xs ys same =
    behind_same xs ys (results (λ x. one (selected schema exprs x)) xs) (results (λ x. one (selected schema exprs x)) ys) same (results_respect (λ x. one (selected schema exprs x)) xs ys same)

pub operated_respects : (o : RowOp) (xs ys : List Row) → SameRows xs ys → SameResult (operated o xs) (operated o ys)
operated_respects o xs ys same =
    let P = passes (scope_of o) in
    behind_same (others P xs) (others P ys) (gives o (filter P xs)) (gives o (filter P ys)) (SameBag-filter row_eq row_decides (λ x. not (P x)) xs ys same)
    (gives_respects o (filter P xs) (filter P ys) (SameBag-filter row_eq row_decides P xs ys same))

-- ---- two files

named : (w : WrongRow) → row_of (op_fault w) ≡ w.row
named w = by w.row w.wrong
  where
    by : (row : Row) (v : Wrong) → row_of (fault_by row v) ≡ row
    by row wrong.Overflow = refl
    by row (wrong.Misfit f) = refl

lesser_fault : (a b : WrongRow) → finished [] (lesser (Some a) (Some b)) ≡ together (Err (op_fault a)) (Err (op_fault b))
lesser_fault a b = by (is_gt (row_cmp a.row b.row)) ∙ ap (λ (c : Bool). refused (if c then op_fault b else op_fault a)) same
  where
    refused : OpFault → Result (List Row) OpFault
    refused e = Err e

    by : (c : Bool) → finished [] (if c then Some b else Some a) ≡ Err (if c then op_fault b else op_fault a)
    by true = refl
    by false = refl

    same : is_gt (row_cmp a.row b.row) ≡ is_gt (row_cmp (row_of (op_fault a)) (row_of (op_fault b)))
    same = ap (λ (x : Row). is_gt (row_cmp x b.row)) (sym (named a)) ∙ ap (λ (y : Row). is_gt (row_cmp (row_of (op_fault a)) y)) (sym (named b))

-- what comes of two files, whatever stands before it
both_files : (R S A B C : List Row) (l m : Option WrongRow) → SameRows (C ++ (R ++ S)) ((A ++ R) ++ (B ++ S))
    → SameResult (finished (R ++ S) (lesser l m) >>= λ zs. Ok (C ++ zs)) (together (finished R l >>= λ zs. Ok (A ++ zs)) (finished S m >>= λ zs. Ok (B ++ zs)))
both_files R S A B C None None h = h
both_files R S A B C (Some a) None h = refl
both_files R S A B C None (Some b) h = refl
both_files R S A B C (Some a) (Some b) h = wrong (is_gt (row_cmp a.row b.row)) (lesser_fault a b)
  where
    wrong : (c : Bool) → finished [] (if c then Some b else Some a) ≡ together (Err (op_fault a)) (Err (op_fault b))
        → SameResult (finished (R ++ S) (if c then Some b else Some a) >>= λ zs. Ok (C ++ zs)) (together (Err (op_fault a)) (Err (op_fault b)))
    wrong true e = cc
    wrong false e = cc

-- and with the scope's rows before it
selected_files : (R S F G A B C : List Row) (l m : Option WrongRow) → SameRows (C ++ ((F ++ G) ++ (R ++ S))) ((A ++ (F ++ R)) ++ (B ++ (G ++ S)))
    → SameResult ((finished (R ++ S) (lesser l m) >>= λ zs. Ok ((F ++ G) ++ zs)) >>= λ zs. Ok (C ++ zs))
    (together ((finished R l >>= λ zs. Ok (F ++ zs)) >>= λ zs. Ok (A ++ zs)) ((finished S m >>= λ zs. Ok (G ++ zs)) >>= λ zs. Ok (B ++ zs)))
selected_files R S F G A B C None None h = h
selected_files R S F G A B C (Some a) None h = refl
selected_files R S F G A B C None (Some b) h = refl
selected_files R S F G A B C (Some a) (Some b) h = wrong (is_gt (row_cmp a.row b.row)) (lesser_fault a b)
  where
    wrong : (c : Bool) → finished [] (if c then Some b else Some a) ≡ together (Err (op_fault a)) (Err (op_fault b))
        → SameResult ((finished (R ++ S) (if c then Some b else Some a) >>= λ zs. Ok ((F ++ G) ++ zs)) >>= λ zs. Ok (C ++ zs)) (together (Err (op_fault a)) (Err (op_fault b)))
    wrong true e = cc
    wrong false e = cc

-- rows of two files
module _ (P : Row → Bool) (xs ys : List Row) where
  left : others P (xs ++ ys) ≡ others P xs ++ others P ys
  left = filter-append (λ x. not (P x)) xs ys

  kept : filter P (xs ++ ys) ≡ filter P xs ++ filter P ys
  kept = filter-append P xs ys

count_left : (P : Row → Bool) (xs ys : List Row) (y : Row) → count_of y (others P (xs ++ ys)) ≡ count_of y (others P xs) + count_of y (others P ys)
count_left P xs ys y = ap (count_of y) (left P xs ys) ∙ count_of-append y (others P xs) (others P ys)

pub files_add : (o : RowOp) (xs ys : List Row) → SameResult (operated o (xs ++ ys)) (together (operated o xs) (operated o ys))
files_add (op.Delete pred) xs ys = λ y.
    let P = passes pred in
    let a = count_left P xs ys y in
    let b = count_of-append y (others P (xs ++ ys)) [] in
    let c = count_of-append y (others P xs) [] in
    let d = count_of-append y (others P ys) [] in
    let e = count_of-append y (others P xs ++ []) (others P ys ++ []) in
    omega arith
files_add (op.Update pred sets schema) xs ys =
    let P = passes pred in
    let f : Row → Outcome = λ x. one (updated schema sets x []) in
    let R = rows_of f (filter P xs) in
    let S = rows_of f (filter P ys) in
    let A = others P xs in
    let B = others P ys in
    let C = others P (xs ++ ys) in
    let all = both_files R S A B C (least_of f (filter P xs)) (least_of f (filter P ys)) (λ y.
    let a = count_left P xs ys y in
    let b = count_of-append y C (R ++ S) in
    let c = count_of-append y R S in
    let d = count_of-append y A R in
    let e = count_of-append y B S in
    let g = count_of-append y (A ++ R) (B ++ S) in
    omega arith) in
    rw (kept P xs ys, rows_of-append f (filter P xs) (filter P ys), least_of-append f (filter P xs) (filter P ys)) all
files_add (op.InsertSelect pred exprs schema) xs ys =
    let P = passes pred in
    let f : Row → Outcome = λ x. one (selected schema exprs x) in
    let F = filter P xs in
    let G = filter P ys in
    let R = rows_of f F in
    let S = rows_of f G in
    let A = others P xs in
    let B = others P ys in
    let C = others P (xs ++ ys) in
    let all = selected_files R S F G A B C (least_of f F) (least_of f G) (λ y.
    let a = count_left P xs ys y in
    let b = count_of-append y C ((F ++ G) ++ (R ++ S)) in
    let c = count_of-append y (F ++ G) (R ++ S) in
    let d = count_of-append y F G in
    let e = count_of-append y R S in
    let g = count_of-append y F R in
    let h = count_of-append y G S in
    let i = count_of-append y A (F ++ R) in
    let j = count_of-append y B (G ++ S) in
    let k = count_of-append y (A ++ (F ++ R)) (B ++ (G ++ S)) in
    omega arith) in
    rw (kept P xs ys, rows_of-append f F G, least_of-append f F G) all

-- ---- a file that isn't touched

ok_inside : (c d : Changed) → ◌≡◌ {A = Result Changed OpFault} (Ok c) (Ok d) → c ≡ d
ok_inside c d e = cc

of_update : (R : List Row) (t : Bool) (l : Option WrongRow) (c : Changed) → (finished R l >>= λ ys. Ok (record { touched = t; rows = ys; extra = [] })) ≡ Ok c
    → (t ≡ c.touched) × (finished R l ≡ Ok c.rows)
of_update R t None c e = let same = ok_inside (record { touched = t; rows = R; extra = [] }) c e in (ap (λ (d : Changed). d.touched) same, ap (λ (d : Changed). Ok d.rows) same)
of_update R t (Some w) c e = absurd cc

of_select : (S rows : List Row) (l : Option WrongRow) (c : Changed) → (finished S l >>= λ ys. Ok (record { touched = false; rows = rows; extra = ys })) ≡ Ok c → c.rows ≡ rows
of_select S rows None c e = ap (λ (d : Changed). d.rows) (sym (ok_inside (record { touched = false; rows = rows; extra = S }) c e))
of_select S rows (Some w) c e = absurd cc

rows_inside : (xs ys : List Row) → ◌≡◌ {A = Result (List Row) OpFault} (Ok xs) (Ok ys) → xs ≡ ys
rows_inside xs ys e = cc

pub untouched_stay : (o : RowOp) (rows : List Row) (c : Changed) → changed_by o rows ≡ Ok c → c.touched ≡ false → c.rows ≡ rows
untouched_stay (op.Delete pred) rows c e t =
    let same = ok_inside (record { touched = list_any (passes pred) rows; rows = others (passes pred) rows; extra = [] }) c e in
    ap (λ (d : Changed). d.rows) (sym same) ∙ none_taken (passes pred) rows (ap (λ (d : Changed). d.touched) same ∙ t)
untouched_stay (op.Update pred sets schema) rows c e t =
    let f = update_step pred sets schema in
    let h = of_update (rows_of f rows) (list_any (passes pred) rows) (least_of f rows) c e in
    rows_inside c.rows rows (sym h.1 ∙ none_changed pred sets schema rows (h.0 ∙ t))
untouched_stay (op.InsertSelect pred exprs schema) rows c e t =
    of_select (rows_of (select_step pred exprs schema) rows) rows (least_of (select_step pred exprs schema) rows) c e
