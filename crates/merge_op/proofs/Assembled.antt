-- A merge over files is the merge of the bag of their rows.
use Rattle.std.proofs.Common.{◌≡◌, ℕ, not, List, ◌++◌, refl, sym, ap, ◌∙◌, subst, arith, map}
use Rattle.std.specs.Prelude.{Option, Some, None, Result, Ok, filter}
use Rattle.std.specs.Result.{result_map_both}
use Rattle.row_base.specs.Bags.{count_of, SameRows, others}
use Rattle.row_base.specs.Faults.{◌>>=◌}
use Rattle.row_base.specs.Schema.{TableSchema}
use Rattle.row_base.specs.declared.row.Datum.{Datum}
use Rattle.row_base.specs.declared.row.ScannedFile.{ScannedFile}
use Rattle.row_base.proofs.Bags.{count_of-append}
use Rattle.op_types.specs.declared.bound.MergeSpec.{MergeSpec}
use Rattle.dml_ops.specs.declared.fault.WrongRow.{WrongRow}
use Rattle.dml_ops.specs.Outcomes.{rows_of, least_of, finished}
use Rattle.merge_op.specs.declared.fault.MergeFault.{MergeFault}
use Rattle.merge_op.specs.declared.merge.Merged.{Merged}
use Rattle.merge_op.specs.Merges.{merge_step, is_ambiguous, least_where, unambiguous, merge_fault, rows_in, is_touched, added, merged}
use Rattle.merge_op.specs.Operations.{in_scope, operated, SameMerge}
use Rattle.merge_op.proofs.Scoped.{ambiguous_inside, split_rows, split_least, files_rows, files_least, added_inside}

abbrev Row : Type 0
Row = List Datum

-- what came of rows, in a merge
abbrev ended : List Row → Option WrongRow → Result (List Row) MergeFault
ended rows l = result_map_both (λ ys. ys) merge_fault (finished rows l)

-- over files, and over the bag
abbrev gathered : List (List ℕ) → Result (List Row) MergeFault → Result Merged MergeFault
gathered paths r = r >>= λ ys. Ok (record { removed = paths; rows = ys })

abbrev extended : List Row → Merged → Result Merged MergeFault
extended more c = Ok (record { removed = c.removed; rows = c.rows ++ more })

abbrev over_files : Option Row → Option WrongRow → List (List ℕ) → List Row → List Row → List Row → Result (List Row) MergeFault
over_files a l paths rows more rest = (unambiguous a >>= λ u. gathered paths (ended rows l) >>= λ c. extended more c) >>= λ c. Ok (rest ++ c.rows)

abbrev over_bag : Option Row → Option WrongRow → List Row → List Row → List Row → Result (List Row) MergeFault
over_bag a l rows more rest = (unambiguous a >>= λ u. ended rows l >>= λ ys. Ok (ys ++ more)) >>= λ ys. Ok (rest ++ ys)

alike : (a : Option Row) (l : Option WrongRow) (paths : List (List ℕ)) (R S D E U O : List Row) → SameRows (U ++ (R ++ D)) (O ++ (S ++ E)) → SameMerge (over_files a l paths R D U) (over_bag a l S E O)
alike (Some x) l paths R S D E U O h = refl
alike None (Some w) paths R S D E U O h = refl
alike None None paths R S D E U O h = h

assembled : (a b : Option Row) (l k : Option WrongRow) (paths : List (List ℕ)) (R S D E U O : List Row) → a ≡ b → l ≡ k → SameRows (U ++ (R ++ D)) (O ++ (S ++ E))
    → SameMerge (over_files a l paths R D U) (over_bag b k S E O)
assembled a b l k paths R S D E U O p q h =
    subst (λ (x : Option Row). SameMerge (over_files a l paths R D U) (over_bag x k S E O)) p
    (subst (λ (x : Option WrongRow). SameMerge (over_files a l paths R D U) (over_bag a x S E O)) q (alike a l paths R S D E U O h))

pub merge_is : (schema : TableSchema) (m : MergeSpec ℕ) (files : List ScannedFile)
    → SameMerge (merged schema m files >>= λ c. Ok (rows_in (filter (λ f. not (is_touched m f)) files) ++ c.rows)) (operated schema m (rows_in files))
merge_is schema m files =
    let f = merge_step schema m in
    let all = rows_in files in
    let T = rows_in (filter (is_touched m) files) in
    let U = rows_in (filter (λ f. not (is_touched m f)) files) in
    let F = filter (in_scope m) all in
    let O = others (in_scope m) all in
    assembled (least_where (is_ambiguous m) all) (least_where (is_ambiguous m) F) (least_of f T) (least_of f F) (map (λ f. f.path) (filter (is_touched m) files))
    (rows_of f T) (rows_of f F) (added m all) (added m F) U O
    (sym (ambiguous_inside schema m all)) (sym (files_least schema m files) ∙ split_least schema m all)
    (λ y.
    let a = files_rows schema m files y in
    let b = split_rows schema m all y in
    let c = count_of-append y U (rows_of f T ++ added m all) in
    let d = count_of-append y (rows_of f T) (added m all) in
    let e = count_of-append y O (rows_of f F ++ added m F) in
    let g = count_of-append y (rows_of f F) (added m F) in
    let h = ap (count_of y) (added_inside m all) in
    omega arith)
