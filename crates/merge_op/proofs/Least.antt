-- The least row that passes a test, over one list after another.
use Rattle.std.proofs.Common.{◌≡◌, Bool, List, [], ◌∷◌, ◌++◌, sym, ap, ◌∙◌}
use Rattle.std.specs.Prelude.{Option, Some, None, if◌then◌else◌}
use Rattle.row_base.specs.declared.row.Datum.{Datum}
use Rattle.row_base.specs.declared.row.ScannedFile.{ScannedFile}
use Rattle.dml_ops.specs.Outcomes.{lesser_by}
use Rattle.dml_ops.proofs.Lesser.{lesser_by_none, lesser_by_assoc}
use Rattle.merge_op.specs.Merges.{itself, least_where, rows_in}

pub itself_assoc : (a b c : Option (List Datum)) → lesser_by itself (lesser_by itself a b) c ≡ lesser_by itself a (lesser_by itself b c)
itself_assoc = lesser_by_assoc itself

pub itself_none : (o : Option (List Datum)) → lesser_by itself None o ≡ o
itself_none = lesser_by_none itself

pub where_append : (test : List Datum → Bool) (xs ys : List (List Datum)) → least_where test (xs ++ ys) ≡ lesser_by itself (least_where test xs) (least_where test ys)
where_append test [] ys = sym (itself_none (least_where test ys))
where_append test (x ∷ xs) ys =
    let first : Option (List Datum) = if test x then Some x else None in
    ap (λ (o : Option (List Datum)). lesser_by itself first o) (where_append test xs ys) ∙ sym (itself_assoc first (least_where test xs) (least_where test ys))

-- a row more, and a file more
pub where_step : (test : List Datum → Bool) (row : List Datum) (left rest : List (List Datum)) (before after total : Option (List Datum)) → left ≡ row ∷ rest
    → after ≡ lesser_by itself before (if test row then Some row else None) → lesser_by itself before (least_where test left) ≡ total → lesser_by itself after (least_where test rest) ≡ total
where_step test row left rest before after total at put so_far =
    ap (λ (o : Option (List Datum)). lesser_by itself o (least_where test rest)) put
    ∙ itself_assoc before (if test row then Some row else None) (least_where test rest)
    ∙ ap (λ (l : List (List Datum)). lesser_by itself before (least_where test l)) (sym at) ∙ so_far

pub file_step : (test : List Datum → Bool) (file : ScannedFile) (left rest : List ScannedFile) (before after total : Option (List Datum)) → left ≡ file ∷ rest
    → after ≡ lesser_by itself before (least_where test file.rows) → lesser_by itself before (least_where test (rows_in left)) ≡ total
    → lesser_by itself after (least_where test (rows_in rest)) ≡ total
file_step test file left rest before after total at put so_far =
    ap (λ (o : Option (List Datum)). lesser_by itself o (least_where test (rows_in rest))) put
    ∙ itself_assoc before (least_where test file.rows) (least_where test (rows_in rest))
    ∙ ap (λ (o : Option (List Datum)). lesser_by itself before o) (sym (where_append test file.rows (rows_in rest)))
    ∙ ap (λ (l : List ScannedFile). lesser_by itself before (least_where test (rows_in l))) (sym at) ∙ so_far

-- rows that are those of a file
pub rows_are : (test : List Datum → Bool) (rows same : List (List Datum)) (before after : Option (List Datum)) → rows ≡ same
    → after ≡ lesser_by itself before (least_where test rows) → after ≡ lesser_by itself before (least_where test same)
rows_are test rows same before after is put = put ∙ ap (λ (l : List (List Datum)). lesser_by itself before (least_where test l)) is
