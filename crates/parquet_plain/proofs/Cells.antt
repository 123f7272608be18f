-- Columns side by side, cell by cell.
use Rattle.std.proofs.Common.{◌≡◌, ℕ, zero, suc, ◌+◌, List, [], ◌∷◌, ◌++◌, get_or, drop, refl, sym, ap, ◌∙◌, arith, append_assoc, append-nil}
use Rattle.std.specs.Prelude.{replicate}
use Rattle.row_base.specs.declared.row.Datum.{Datum}
use Rattle.row_base.specs.declared.row.Datum.TheVariants as datum
use Rattle.row_base.specs.Columns.{head_or_null}
use Rattle.parquet_plain.specs.Reading.{with_column, with_columns, side_by_side}
use Rattle.parquet_plain.specs.Grammar.{row_at, rows_from, RowsAreBeside}

-- a list of what a function gives at so many places
abbrev table : (ℕ → List Datum) → ℕ → ℕ → List (List Datum)
table g place zero = []
table g place (suc count) = g place ∷ table g (place + 1) count

head_at : (place : ℕ) (vs : List Datum) → head_or_null (drop place vs) ≡ get_or vs place datum.Null
head_at zero [] = refl
head_at zero (v ∷ vs) = refl
head_at (suc place) [] = refl
head_at (suc place) (v ∷ vs) = head_at place vs

drop_one : (place : ℕ) (vs : List Datum) → drop 1 (drop place vs) ≡ drop (place + 1) vs
drop_one zero vs = refl
drop_one (suc place) [] = let e : suc place + 1 ≡ suc (place + 1) = omega arith in ap (λ n. drop n []) (sym e)
drop_one (suc place) (v ∷ vs) = let e : suc place + 1 ≡ suc (place + 1) = omega arith in drop_one place vs ∙ ap (λ n. drop n (v ∷ vs)) (sym e)

column_beside : (g : ℕ → List Datum) (vs : List Datum) (place count : ℕ)
    → with_column (table g place count) (drop place vs) ≡ table (λ k. g k ++ get_or vs k datum.Null ∷ []) place count
column_beside g vs place zero = refl
column_beside g vs place (suc count) =
    ap (λ v. (g place ++ v ∷ []) ∷ with_column (table g (place + 1) count) (drop 1 (drop place vs))) (head_at place vs)
    ∙ ap (λ ws. (g place ++ get_or vs place datum.Null ∷ []) ∷ with_column (table g (place + 1) count) ws) (drop_one place vs)
    ∙ ap (λ rs. (g place ++ get_or vs place datum.Null ∷ []) ∷ rs) (column_beside g vs (place + 1) count)

same_table : (g h : ℕ → List Datum) (place count : ℕ) → ((k : ℕ) → g k ≡ h k) → table g place count ≡ table h place count
same_table g h place zero e = refl
same_table g h place (suc count) e = ap (λ r. r ∷ table g (place + 1) count) (e place) ∙ ap (λ rs. h place ∷ rs) (same_table g h (place + 1) count e)

columns_beside : (columns : List (List Datum)) (g : ℕ → List Datum) (count : ℕ) → with_columns (table g 0 count) columns ≡ table (λ k. g k ++ row_at k columns) 0 count
columns_beside [] g count = same_table g (λ k. g k ++ []) 0 count (λ k. sym (append-nil (g k)))
columns_beside (vs ∷ vss) g count =
    ap (λ rs. with_columns rs vss) (column_beside g vs 0 count)
    ∙ columns_beside vss (λ k. g k ++ get_or vs k datum.Null ∷ []) count
    ∙ same_table (λ k. (g k ++ get_or vs k datum.Null ∷ []) ++ row_at k vss) (λ k. g k ++ get_or vs k datum.Null ∷ row_at k vss) 0 count
    (λ k. append_assoc (g k) (get_or vs k datum.Null ∷ []) (row_at k vss))

abbrev bare : ℕ → List Datum
bare k = []

bare_table : (place count : ℕ) → ◌≡◌ {A = List (List Datum)} (replicate count []) (table bare place count)
bare_table place zero = refl
bare_table place (suc count) = ap (λ (rs : List (List Datum)). [] ∷ rs) (bare_table (place + 1) count)

table_rows : (columns : List (List Datum)) (place count : ℕ) → table (λ k. row_at k columns) place count ≡ rows_from place count columns
table_rows columns place zero = refl
table_rows columns place (suc count) = ap (λ rs. row_at place columns ∷ rs) (table_rows columns (place + 1) count)

pub beside : RowsAreBeside
unfolding side_by_side
beside count columns =
    ap (λ rs. with_columns rs columns) (bare_table 0 count) ∙ columns_beside columns bare count ∙ table_rows columns 0 count

-- one more row
pub rows_next : (columns : List (List Datum)) (place count : ℕ) → rows_from place count columns ++ row_at (place + count) columns ∷ [] ≡ rows_from place (count + 1) columns
rows_next columns place zero = let e : place + 0 ≡ place = omega arith in ap (λ n. row_at n columns ∷ []) e
rows_next columns place (suc count) =
    let e : suc count + 1 ≡ suc (count + 1) = omega arith in
    let f : place + suc count ≡ (place + 1) + count = omega arith in
    ap (λ n. row_at place columns ∷ (rows_from (place + 1) count columns ++ row_at n columns ∷ [])) f
    ∙ ap (λ rs. row_at place columns ∷ rs) (rows_next columns (place + 1) count)
    ∙ ap (λ n. rows_from place n columns) (sym e)
