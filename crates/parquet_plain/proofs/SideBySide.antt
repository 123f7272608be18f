-- Columns side by side, a column at a time and a row at a time.
use Rattle.std.proofs.Common.{◌≡◌, ℕ, zero, suc, ◌+◌, ◌-◌, ◌<◌, List, [], ◌∷◌, ◌++◌, map, replicate, drop, refl, sym, ◌∙◌, ap, arith, append_assoc}
use Rattle.std.proofs.lemmas.List.{append-nil}
use Rattle.row_base.specs.declared.row.Datum.{Datum}
use Rattle.row_base.specs.Columns.{head_or_null}
use Rattle.parquet_plain.specs.Reading.{with_column, with_columns, side_by_side, row_by_row}

none_with : (vss : List (List Datum)) → with_columns [] vss ≡ []
none_with [] = refl
none_with (vs ∷ vss) = none_with vss

first_with : (r : List Datum) (rs : List (List Datum)) (vss : List (List Datum))
    → with_columns (r ∷ rs) vss ≡ (r ++ map head_or_null vss) ∷ with_columns rs (map (drop 1) vss)
first_with r rs [] = ap (λ (x : List Datum). x ∷ rs) (sym (append-nil r))
first_with r rs (vs ∷ vss) =
    first_with (r ++ head_or_null vs ∷ []) (with_column rs (drop 1 vs)) vss
    ∙ ap (λ (x : List Datum). x ∷ with_columns (with_column rs (drop 1 vs)) (map (drop 1) vss)) (append_assoc r (head_or_null vs ∷ []) (map head_or_null vss))

bare_with : (count : ℕ) (vss : List (List Datum)) → with_columns (replicate count []) vss ≡ row_by_row count vss
bare_with zero vss = none_with vss
bare_with (suc count) vss =
    first_with [] (replicate count []) vss ∙ ap (λ (rs : List (List Datum)). map head_or_null vss ∷ rs) (bare_with count (map (drop 1) vss))

pub side_by_row : (count : ℕ) (vss : List (List Datum)) → side_by_side count vss ≡ row_by_row count vss
unfolding side_by_side
side_by_row count vss = bare_with count vss

-- one row more
pub row_more : (rows : List (List Datum)) (count i : ℕ) (vss : List (List Datum)) → i < count
    → rows ++ row_by_row (count - i) vss ≡ (rows ++ map head_or_null vss ∷ []) ++ row_by_row (count - (i + 1)) (map (drop 1) vss)
row_more rows count i vss lt =
    let same : count - i ≡ suc (count - (i + 1)) = omega (arith, lt) in
    rw (same, append_assoc rows (map head_or_null vss ∷ []) (row_by_row (count - (i + 1)) (map (drop 1) vss))) refl

-- ---- a row more of the columns

fused : {Q B : Type 0} (f : List Datum → B) (items : Q → List Datum) (cs : List Q) → map f (map items cs) ≡ map (λ c. f (items c)) cs
fused f items [] = refl
fused {B = B} f items (c ∷ cs) = ap (λ (xs : List B). f (items c) ∷ xs) (fused f items cs)

pub row_step : {Q : Type 0} (items : Q → List Datum) (count i : ℕ) (cs later : List Q) (rows new all : List (List Datum)) (row : List Datum)
    → i < count → row ≡ map (λ c. head_or_null (items c)) cs → map items later ≡ map (λ c. drop 1 (items c)) cs → new ≡ rows ++ row ∷ []
    → rows ++ row_by_row (count - i) (map items cs) ≡ all → new ++ row_by_row (count - (i + 1)) (map items later) ≡ all
row_step items count i cs later rows new all row lt here rest pushed so_far =
    ap (λ (xs : List (List Datum)). xs ++ row_by_row (count - (i + 1)) (map items later)) (pushed ∙ ap (λ (r : List Datum). rows ++ r ∷ []) (here ∙ sym (fused head_or_null items cs)))
    ∙ ap (λ (xs : List (List Datum)). (rows ++ map head_or_null (map items cs) ∷ []) ++ row_by_row (count - (i + 1)) xs) (rest ∙ sym (fused (drop 1) items cs))
    ∙ sym (row_more rows count i (map items cs) lt) ∙ so_far
