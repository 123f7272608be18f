-- An operation that is bound for a width is bound for rows of that width.
use Rattle.std.proofs.Common.{◌≡◌, ℕ, ◌==◌, Bool, true, false, ◌&&◌, List, [], ◌∷◌, length, refl, ap, ◌∙◌}
use Rattle.std.specs.List.{list_all}
use Rattle.std.proofs.lemmas.Bool.{eqb-true}
use Rattle.row_base.specs.declared.row.Datum.{Datum}
use Rattle.op_types.specs.declared.bound.RowOp.{RowOp}
use Rattle.op_types.specs.Bound.{is_row_op_bound}

first : (a b : Bool) → (a && b) ≡ true → (a ≡ true) × (b ≡ true)
first true b e = (refl, e)
first false b e = absurd cc

pub rows_bound : (width : ℕ) (o : RowOp) (rows : List (List Datum)) → list_all (λ r. length r == width) rows ≡ true → is_row_op_bound width o ≡ true
    → list_all (λ r. is_row_op_bound (length r) o) rows ≡ true
rows_bound width o [] wide bound = refl
rows_bound width o (x ∷ rows) wide bound =
    let h = first (length x == width) (list_all (λ r. length r == width) rows) wide in
    let same : length x ≡ width = eqb-true (length x) width h.0 in
    ap (λ (n : ℕ). is_row_op_bound n o && list_all (λ r. is_row_op_bound (length r) o) rows) same
    ∙ ap (λ (b : Bool). b && list_all (λ r. is_row_op_bound (length r) o) rows) bound ∙ rows_bound width o rows h.1 bound
