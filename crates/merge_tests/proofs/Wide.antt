-- A row behind others of as many data.
use Rattle.std.proofs.Common.{◌≡◌, ◌==◌, true, List, [], ◌∷◌, ◌++◌, length, refl}
use Rattle.std.specs.List.{list_all}
use Rattle.std.proofs.lemmas.List.Folds.{list_all-append}
use Rattle.row_base.specs.declared.row.Datum.{Datum}

pub one_more : (rows : List (List Datum)) (id v : Datum) → list_all (λ r. length r == 2) rows ≡ true
    → list_all (λ r. length r == 2) (rows ++ (id ∷ v ∷ []) ∷ []) ≡ true
one_more rows id v wide = rw (list_all-append (λ (r : List Datum). length r == 2) rows ((id ∷ v ∷ []) ∷ []), wide) refl

pub one_sale : (rows : List (List Datum)) (day user amount : Datum) → list_all (λ r. length r == 3) rows ≡ true
    → list_all (λ r. length r == 3) (rows ++ (day ∷ user ∷ amount ∷ []) ∷ []) ≡ true
one_sale rows day user amount wide =
    rw (list_all-append (λ (r : List Datum). length r == 3) rows ((day ∷ user ∷ amount ∷ []) ∷ []), wide) refl
