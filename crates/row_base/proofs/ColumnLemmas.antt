-- The first values of columns, taken in turn.
use Rattle.std.proofs.Common.{◌≡◌, ℕ, ◌+◌, ◌<◌, List, [], ◌∷◌, ◌++◌, map, take, drop, length, get_or, set, sym, ◌∙◌, ap, arith, append_assoc, add-zero}
use Rattle.std.proofs.lemmas.List.{get_or-drop, map_more, map-append, take_more_set, drop-set-lt, drop-drop}
use Rattle.row_base.specs.declared.row.Datum.{Datum}

item_same : {Q : Type 0} (cs cs0 : List Q) (i : ℕ) (d : Q) → drop i cs ≡ drop i cs0 → get_or cs i d ≡ get_or cs0 i d
item_same {Q = Q} cs cs0 i d same =
    ap (λ k. get_or cs k d) (sym (add-zero i)) ∙ sym (get_or-drop i cs 0 d) ∙ ap (λ (xs : List Q). get_or xs 0 d) same
    ∙ get_or-drop i cs0 0 d ∙ ap (λ k. get_or cs0 k d) (add-zero i)

-- a column's step: the values so far, the columns so far, and those that are left
pub value_step : {Q : Type 0} (first : Q → Datum) (cs cs0 : List Q) (i : ℕ) (item : Q) (row0 row new : List Datum) (value : Datum)
    → i < length cs0 → drop i cs ≡ drop i cs0 → item ≡ get_or cs i item → value ≡ first item
    → row ≡ row0 ++ map first (take i cs0) → new ≡ row ++ value ∷ [] → new ≡ row0 ++ map first (take (i + 1) cs0)
value_step first cs cs0 i item row0 row new value lt same here is so_far pushed =
    let last : value ≡ first (get_or cs0 i item) = is ∙ ap first (here ∙ item_same cs cs0 i item same) in
    pushed ∙ ap (λ (xs : List Datum). xs ++ value ∷ []) so_far ∙ append_assoc row0 (map first (take i cs0)) (value ∷ [])
    ∙ ap (λ (d : Datum). row0 ++ (map first (take i cs0) ++ d ∷ [])) last ∙ ap (λ (xs : List Datum). row0 ++ xs) (sym (map_more first cs0 i item lt))

pub column_step : {Q : Type 0} (items later : Q → List Datum) (cs cs0 : List Q) (i : ℕ) (item new : Q)
    → i < length cs → i < length cs0 → drop i cs ≡ drop i cs0 → item ≡ get_or cs i item → items new ≡ later item
    → map items (take i cs) ≡ map later (take i cs0) → map items (take (i + 1) (set cs i new)) ≡ map later (take (i + 1) cs0)
column_step items later cs cs0 i item new lt lt0 same here is so_far =
    let last : items new ≡ later (get_or cs0 i item) = is ∙ ap later (here ∙ item_same cs cs0 i item same) in
    ap (map items) (take_more_set cs i new lt) ∙ map-append items (take i cs) (new ∷ [])
    ∙ ap (λ (xs : List (List Datum)). xs ++ items new ∷ []) so_far ∙ ap (λ (x : List Datum). map later (take i cs0) ++ x ∷ []) last
    ∙ sym (map_more later cs0 i item lt0)

pub left_step : {Q : Type 0} (cs cs0 : List Q) (i : ℕ) (new : Q) → drop i cs ≡ drop i cs0 → drop (i + 1) (set cs i new) ≡ drop (i + 1) cs0
left_step cs cs0 i new same =
    drop-set-lt (i + 1) cs i new (omega arith) ∙ sym (drop-drop 1 i cs) ∙ ap (drop 1) same ∙ drop-drop 1 i cs0
