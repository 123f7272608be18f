-- The first row.
use Rattle.std.proofs.Common.{◌≡◌, List, [], ◌∷◌, refl, slice_get, Some, None}
use Rattle.std.specs.List.{All}
use Rattle.std.proofs.lemmas.List.Elements.{All-nil, All-head}
use Rattle.schema_text.specs.PartitionWritten.{HasText}
use Rattle.row_base.specs.declared.row.Datum.{Datum}
use Rattle.write_files.specs.Pieces.{first_row}

pub first_some : (rows : List (List Datum)) (r : List Datum) → Some r ≡ slice_get rows 0 → first_row rows ≡ r
first_some [] r e = cc
first_some (x ∷ rows) r e = cc

pub first_none : (rows : List (List Datum)) → None ≡ slice_get rows 0 → first_row rows ≡ []
first_none [] e = refl
first_none (x ∷ rows) e = cc

-- what each row has, the first has
pub first_texts : (rows : List (List Datum)) (r : List Datum) → All (λ x. All HasText x) rows → r ≡ first_row rows → All HasText r
first_texts [] r h e = rw e (All-nil HasText)
first_texts (x ∷ rows) r h e = rw e (All-head (λ y. All HasText y) x rows h)
