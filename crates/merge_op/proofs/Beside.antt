-- Rows beside what matches them, one more and one after another.
use Rattle.std.proofs.Common.{◌≡◌, ℕ, ◌+◌, ◌<◌, List, [], ◌∷◌, ◌++◌, length, get_or, drop, map, refl, sym, ap, ◌∙◌, subst, append_assoc}
use Rattle.std.specs.List.{All}
use Rattle.std.proofs.lemmas.List.{at_drop_more}
use Rattle.std.proofs.lemmas.List.Elements.{All-cons, All-nil, All-append}
use Rattle.row_base.specs.declared.row.Datum.{Datum}
use Rattle.op_types.specs.declared.bound.MergeSpec.{MergeSpec}
use Rattle.merge_op.specs.declared.matching.RowMatch.{RowMatch}
use Rattle.merge_op.specs.Found.{IsRowMatch, rows_beside}

abbrev Row : Type 0
Row = List Datum

rows_append : (ms : List RowMatch) (m : RowMatch) → rows_beside (ms ++ m ∷ []) ≡ rows_beside ms ++ m.row.now ∷ []
rows_append [] m = refl
rows_append (k ∷ ms) m = ap (λ (l : List Row). k.row.now ∷ l) (rows_append ms m)

pub beside_more : (ms more : List RowMatch) (m : RowMatch) (row : Row) (left rest total : List Row) → more ≡ ms ++ m ∷ [] → m.row.now ≡ row → left ≡ row ∷ rest → rows_beside ms ++ left ≡ total → rows_beside more ++ rest ≡ total
beside_more ms more m row left rest total put is at so_far =
    ap (λ (l : List RowMatch). rows_beside l ++ rest) put ∙ ap (λ (l : List Row). l ++ rest) (rows_append ms m) ∙ append_assoc (rows_beside ms) (m.row.now ∷ []) rest
    ∙ ap (λ (x : Row). rows_beside ms ++ x ∷ rest) is ∙ ap (λ (l : List Row). rows_beside ms ++ l) (sym at) ∙ so_far

pub matches_more : (op : MergeSpec ℕ) (ms more : List RowMatch) (m : RowMatch) → more ≡ ms ++ m ∷ [] → IsRowMatch op m → All (IsRowMatch op) ms → All (IsRowMatch op) more
matches_more op ms more m put is all =
    subst (All (IsRowMatch op)) (sym put) (All-append (IsRowMatch op) ms (m ∷ []) all (All-cons (IsRowMatch op) m [] is (All-nil (IsRowMatch op))))

pub at_beside : (ms : List RowMatch) (i : ℕ) (m : RowMatch) → i < length ms → m ≡ get_or ms i m → rows_beside (drop i ms) ≡ m.row.now ∷ rows_beside (drop (i + 1) ms)
at_beside ms i m lt is =
    ap rows_beside (at_drop_more (λ (l : List RowMatch). l) ms i m lt ∙ ap (λ (f : RowMatch). f ∷ drop (i + 1) ms) (sym is))
