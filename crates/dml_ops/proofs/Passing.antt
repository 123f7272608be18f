-- A row more of a file that is gone over.
use Rattle.std.proofs.Common.{◌≡◌, Bool, true, false, not, cond, ◌||◌, List, [], ◌∷◌, ◌++◌, refl, sym, ◌∙◌, ap, append_assoc}
use Rattle.std.specs.Prelude.{if◌then◌else◌}
use Rattle.std.specs.Bool.{MatchBool}
use Rattle.std.specs.List.{list_any}
use Rattle.row_base.specs.Bags.{others}
use Rattle.row_base.specs.declared.row.Datum.{Datum}

abbrev Row : Type 0
Row = List Datum

-- there was a row
pub came : (more : Bool) (P Q : Type 0) → MatchBool more P Q → more ≡ true → P
came true P Q h e = h
came false P Q h e = absurd cc

pub left_step : (P : Row → Bool) (row : Row) (coming rest before after total : List Row) → coming ≡ row ∷ rest → after ≡ before ++ (if P row then [] else row ∷ [])
    → before ++ others P coming ≡ total → after ++ others P rest ≡ total
left_step P row coming rest before after total at put so_far =
    ap (λ (l : List Row). l ++ others P rest) put ∙ append_assoc before (if P row then [] else row ∷ []) (others P rest)
    ∙ ap (λ (l : List Row). before ++ l) (by (P row)) ∙ ap (λ (l : List Row). before ++ others P l) (sym at) ∙ so_far
  where
    by : (b : Bool) → (if b then [] else row ∷ []) ++ others P rest ≡ cond (not b) (row ∷ others P rest) (others P rest)
    by true = refl
    by false = refl

or_assoc : (a b c : Bool) → (a || b) || c ≡ a || (b || c)
or_assoc true b c = refl
or_assoc false b c = refl

pub touched_step : (P : Row → Bool) (row : Row) (coming rest : List Row) (before now total : Bool) → coming ≡ row ∷ rest → now ≡ P row
    → before || list_any P coming ≡ total → (before || now) || list_any P rest ≡ total
touched_step P row coming rest before now total at is so_far =
    or_assoc before now (list_any P rest) ∙ ap (λ (b : Bool). before || (b || list_any P rest)) is
    ∙ ap (λ (l : List Row). before || list_any P l) (sym at) ∙ so_far
