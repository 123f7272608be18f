-- A row more of those whose outcomes are gathered.
use Rattle.std.proofs.Common.{◌≡◌, Bool, true, false, ◌&&◌, List, ◌∷◌, ◌++◌, sym, ◌∙◌, ap, append_assoc}
use Rattle.std.specs.Prelude.{Option}
use Rattle.std.specs.List.{list_all}
use Rattle.row_base.specs.declared.row.Datum.{Datum}
use Rattle.dml_ops.specs.declared.fault.WrongRow.{WrongRow}
use Rattle.dml_ops.specs.Outcomes.{Outcome, given, wrong_of, lesser, rows_of, least_of}
use Rattle.dml_ops.proofs.Lesser.{lesser_assoc}

abbrev Row : Type 0
Row = List Datum

pub rows_step : (f : Row → Outcome) (row : Row) (left rest before after total : List Row) → left ≡ row ∷ rest → after ≡ before ++ given (f row)
    → before ++ rows_of f left ≡ total → after ++ rows_of f rest ≡ total
rows_step f row left rest before after total at put so_far =
    ap (λ (l : List Row). l ++ rows_of f rest) put ∙ append_assoc before (given (f row)) (rows_of f rest)
    ∙ ap (λ (l : List Row). before ++ rows_of f l) (sym at) ∙ so_far

pub least_step : (f : Row → Outcome) (row : Row) (left rest : List Row) (before after total : Option WrongRow) → left ≡ row ∷ rest → after ≡ lesser before (wrong_of row (f row))
    → lesser before (least_of f left) ≡ total → lesser after (least_of f rest) ≡ total
least_step f row left rest before after total at put so_far =
    ap (λ (l : Option WrongRow). lesser l (least_of f rest)) put ∙ lesser_assoc before (wrong_of row (f row)) (least_of f rest)
    ∙ ap (λ (l : List Row). lesser before (least_of f l)) (sym at) ∙ so_far

second : (a b : Bool) → (a && b) ≡ true → b ≡ true
second true b e = e
second false b e = absurd cc

pub all_step : (P : Row → Bool) (row : Row) (left rest : List Row) → left ≡ row ∷ rest → list_all P left ≡ true → list_all P rest ≡ true
all_step P row left rest at all = second (P row) (list_all P rest) (sym (ap (list_all P) at) ∙ all)
