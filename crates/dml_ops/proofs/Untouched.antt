-- A file none of whose rows is in the scope.
use Rattle.std.proofs.Common.{◌≡◌, ℕ, Bool, true, false, not, cond, ◌||◌, List, [], ◌∷◌, ◌++◌, refl, ◌∙◌, ap}
use Rattle.std.specs.Prelude.{Option, None, Ok}
use Rattle.std.specs.List.{list_any}
use Rattle.row_base.specs.Bags.{others}
use Rattle.row_base.specs.Schema.{TableSchema}
use Rattle.row_base.specs.declared.row.Datum.{Datum}
use Rattle.predicates.specs.declared.pred.Pred.{Pred}
use Rattle.op_types.specs.declared.bound.SetTo.{SetTo}
use Rattle.dml_ops.specs.declared.fault.WrongRow.{WrongRow}
use Rattle.dml_ops.specs.Outcomes.{Outcome, given, wrong_of, lesser, rows_of, least_of, finished, results}
use Rattle.dml_ops.specs.Changes.{passes, update_step}
use Rattle.dml_ops.proofs.Lesser.{lesser_none}

neither : (a b : Bool) → a || b ≡ false → (a ≡ false) × (b ≡ false)
neither false b e = (refl, e)
neither true b e = absurd cc

pub none_taken : (P : List Datum → Bool) (rows : List (List Datum)) → list_any P rows ≡ false → others P rows ≡ rows
none_taken P [] e = refl
none_taken P (x ∷ rows) e =
    let h = neither (P x) (list_any P rows) e in
    ap (λ (b : Bool). cond (not b) (x ∷ others P rows) (others P rows)) h.0 ∙ ap (λ (l : List (List Datum)). x ∷ l) (none_taken P rows h.1)

module _ (pred : Pred ℕ) (sets : List (SetTo ℕ)) (schema : TableSchema) where
  step : List Datum → Outcome
  step = update_step pred sets schema

  rows_stay : (rows : List (List Datum)) → list_any (passes pred) rows ≡ false → rows_of (update_step pred sets schema) rows ≡ rows
  rows_stay [] e = refl
  rows_stay (x ∷ rows) e =
      let h = neither (passes pred x) (list_any (passes pred) rows) e in
      let same : update_step pred sets schema x ≡ Ok (x ∷ []) = rw h.0 refl in
      ap (λ (o : Outcome). given o ++ rows_of (update_step pred sets schema) rows) same ∙ ap (λ (l : List (List Datum)). x ∷ l) (rows_stay rows h.1)

  none_wrong : (rows : List (List Datum)) → list_any (passes pred) rows ≡ false → least_of (update_step pred sets schema) rows ≡ None
  none_wrong [] e = refl
  none_wrong (x ∷ rows) e =
      let h = neither (passes pred x) (list_any (passes pred) rows) e in
      let same : update_step pred sets schema x ≡ Ok (x ∷ []) = rw h.0 refl in
      ap (λ (o : Outcome). lesser (wrong_of x o) (least_of (update_step pred sets schema) rows)) same ∙ lesser_none (least_of (update_step pred sets schema) rows) ∙ none_wrong rows h.1

  pub none_changed : (rows : List (List Datum)) → list_any (passes pred) rows ≡ false → results (update_step pred sets schema) rows ≡ Ok rows
  none_changed rows e =
      ap (λ (l : Option WrongRow). finished (rows_of (update_step pred sets schema) rows) l) (none_wrong rows e) ∙ ap Ok (rows_stay rows e)
