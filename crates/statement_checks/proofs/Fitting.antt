-- Literal rows that are taken fit the schema.
use Rattle.std.proofs.Common.{◌≡◌, ℕ, ◌==◌, Bool, true, false, ◌&&◌, List, [], ◌∷◌, length, Option, Some, None, Result, Ok, Err, refl, sym, ap, ◌∙◌, subst}
use Rattle.std.specs.Prelude.{nat_lt}
use Rattle.std.specs.List.{All, list_all}
use Rattle.std.proofs.lemmas.Bool.{eq-eqb}
use Rattle.std.proofs.lemmas.List.Elements.{All-cons, All-nil, All-head, All-tail}
use Rattle.row_base.specs.Faults.{◌>>=◌}
use Rattle.row_base.specs.Schema.{TableSchema, FitsSchema, settled, row_fault}
use Rattle.row_base.specs.declared.row.Datum.{Datum}
use Rattle.row_base.specs.declared.schema.RowFault.{RowFault}
use Rattle.row_base.proofs.RowLemmas.{fits_schema}
use Rattle.op_types.specs.declared.bound.MergeSpec.{MergeSpec}
use Rattle.op_types.specs.Bound.{is_merge_bound, is_matched_bound, is_by_source_bound}
use Rattle.statement_checks.specs.Rows.{row_or_fault, row_in, rows_in}
use Rattle.statement_checks.proofs.Bound.{bind_ok, inside}

is_taken : (row taken : List Datum) (f : Option RowFault) (x : List Datum) → row_or_fault row taken f ≡ Ok x → (f ≡ None) × (taken ≡ x)
is_taken row taken (Some f) x e = absurd cc
is_taken row taken None x e = (refl, inside taken x e)

pub rows_fit : (s : TableSchema) (rows taken : List (List Datum)) → rows_in s rows ≡ Ok taken → All (FitsSchema s) taken
unfolding rows_in
rows_fit s [] taken e = subst (All (FitsSchema s)) (inside [] taken e) (All-nil (FitsSchema s))
rows_fit s (r ∷ rs) taken e =
    let p = bind_ok (row_in s r) (λ x. rows_in s rs >>= λ rest. Ok (x ∷ rest)) taken e in
    let q = bind_ok (rows_in s rs) (λ rest. Ok (p.0 ∷ rest)) taken p.2 in
    let first = is_taken r (settled s.columns r) (row_fault s (settled s.columns r)) p.0 p.1 in
    subst (All (FitsSchema s)) (inside (p.0 ∷ q.0) taken q.2)
    (All-cons (FitsSchema s) p.0 q.0 (subst (FitsSchema s) first.1 (fits_schema s (settled s.columns r) first.0)) (rows_fit s rs q.0 q.1))

-- they have a datum for each column
pub rows_wide : (s : TableSchema) (rows : List (List Datum)) → All (FitsSchema s) rows → list_all (λ r. length r == length s.columns) rows ≡ true
rows_wide s [] fit = refl
rows_wide s (r ∷ rs) fit =
    ap (λ (b : Bool). b && list_all (λ r. length r == length s.columns) rs) (eq-eqb (length r) (length s.columns) (All-head (FitsSchema s) r rs fit).count)
    ∙ rows_wide s rs (All-tail (FitsSchema s) r rs fit)

-- so a merge stays bound
pub stays_bound : (s : TableSchema) (m : MergeSpec ℕ) (rows : List (List Datum)) → All (FitsSchema s) rows → is_merge_bound (length s.columns) m ≡ true
    → is_merge_bound (length s.columns) (record { keys = m.keys; source = rows; matched = m.matched; insert = m.insert; by_source = m.by_source }) ≡ true
stays_bound s m rows fit bound =
    let width = length s.columns in
    by (list_all (λ c. nat_lt c width) m.keys) (list_all (λ r. length r == width) m.source) (list_all (λ r. length r == width) rows) (is_matched_bound width m.matched)
    (is_by_source_bound width m.by_source) (rows_wide s rows fit) bound
  where
    by : (a b c d e : Bool) → c ≡ true → (a && b && d && e) ≡ true → (a && c && d && e) ≡ true
    by true true c d e wide bound = ap (λ (x : Bool). true && x && d && e) wide ∙ bound
    by true false c d e wide bound = absurd cc
    by false b c d e wide bound = absurd cc
