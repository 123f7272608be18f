-- Literal rows that a table takes have texts.
use Rattle.std.proofs.Common.{◌≡◌, ℤ, List, [], ◌∷◌, Option, Some, None, Result, Ok, Err, refl, subst}
use Rattle.std.specs.Option.{option_map_or}
use Rattle.std.specs.List.{All}
use Rattle.std.proofs.lemmas.List.Elements.{All-cons, All-nil, All-head, All-tail}
use Rattle.row_base.specs.Faults.{◌>>=◌}
use Rattle.row_base.specs.Schema.{TableSchema, settled, settled_datum, narrowed_number, row_fault}
use Rattle.row_base.specs.declared.row.Datum.{Datum}
use Rattle.row_base.specs.declared.row.Datum.TheVariants as datum
use Rattle.row_base.specs.declared.schema.Column.{Column}
use Rattle.schema_text.specs.PartitionWritten.{HasText}
use Rattle.statement_types.specs.Literals.{IsLiteral, AreLiterals}
use Rattle.row_base.specs.declared.schema.RowFault.{RowFault}
use Rattle.statement_checks.specs.Rows.{row_or_fault, row_in, rows_in}

pub bind_ok : {E A B : Type 0} (r : Result A E) (f : A → Result B E) (y : B) → (r >>= f) ≡ Ok y → (x : A) × (r ≡ Ok x) × (f x ≡ Ok y)
bind_ok (Ok x) f y e = (x, refl, e)
bind_ok (Err d) f y e = absurd cc

pub inside : {E A : Type 0} (x y : A) → ◌≡◌ {A = Result A E} (Ok x) (Ok y) → x ≡ y
inside x y e = cc

is_taken : (row taken : List Datum) (f : Option RowFault) (x : List Datum) → row_or_fault row taken f ≡ Ok x → taken ≡ x
is_taken row taken (Some f) x e = absurd cc
is_taken row taken None x e = inside taken x e

literal_has : (d : Datum) → IsLiteral d → HasText d
literal_has datum.Null h = tt
literal_has (datum.Long n) h = tt
literal_has (datum.Integer n) h = tt
literal_has (datum.Boolean b) h = tt
literal_has (datum.Text t) h = tt
literal_has (datum.Date n) h = h.1

narrowed_has : (n : Option ℤ) (d : Datum) → HasText d → HasText (option_map_or datum.Integer n d)
narrowed_has None d h = h
narrowed_has (Some n) d h = tt

settled_have : (cs : List Column) (ds : List Datum) → All IsLiteral ds → All HasText (settled cs ds)
settled_have [] [] h = All-nil HasText
settled_have [] (d ∷ ds) h = All-cons HasText d ds (literal_has d (All-head IsLiteral d ds h)) (settled_have [] ds (All-tail IsLiteral d ds h))
settled_have (c ∷ cs) [] h = All-nil HasText
settled_have (c ∷ cs) (d ∷ ds) h =
    All-cons HasText (settled_datum c.kind d) (settled cs ds) (narrowed_has (narrowed_number c.kind d) d (literal_has d (All-head IsLiteral d ds h))) (settled_have cs ds (All-tail IsLiteral d ds h))

pub rows_have_texts : (s : TableSchema) (rows taken : List (List Datum)) → AreLiterals rows → rows_in s rows ≡ Ok taken → All (λ r. All HasText r) taken
unfolding rows_in
rows_have_texts s [] taken l e = subst (All (λ r. All HasText r)) (inside [] taken e) (All-nil (λ r. All HasText r))
rows_have_texts s (r ∷ rs) taken l e =
    let p = bind_ok (row_in s r) (λ x. rows_in s rs >>= λ rest. Ok (x ∷ rest)) taken e in
    let q = bind_ok (rows_in s rs) (λ rest. Ok (p.0 ∷ rest)) taken p.2 in
    let first = is_taken r (settled s.columns r) (row_fault s (settled s.columns r)) p.0 p.1 in
    subst (All (λ r. All HasText r)) (inside (p.0 ∷ q.0) taken q.2)
    (All-cons (λ r. All HasText r) p.0 q.0 (subst (All HasText) first (settled_have s.columns r (All-head (All IsLiteral) r rs l))) (rows_have_texts s rs q.0 (All-tail (All IsLiteral) r rs l) q.1))
