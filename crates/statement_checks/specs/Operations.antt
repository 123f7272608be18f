-- The parts of statements that change rows, over places, or the first fault from the left.
use Rattle.std.specs.Prelude.{◌==◌, ℕ, List, [], ◌∷◌, ◌++◌, length, Option, Some, None, Result, Ok, Err, if◌then◌else◌}
use Rattle.std.specs.List.{list_any, list_all}
use Rattle.row_base.specs.Faults.{◌>>=◌}
use Rattle.row_base.specs.Schema.{TableSchema}
use Rattle.row_base.specs.declared.row.Datum.{Datum}
use Rattle.row_base.specs.declared.schema.Column.{Column}
use Rattle.predicates.specs.Binding.{found_in, bound_in, bound_expr_in}
use Rattle.predicates.specs.declared.pred.Pred.{Pred}
use Rattle.predicates.specs.declared.expr.Expr.{Expr}
use Rattle.predicates.specs.declared.fault.BindFault.{BindFault}
use Rattle.predicates.specs.declared.fault.BindFault.TheVariants as fault
use Rattle.op_types.specs.declared.bound.SetTo.{SetTo}
use Rattle.op_types.specs.declared.bound.Change.{Change}
use Rattle.op_types.specs.declared.bound.Change.TheVariants as change
use Rattle.op_types.specs.declared.bound.BySource.{BySource}
use Rattle.op_types.specs.declared.bound.MergeSpec.{MergeSpec}
use Rattle.op_types.specs.declared.bound.RowOp.{RowOp}
use Rattle.op_types.specs.declared.bound.RowOp.TheVariants as op
use Rattle.statement_checks.specs.Names.{once, places_once}

-- a set after those before: its column, which isn't set yet, and then the expression for it
abbrev pub set_in : List Column → List (SetTo ℕ) → SetTo (List ℕ) → Result (SetTo ℕ) BindFault
set_in columns before s =
    found_in columns s.column >>= λ p. once (list_any (λ b. b.column == p.0) before) s.column >>= λ u.
    bound_expr_in columns p.1 s.column s.value >>= λ e. Ok (record { column = p.0; value = e })

-- sets after those before
unfoldable pub sets_in : List Column → List (SetTo ℕ) → List (SetTo (List ℕ)) → Result (List (SetTo ℕ)) BindFault
sets_in columns before [] = Ok []
sets_in columns before (s ∷ ss) =
    set_in columns before s >>= λ b. sets_in columns (before ++ b ∷ []) ss >>= λ bs. Ok (b ∷ bs)

-- an expression for this column
unfoldable pub expr_in : List Column → Column → Expr (List ℕ) → Result (Expr ℕ) BindFault
expr_in columns c e = bound_expr_in columns c.kind c.name e

-- an expression for each of these columns
unfoldable pub exprs_for : List Column → List Column → List (Expr (List ℕ)) → Result (List (Expr ℕ)) BindFault
exprs_for columns (c ∷ cs) (e ∷ es) =
    expr_in columns c e >>= λ b. exprs_for columns cs es >>= λ bs. Ok (b ∷ bs)
exprs_for columns cs es = Ok []

-- as many expressions as columns, which stands before the first of them
abbrev pub exprs_in : List Column → List (Expr (List ℕ)) → Result (List (Expr ℕ)) BindFault
exprs_in columns exprs =
    if length exprs == length columns then exprs_for columns columns exprs else Err fault.Count

abbrev pub delete_in : TableSchema → Pred (List ℕ) → Result RowOp BindFault
delete_in schema pred = bound_in schema.columns pred >>= λ p. Ok (op.Delete p)

-- an update: the sets stand before the predicate
abbrev pub update_in : TableSchema → List (SetTo (List ℕ)) → Pred (List ℕ) → Result RowOp BindFault
update_in schema sets pred =
    sets_in schema.columns [] sets >>= λ bs. bound_in schema.columns pred >>= λ p. Ok (op.Update p bs schema)

-- an insert select: the expressions stand before the predicate
abbrev pub insert_select_in : TableSchema → List (Expr (List ℕ)) → Pred (List ℕ) → Result RowOp BindFault
insert_select_in schema exprs pred =
    exprs_in schema.columns exprs >>= λ bs. bound_in schema.columns pred >>= λ p. Ok (op.InsertSelect p bs schema)

-- what becomes of a row
abbrev pub change_in : List Column → Change (List ℕ) → Result (Change ℕ) BindFault
change_in columns (change.Update sets) = sets_in columns [] sets >>= λ bs. Ok (change.Update bs)
change_in columns change.Delete = Ok change.Delete

-- the clause of matched rows, where there is one
abbrev pub matched_in : List Column → Option (Change (List ℕ)) → Result (Option (Change ℕ)) BindFault
matched_in columns (Some c) = change_in columns c >>= λ b. Ok (Some b)
matched_in columns None = Ok None

-- the clause of rows that no row of the source matches, where there is one: its predicate stands before its sets
abbrev pub by_source_in : List Column → Option (BySource (List ℕ)) → Result (Option (BySource ℕ)) BindFault
by_source_in columns (Some s) =
    bound_in columns s.pred >>= λ p. change_in columns s.change >>= λ c. Ok (Some (record { pred = p; change = c }))
by_source_in columns None = Ok None

-- rows of the source, each with a datum for each column
abbrev pub source_in : List Column → List (List Datum) → Result (List (List Datum)) BindFault
source_in columns rows = if list_all (λ r. length r == length columns) rows then Ok rows else Err fault.Count

-- a merge: the keys, the rows of the source, and then its clauses
abbrev pub merge_in : TableSchema → MergeSpec (List ℕ) → Result (MergeSpec ℕ) BindFault
merge_in schema m =
    places_once schema.columns [] m.keys >>= λ keys.
    source_in schema.columns m.source >>= λ source.
    matched_in schema.columns m.matched >>= λ matched.
    by_source_in schema.columns m.by_source >>= λ by_source.
    Ok (record { keys = keys; source = source; matched = matched; insert = m.insert; by_source = by_source })
