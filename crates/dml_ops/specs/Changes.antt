-- What a delete, an update or an insert select makes of a file.
use Rattle.std.specs.Prelude.{ℕ, List, [], ◌∷◌, Bool, true, false, if◌then◌else◌, Result, Ok}
use Rattle.std.specs.List.{list_any}
use Rattle.row_base.specs.Bags.{others}
use Rattle.row_base.specs.Faults.{◌>>=◌}
use Rattle.row_base.specs.Schema.{TableSchema}
use Rattle.row_base.specs.declared.row.Datum.{Datum}
use Rattle.predicates.specs.Truths.{truth_of}
use Rattle.predicates.specs.declared.pred.Pred.{Pred}
use Rattle.predicates.specs.declared.expr.Expr.{Expr}
use Rattle.predicates.specs.declared.truth.Truth.{Truth}
use Rattle.predicates.specs.declared.truth.Truth.TheVariants.{Yes, No, Unknown}
use Rattle.op_types.specs.declared.bound.SetTo.{SetTo}
use Rattle.op_types.specs.declared.bound.RowOp.{RowOp}
use Rattle.op_types.specs.declared.bound.RowOp.TheVariants as op
use Rattle.dml_ops.specs.declared.change.Changed.{Changed}
use Rattle.dml_ops.specs.declared.fault.OpFault.{OpFault}
use Rattle.dml_ops.specs.Images.{updated, selected}
use Rattle.dml_ops.specs.Outcomes.{Outcome, one, results}

abbrev pub is_yes : Truth → Bool
is_yes Yes = true
is_yes No = false
is_yes Unknown = false

-- a row is in the scope
abbrev pub passes : Pred ℕ → List Datum → Bool
passes pred row = is_yes (truth_of row pred)

-- what comes of a row of a file by an update: the row with columns set in the scope, and else the row
abbrev pub update_step : Pred ℕ → List (SetTo ℕ) → TableSchema → List Datum → Outcome
update_step pred sets schema row = if passes pred row then one (updated schema sets row []) else Ok (row ∷ [])

-- what is added for a row of a file by an insert select: the row of the expressions in the scope, and else nothing
abbrev pub select_step : Pred ℕ → List (Expr ℕ) → TableSchema → List Datum → Outcome
select_step pred exprs schema row = if passes pred row then one (selected schema exprs row) else Ok []

abbrev pub deleted : Pred ℕ → List (List Datum) → Result Changed OpFault
deleted pred rows = Ok (record { touched = list_any (passes pred) rows; rows = others (passes pred) rows; extra = [] })

abbrev pub updated_file : Pred ℕ → List (SetTo ℕ) → TableSchema → List (List Datum) → Result Changed OpFault
updated_file pred sets schema rows =
    results (update_step pred sets schema) rows >>= λ ys. Ok (record { touched = list_any (passes pred) rows; rows = ys; extra = [] })

abbrev pub extended : Pred ℕ → List (Expr ℕ) → TableSchema → List (List Datum) → Result Changed OpFault
extended pred exprs schema rows =
    results (select_step pred exprs schema) rows >>= λ ys. Ok (record { touched = false; rows = rows; extra = ys })

-- a file after a change: whether it is touched, its rows, and what is added
abbrev pub changed_by : RowOp → List (List Datum) → Result Changed OpFault
changed_by (op.Delete pred) rows = deleted pred rows
changed_by (op.Update pred sets schema) rows = updated_file pred sets schema rows
changed_by (op.InsertSelect pred exprs schema) rows = extended pred exprs schema rows
