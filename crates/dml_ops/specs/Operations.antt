-- A delete, an update or an insert select as a function on the bag of a table's rows, which knows no file.
use Rattle.std.specs.Prelude.{◌≡◌, ℕ, List, [], ◌++◌, filter, Result, Ok, Err}
use Rattle.row_base.specs.Bags.{others, SameRows}
use Rattle.row_base.specs.Faults.{◌>>=◌}
use Rattle.row_base.specs.declared.row.Datum.{Datum}
use Rattle.predicates.specs.declared.pred.Pred.{Pred}
use Rattle.op_types.specs.declared.bound.RowOp.{RowOp}
use Rattle.op_types.specs.declared.bound.RowOp.TheVariants as op
use Rattle.dml_ops.specs.declared.fault.OpFault.{OpFault}
use Rattle.dml_ops.specs.Images.{updated, selected}
use Rattle.dml_ops.specs.Outcomes.{one, results}
use Rattle.dml_ops.specs.Changes.{passes}

-- the rows that it is about
abbrev pub scope_of : RowOp → Pred ℕ
scope_of (op.Delete pred) = pred
scope_of (op.Update pred sets schema) = pred
scope_of (op.InsertSelect pred exprs schema) = pred

-- what comes in the place of the scope's rows: nothing, the rows with columns set, or the rows and those of the expressions
abbrev pub gives : RowOp → List (List Datum) → Result (List (List Datum)) OpFault
gives (op.Delete pred) xs = Ok []
gives (op.Update pred sets schema) xs = results (λ x. one (updated schema sets x [])) xs
gives (op.InsertSelect pred exprs schema) xs = results (λ x. one (selected schema exprs x)) xs >>= λ ys. Ok (xs ++ ys)

-- the table's rows after the operation: those outside the scope, and what comes in the place of the others
abbrev pub operated : RowOp → List (List Datum) → Result (List (List Datum)) OpFault
operated o rows = gives o (filter (passes (scope_of o)) rows) >>= λ ys. Ok (others (passes (scope_of o)) rows ++ ys)

-- the same bag, or the same fault
abbrev pub SameResult : Result (List (List Datum)) OpFault → Result (List (List Datum)) OpFault → Type 0
SameResult (Ok xs) (Ok ys) = SameRows xs ys
SameResult (Ok xs) (Err e) = ⊥
SameResult (Err e) (Ok ys) = ⊥
SameResult (Err e) (Err f) = e ≡ f
