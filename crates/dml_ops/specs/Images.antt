-- The row that comes of a row.
use Rattle.std.specs.Prelude.{ℕ, ◌+◌, ◌==◌, List, [], ◌∷◌, Bool, true, false, Result, Ok, Err}
use Rattle.std.specs.List.{find}
use Rattle.std.specs.Option.{option_map_or}
use Rattle.std.specs.Result.{result_map_both}
use Rattle.row_base.specs.Faults.{◌>>=◌}
use Rattle.row_base.specs.Schema.{TableSchema, row_fault}
use Rattle.row_base.specs.declared.row.Datum.{Datum}
use Rattle.predicates.specs.Values.{value_of}
use Rattle.predicates.specs.declared.expr.Expr.{Expr}
use Rattle.predicates.specs.declared.expr.ExprFault.{ExprFault}
use Rattle.predicates.specs.declared.expr.ExprFault.TheVariants as expr
use Rattle.op_types.specs.declared.bound.SetTo.{SetTo}
use Rattle.dml_ops.specs.declared.fault.ImageFault.{ImageFault}
use Rattle.dml_ops.specs.declared.fault.ImageFault.TheVariants as fault
use Rattle.dml_ops.specs.declared.fault.Wrong.TheVariants as wrong

-- memory ran out
abbrev pub is_memory : ImageFault → Bool
is_memory (fault.Wrong w) = false
is_memory fault.NoMemory = true

-- the fault of an expression
abbrev pub image_fault : ExprFault → ImageFault
image_fault expr.Overflow = fault.Wrong wrong.Overflow
image_fault expr.NoMemory = fault.NoMemory

-- the value of an expression for a row and a source row
abbrev pub value_for : List Datum → List Datum → Expr ℕ → Result Datum ImageFault
value_for row source e = result_map_both (λ d. d) image_fault (value_of row source e)

-- what the column at this place holds once columns are set: the value of its set, or what stood there
abbrev pub new_value : List Datum → List Datum → List (SetTo ℕ) → ℕ → Datum → Result Datum ImageFault
new_value row source sets place d =
    option_map_or (λ s. value_for row source s.value) (find (λ s. s.column == place) sets) (Ok d)

-- the same of each column from this place on; all expressions see the row as it was
unfoldable pub new_values : List Datum → List Datum → List (SetTo ℕ) → ℕ → List Datum → Result (List Datum) ImageFault
new_values row source sets place [] = Ok []
new_values row source sets place (d ∷ ds) =
    new_value row source sets place d >>= λ e. new_values row source sets (place + 1) ds >>= λ es. Ok (e ∷ es)

-- the values of expressions
unfoldable pub values_of : List Datum → List (Expr ℕ) → Result (List Datum) ImageFault
values_of row [] = Ok []
values_of row (e ∷ es) = value_for row [] e >>= λ d. values_of row es >>= λ ds. Ok (d ∷ ds)

-- a row that fits the schema
abbrev pub fitting : TableSchema → List Datum → Result (List Datum) ImageFault
fitting schema row = option_map_or (λ f. Err (fault.Wrong (wrong.Misfit f))) (row_fault schema row) (Ok row)

-- the row with columns set, beside a source row
abbrev pub updated : TableSchema → List (SetTo ℕ) → List Datum → List Datum → Result (List Datum) ImageFault
updated schema sets row source = new_values row source sets 0 row >>= fitting schema

-- the row of expressions
abbrev pub selected : TableSchema → List (Expr ℕ) → List Datum → Result (List Datum) ImageFault
selected schema exprs row = values_of row exprs >>= fitting schema
