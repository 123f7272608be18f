-- The value of an expression for a row.
use Rattle.std.specs.Prelude.{ℕ, ℤ, ◌+ℤ◌, ◌-ℤ◌, ◌*ℤ◌, ◌&&◌, List, [], Bool, true, false, nat_lt, if◌then◌else◌, Option, Some, None, Result, Ok, Err}
use Rattle.row_base.specs.Faults.{◌>>=◌}
use Rattle.row_base.specs.Numbers.{is_i64}
use Rattle.row_base.specs.Schema.{is_i32}
use Rattle.row_base.specs.declared.row.Datum.{Datum}
use Rattle.row_base.specs.declared.row.Datum.TheVariants as datum
use Rattle.predicates.specs.Truths.{cell}
use Rattle.predicates.specs.declared.expr.Arithmetic.{Arithmetic}
use Rattle.predicates.specs.declared.expr.Arithmetic.TheVariants as arithmetic
use Rattle.predicates.specs.declared.expr.Expr.{Expr, fold-Expr}
use Rattle.predicates.specs.declared.expr.Expr.TheOpen.{Expr-F}
use Rattle.predicates.specs.declared.expr.ExprFault.{ExprFault}
use Rattle.predicates.specs.declared.expr.ExprFault.TheVariants as fault

-- memory ran out
abbrev pub is_memory : ExprFault → Bool
is_memory fault.Overflow = false
is_memory fault.NoMemory = true

-- the sum, the difference or the product
abbrev pub applied : Arithmetic → ℤ → ℤ → ℤ
applied arithmetic.Plus x y = x +ℤ y
applied arithmetic.Minus x y = x -ℤ y
applied arithmetic.Times x y = x *ℤ y

-- a number that fits 64 bits
abbrev pub long_in : ℤ → Option ℤ
long_in z = if is_i64 z then Some z else None

-- a number that fits 32 bits
abbrev pub integer_in : ℤ → Option ℤ
integer_in z = if is_i32 z then Some z else None

-- a long that fits, or the fault
abbrev pub long_or_fault : Option ℤ → Result Datum ExprFault
long_or_fault (Some z) = Ok (datum.Long z)
long_or_fault None = Err fault.Overflow

-- an integer that fits, or the fault
abbrev pub integer_or_fault : Option ℤ → Result Datum ExprFault
integer_or_fault (Some z) = Ok (datum.Integer z)
integer_or_fault None = Err fault.Overflow

-- what two data make: two longs or two integers a number in their width, and any others null
abbrev pub computed : Arithmetic → Datum → Datum → Result Datum ExprFault
computed o (datum.Long x) (datum.Long y) = long_or_fault (long_in (applied o x y))
computed o (datum.Integer x) (datum.Integer y) = integer_or_fault (integer_in (applied o x y))
computed o x y = Ok datum.Null

-- what two sides make: a fault of the left one comes first
abbrev pub computed_of : Arithmetic → Result Datum ExprFault → Result Datum ExprFault → Result Datum ExprFault
computed_of o left right = left >>= λ x. right >>= λ y. computed o x y

-- one level, whose sides have their values
abbrev pub value_step : List Datum → List Datum → Expr-F ℕ (Result Datum ExprFault) → Result Datum ExprFault
value_step row source (Expr-F.Cell c) = Ok (cell row c)
value_step row source (Expr-F.SourceCell c) = Ok (cell source c)
value_step row source (Expr-F.Literal d) = Ok d
value_step row source (Expr-F.Plus left right) = computed_of arithmetic.Plus left right
value_step row source (Expr-F.Minus left right) = computed_of arithmetic.Minus left right
value_step row source (Expr-F.Times left right) = computed_of arithmetic.Times left right

-- the value of an expression for a row and a source row
abbrev pub value_of : List Datum → List Datum → Expr ℕ → Result Datum ExprFault
value_of row source = fold-Expr ℕ (Result Datum ExprFault) (value_step row source)

-- the data of the source row, of which there are none where there is no such row
abbrev pub source_data : Option (List Datum) → List Datum
source_data (Some source) = source
source_data None = []

-- one level: each column is a place of a row of this width, or of a source row of that
abbrev pub expr_bound_step : ℕ → ℕ → Expr-F ℕ Bool → Bool
expr_bound_step width source (Expr-F.Cell c) = nat_lt c width
expr_bound_step width source (Expr-F.SourceCell c) = nat_lt c source
expr_bound_step width source (Expr-F.Literal d) = true
expr_bound_step width source (Expr-F.Plus left right) = left && right
expr_bound_step width source (Expr-F.Minus left right) = left && right
expr_bound_step width source (Expr-F.Times left right) = left && right

-- an expression over the places of a row of this width and of a source row of that
abbrev pub is_expr_bound : ℕ → ℕ → Expr ℕ → Bool
is_expr_bound width source = fold-Expr ℕ Bool (expr_bound_step width source)
