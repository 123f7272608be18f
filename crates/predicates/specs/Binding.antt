-- A predicate or an expression over the places of columns for one over their names, or the first fault from the left.
use Rattle.std.specs.Prelude.{◌==◌, ℕ, ℤ, List, [], ◌∷◌, length, Option, Some, None, Result, Ok, Err, Bool, true, false, if◌then◌else◌, slice_get, option_map, option_and_then}
use Rattle.std.specs.List.{position}
use Rattle.std.specs.Cmp.Lexicographic.{pointwise}
use Rattle.row_base.specs.Faults.{◌>>=◌}
use Rattle.row_base.specs.Schema.{is_i32}
use Rattle.row_base.specs.declared.row.Datum.{Datum}
use Rattle.row_base.specs.declared.row.Datum.TheVariants as datum
use Rattle.row_base.specs.declared.row.Kind.{Kind}
use Rattle.row_base.specs.declared.row.Kind.TheVariants as kind
use Rattle.row_base.specs.declared.schema.Column.{Column}
use Rattle.predicates.specs.declared.pred.Op.{Op}
use Rattle.predicates.specs.declared.pred.Operand.{Operand}
use Rattle.predicates.specs.declared.pred.Operand.TheVariants as operand
use Rattle.predicates.specs.declared.pred.Pred.{Pred, fold-Pred}
use Rattle.predicates.specs.declared.pred.Pred.TheOpen.{Pred-F}
use Rattle.predicates.specs.declared.pred.Pred.TheVariants as pred
use Rattle.predicates.specs.declared.expr.Expr.{Expr, fold-Expr}
use Rattle.predicates.specs.declared.expr.Expr.TheOpen.{Expr-F}
use Rattle.predicates.specs.declared.expr.Expr.TheVariants as expr
use Rattle.predicates.specs.declared.fault.BindFault.{BindFault}
use Rattle.predicates.specs.declared.fault.BindFault.TheVariants as fault

-- memory ran out
abbrev pub is_memory : BindFault → Bool
is_memory (fault.Column name) = false
is_memory (fault.Kind name) = false
is_memory (fault.Twice name) = false
is_memory fault.Count = false
is_memory (fault.Property key) = false
is_memory (fault.Fixed key) = false
is_memory fault.NoMemory = true

-- what there is, or this fault
abbrev pub or_fault : {A : Type 0} → BindFault → Option A → Result A BindFault
or_fault e (Some x) = Ok x
or_fault e None = Err e

-- the place of the first column of this name
abbrev pub place_in : List Column → List ℕ → Option ℕ
place_in columns name = position (λ c. pointwise ◌==◌ c.name name) columns

-- the place and the kind of the column of this name
abbrev pub found_in : List Column → List ℕ → Result (ℕ × Kind) BindFault
found_in columns name =
    or_fault (fault.Column name) (option_and_then (λ k. option_map (λ c. (k, c.kind)) (slice_get columns k)) (place_in columns name))

-- a number literal for the column of integers of this name: it must fit 32 bits
abbrev pub narrowed : ℤ → List ℕ → Result Datum BindFault
narrowed n name = if is_i32 n then Ok (datum.Integer n) else Err (fault.Kind name)

-- a literal as the column of this kind and name takes it; null has every kind
abbrev pub literal_as : Kind → Datum → List ℕ → Result Datum BindFault
literal_as k datum.Null name = Ok datum.Null
literal_as kind.Long (datum.Long n) name = Ok (datum.Long n)
literal_as kind.Integer (datum.Integer n) name = Ok (datum.Integer n)
literal_as kind.Integer (datum.Long n) name = narrowed n name
literal_as kind.Boolean (datum.Boolean b) name = Ok (datum.Boolean b)
literal_as kind.String (datum.Text t) name = Ok (datum.Text t)
literal_as kind.Date (datum.Date n) name = Ok (datum.Date n)
literal_as k d name = Err (fault.Kind name)

-- two kinds are one
abbrev pub same_kind : Kind → Kind → Bool
same_kind kind.Long kind.Long = true
same_kind kind.Integer kind.Integer = true
same_kind kind.Boolean kind.Boolean = true
same_kind kind.String kind.String = true
same_kind kind.Date kind.Date = true
same_kind k j = false

-- the right side of a comparison with the column of this kind and name
abbrev pub operand_in : List Column → Kind → Operand (List ℕ) → List ℕ → Result (Operand ℕ) BindFault
operand_in columns k (operand.Column other) name =
    found_in columns other >>= λ p. if same_kind k p.1 then Ok (operand.Column p.0) else Err (fault.Kind name)
operand_in columns k (operand.Literal d) name = literal_as k d name >>= λ e. Ok (operand.Literal e)

-- a comparison: the left column comes first
abbrev pub comparison_in : List Column → Op → List ℕ → Operand (List ℕ) → Result (Pred ℕ) BindFault
comparison_in columns o c r =
    found_in columns c >>= λ p. operand_in columns p.1 r c >>= λ s. Ok (pred.Compare o p.0 s)

-- the places of these names
unfoldable pub places_in : List Column → List (List ℕ) → Result (List ℕ) BindFault
places_in columns [] = Ok []
places_in columns (n ∷ ns) = found_in columns n >>= λ p. places_in columns ns >>= λ ps. Ok (p.0 ∷ ps)

-- a datum of a key as a literal that is compared with its column
abbrev pub key_literal_in : List Column → List ℕ → Datum → Result Datum BindFault
key_literal_in columns n d = found_in columns n >>= λ p. literal_as p.1 d n

-- the data of a key, each as a literal that is compared with its column
unfoldable pub key_as : List Column → List (List ℕ) → List Datum → Result (List Datum) BindFault
key_as columns (n ∷ ns) (d ∷ ds) =
    key_literal_in columns n d >>= λ e. key_as columns ns ds >>= λ es. Ok (e ∷ es)
key_as columns ns ds = Ok []

-- a key: it has a datum for each of its columns
abbrev pub key_in : List Column → List (List ℕ) → List Datum → Result (List Datum) BindFault
key_in columns ns ds = if length ds == length ns then key_as columns ns ds else Err fault.Count

-- the same of each key
unfoldable pub keys_as : List Column → List (List ℕ) → List (List Datum) → Result (List (List Datum)) BindFault
keys_as columns ns [] = Ok []
keys_as columns ns (k ∷ ks) =
    key_in columns ns k >>= λ e. keys_as columns ns ks >>= λ es. Ok (e ∷ es)

-- keys: the columns come first
abbrev pub keys_in : List Column → List (List ℕ) → List (List Datum) → Result (Pred ℕ) BindFault
keys_in columns ns ks = places_in columns ns >>= λ ps. keys_as columns ns ks >>= λ es. Ok (pred.Keys ps es)

-- one level, whose parts are bound: the left one comes first
abbrev pub bind_step : List Column → Pred-F (List ℕ) (Result (Pred ℕ) BindFault) → Result (Pred ℕ) BindFault
bind_step columns Pred-F.Always = Ok pred.Always
bind_step columns Pred-F.Never = Ok pred.Never
bind_step columns (Pred-F.Compare o c r) = comparison_in columns o c r
bind_step columns (Pred-F.IsNull c) = found_in columns c >>= λ p. Ok (pred.IsNull p.0)
bind_step columns (Pred-F.Both p q) = p >>= λ a. q >>= λ b. Ok (pred.Both a b)
bind_step columns (Pred-F.Either p q) = p >>= λ a. q >>= λ b. Ok (pred.Either a b)
bind_step columns (Pred-F.Negation p) = p >>= λ a. Ok (pred.Negation a)
bind_step columns (Pred-F.Keys ns ks) = keys_in columns ns ks

-- a predicate over places for one over the names of these columns
abbrev pub bound_in : List Column → Pred (List ℕ) → Result (Pred ℕ) BindFault
bound_in columns = fold-Pred (List ℕ) (Result (Pred ℕ) BindFault) (bind_step columns)

-- the place of a column that must be of this kind, in an expression for the column of this name
abbrev pub place_of_kind : List Column → Kind → List ℕ → List ℕ → Result ℕ BindFault
place_of_kind columns k c name =
    found_in columns c >>= λ p. if same_kind k p.1 then Ok p.0 else Err (fault.Kind name)

-- arithmetic makes longs and integers alone
unfoldable pub number_kind : Kind → List ℕ → Result (Unit {0}) BindFault
number_kind kind.Long name = Ok tt
number_kind kind.Integer name = Ok tt
number_kind k name = Err (fault.Kind name)

-- two sides of arithmetic: where it is of the wrong kind, that stands at its first name or literal, behind a column
-- there that isn't in the table
abbrev pub sides_in : Kind → List ℕ → (Expr ℕ → Expr ℕ → Expr ℕ) → Result (Expr ℕ) BindFault → Result (Expr ℕ) BindFault → Result (Expr ℕ) BindFault
sides_in k name make left right =
    left >>= λ a. number_kind k name >>= λ u. right >>= λ b. Ok (make a b)

-- one level, whose sides are bound
abbrev pub bind_expr_step : List Column → Kind → List ℕ → Expr-F (List ℕ) (Result (Expr ℕ) BindFault) → Result (Expr ℕ) BindFault
bind_expr_step columns k name (Expr-F.Cell c) = place_of_kind columns k c name >>= λ p. Ok (expr.Cell p)
bind_expr_step columns k name (Expr-F.SourceCell c) = place_of_kind columns k c name >>= λ p. Ok (expr.SourceCell p)
bind_expr_step columns k name (Expr-F.Literal d) = literal_as k d name >>= λ e. Ok (expr.Literal e)
bind_expr_step columns k name (Expr-F.Plus left right) = sides_in k name expr.Plus left right
bind_expr_step columns k name (Expr-F.Minus left right) = sides_in k name expr.Minus left right
bind_expr_step columns k name (Expr-F.Times left right) = sides_in k name expr.Times left right

-- an expression over places for one over the names of these columns, for the column of this kind and name
abbrev pub bound_expr_in : List Column → Kind → List ℕ → Expr (List ℕ) → Result (Expr ℕ) BindFault
bound_expr_in columns k name = fold-Expr (List ℕ) (Result (Expr ℕ) BindFault) (bind_expr_step columns k name)
