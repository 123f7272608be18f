-- Want of memory is no outcome of a row.
use Rattle.std.proofs.Common.{◌≡◌, ℕ, ℤ, ◌+◌, ◌==◌, Bool, true, false, List, [], ◌∷◌, Result, Ok, Err, refl, ap, ◌∙◌, subst}
use Rattle.std.specs.Prelude.{◌+ℤ◌, ◌-ℤ◌, ◌*ℤ◌, Option, Some, None}
use Rattle.std.specs.List.{find}
use Rattle.std.specs.Option.{option_map_or}
use Rattle.std.specs.Result.{result_map_both}
use Rattle.row_base.specs.Faults.{◌>>=◌}
use Rattle.row_base.specs.Schema.{TableSchema, row_fault}
use Rattle.row_base.specs.declared.row.Datum.{Datum}
use Rattle.row_base.specs.declared.row.Datum.TheVariants.{Null, Long, Integer, Boolean, Text, Date}
use Rattle.row_base.specs.declared.schema.RowFault.{RowFault}
use Rattle.predicates.specs.declared.expr.Expr.{Expr, map-Expr}
use Rattle.predicates.specs.declared.expr.Expr.TheOpen.{Expr-F}
use Rattle.predicates.specs.declared.expr.Expr.TheViews.{roll-Expr}
use Rattle.predicates.specs.declared.expr.Expr.TheFolds.{fold-roll-Expr, ind-Expr}
use Rattle.predicates.specs.declared.expr.ExprFault.{ExprFault}
use Rattle.predicates.specs.declared.expr.ExprFault.TheVariants as expr
use Rattle.predicates.specs.Values.{long_or_fault, integer_or_fault, long_in, integer_in, value_step, value_of}
use Rattle.op_types.specs.declared.bound.SetTo.{SetTo}
use Rattle.dml_ops.specs.declared.fault.ImageFault.{ImageFault}
use Rattle.dml_ops.specs.declared.fault.ImageFault.TheVariants as image
use Rattle.dml_ops.specs.declared.fault.Wrong.TheVariants as wrong
use Rattle.dml_ops.specs.Images.{image_fault, value_for, new_value, new_values, values_of, fitting, updated, selected}

-- a value, or an overflow
abbrev is_known : Result Datum ExprFault → Bool
is_known (Ok d) = true
is_known (Err expr.Overflow) = true
is_known (Err expr.NoMemory) = false

long_known : (z : Option ℤ) → is_known (long_or_fault z) ≡ true
long_known (Some z) = refl
long_known None = refl

integer_known : (z : Option ℤ) → is_known (integer_or_fault z) ≡ true
integer_known (Some z) = refl
integer_known None = refl

-- one level over two data
abbrev sum_of : Datum → Datum → Result Datum ExprFault
sum_of x y = value_step [] [] (Expr-F.Plus (Ok x) (Ok y))

abbrev difference_of : Datum → Datum → Result Datum ExprFault
difference_of x y = value_step [] [] (Expr-F.Minus (Ok x) (Ok y))

abbrev product_of : Datum → Datum → Result Datum ExprFault
product_of x y = value_step [] [] (Expr-F.Times (Ok x) (Ok y))

all_known : (x y : Datum) → (is_known (sum_of x y) ≡ true) × (is_known (difference_of x y) ≡ true) × (is_known (product_of x y) ≡ true)
all_known Null y = (refl, refl, refl)
all_known (Boolean b) y = (refl, refl, refl)
all_known (Text t) y = (refl, refl, refl)
all_known (Date d) y = (refl, refl, refl)
all_known (Long x) Null = (refl, refl, refl)
all_known (Long x) (Long y) = (long_known (long_in (x +ℤ y)), long_known (long_in (x -ℤ y)), long_known (long_in (x *ℤ y)))
all_known (Long x) (Integer y) = (refl, refl, refl)
all_known (Long x) (Boolean b) = (refl, refl, refl)
all_known (Long x) (Text t) = (refl, refl, refl)
all_known (Long x) (Date d) = (refl, refl, refl)
all_known (Integer x) Null = (refl, refl, refl)
all_known (Integer x) (Long y) = (refl, refl, refl)
all_known (Integer x) (Integer y) = (integer_known (integer_in (x +ℤ y)), integer_known (integer_in (x -ℤ y)), integer_known (integer_in (x *ℤ y)))
all_known (Integer x) (Boolean b) = (refl, refl, refl)
all_known (Integer x) (Text t) = (refl, refl, refl)
all_known (Integer x) (Date d) = (refl, refl, refl)

sides_known : (f : Datum → Datum → Result Datum ExprFault) → ((x y : Datum) → is_known (f x y) ≡ true) → (l r : Result Datum ExprFault) → is_known l ≡ true → is_known r ≡ true
    → is_known (l >>= λ x. r >>= λ y. f x y) ≡ true
sides_known f known (Ok x) (Ok y) left right = known x y
sides_known f known (Ok x) (Err e) left right = right
sides_known f known (Err e) r left right = left

module _ (row source : List Datum) where
  abbrev IsKnown : Expr ℕ → Type 0
  IsKnown e = is_known (value_of row source e) ≡ true

  rolled : (x : Expr-F ℕ (Expr ℕ)) → is_known (value_step row source (map-Expr ℕ (Expr ℕ) (Result Datum ExprFault) (value_of row source) x)) ≡ true → IsKnown (roll-Expr ℕ x)
  rolled x h = ap is_known (fold-roll-Expr ℕ (Result Datum ExprFault) (value_step row source) x) ∙ h

  layer : {S : Type 0} (tree : S → Expr ℕ) → ((e : S) → IsKnown (tree e)) → (y : Expr-F ℕ S) → IsKnown (roll-Expr ℕ (map-Expr ℕ S (Expr ℕ) tree y))
  layer tree known (Expr-F.Cell c) = rolled (Expr-F.Cell c) refl
  layer tree known (Expr-F.SourceCell c) = rolled (Expr-F.SourceCell c) refl
  layer tree known (Expr-F.Literal d) = rolled (Expr-F.Literal d) refl
  layer tree known (Expr-F.Plus l r) =
      rolled (Expr-F.Plus (tree l) (tree r)) (sides_known sum_of (λ x y. (all_known x y).0) (value_of row source (tree l)) (value_of row source (tree r)) (known l) (known r))
  layer tree known (Expr-F.Minus l r) =
      rolled (Expr-F.Minus (tree l) (tree r)) (sides_known difference_of (λ x y. (all_known x y).1) (value_of row source (tree l)) (value_of row source (tree r)) (known l) (known r))
  layer tree known (Expr-F.Times l r) =
      rolled (Expr-F.Times (tree l) (tree r)) (sides_known product_of (λ x y. (all_known x y).2) (value_of row source (tree l)) (value_of row source (tree r)) (known l) (known r))

  value_known : (e : Expr ℕ) → IsKnown e
  value_known = ind-Expr ℕ IsKnown (λ x y is. subst (λ z. IsKnown (roll-Expr ℕ z)) is (layer (λ e. e.0) (λ e. e.1) y))

-- the same of what is made of a row
abbrev pub is_said : {A : Type 0} → Result A ImageFault → Bool
is_said (Ok y) = true
is_said (Err (image.Wrong w)) = true
is_said (Err image.NoMemory) = false

pub chain_said : {A B : Type 0} (r : Result A ImageFault) (f : A → Result B ImageFault) → is_said r ≡ true → ((x : A) → is_said (f x) ≡ true) → is_said (r >>= f) ≡ true
chain_said (Ok x) f h k = k x
chain_said (Err (image.Wrong w)) f h k = refl
chain_said (Err image.NoMemory) f h k = h

value_said : (row source : List Datum) (e : Expr ℕ) → is_said (value_for row source e) ≡ true
value_said row source e = by (value_of row source e) (value_known row source e)
  where
    by : (r : Result Datum ExprFault) → is_known r ≡ true → is_said (result_map_both (λ d. d) image_fault r) ≡ true
    by (Ok d) h = refl
    by (Err expr.Overflow) h = refl
    by (Err expr.NoMemory) h = h

new_said : (row source : List Datum) (place : ℕ) (d : Datum) (s : Option (SetTo ℕ)) → is_said (option_map_or (λ s. value_for row source s.value) s (Ok d)) ≡ true
new_said row source place d (Some s) = value_said row source s.value
new_said row source place d None = refl

news_said : (row source : List Datum) (sets : List (SetTo ℕ)) (place : ℕ) (ds : List Datum) → is_said (new_values row source sets place ds) ≡ true
unfolding new_values
news_said row source sets place [] = refl
news_said row source sets place (d ∷ ds) =
    chain_said (new_value row source sets place d) (λ e. new_values row source sets (place + 1) ds >>= λ es. Ok (e ∷ es)) (new_said row source place d (find (λ s. s.column == place) sets))
    (λ e. chain_said (new_values row source sets (place + 1) ds) (λ es. Ok (e ∷ es)) (news_said row source sets (place + 1) ds) (λ es. refl))

values_said : (row : List Datum) (es : List (Expr ℕ)) → is_said (values_of row es) ≡ true
unfolding values_of
values_said row [] = refl
values_said row (e ∷ es) =
    chain_said (value_for row [] e) (λ d. values_of row es >>= λ ds. Ok (d ∷ ds)) (value_said row [] e)
    (λ d. chain_said (values_of row es) (λ ds. Ok (d ∷ ds)) (values_said row es) (λ ds. refl))

fitting_said : (schema : TableSchema) (row : List Datum) → is_said (fitting schema row) ≡ true
fitting_said schema row = by (row_fault schema row)
  where
    by : (f : Option RowFault) → is_said (option_map_or (λ f. Err (image.Wrong (wrong.Misfit f))) f (Ok row)) ≡ true
    by (Some f) = refl
    by None = refl

pub updated_said : (schema : TableSchema) (sets : List (SetTo ℕ)) (row source : List Datum) → is_said (updated schema sets row source) ≡ true
updated_said schema sets row source = chain_said (new_values row source sets 0 row) (fitting schema) (news_said row source sets 0 row) (fitting_said schema)

pub selected_said : (schema : TableSchema) (exprs : List (Expr ℕ)) (row : List Datum) → is_said (selected schema exprs row) ≡ true
selected_said schema exprs row = chain_said (values_of row exprs) (fitting schema) (values_said row exprs) (fitting_said schema)
