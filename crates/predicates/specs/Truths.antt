-- The truth of a predicate for a row.
use Rattle.std.specs.Prelude.{ℕ, ◌&&◌, ◌==◌, length, List, [], ◌∷◌, Bool, true, false, nat_lt, if◌then◌else◌, slice_index_or}
use Rattle.std.specs.List.{list_all}
use Rattle.std.specs.declared.cmp.Ordering.{Ordering}
use Rattle.std.specs.Ordering.{is_eq, is_ne, is_lt, is_le, is_gt, is_ge}
use Rattle.row_base.specs.declared.row.Datum.{Datum}
use Rattle.row_base.specs.declared.row.Datum.TheVariants as datum
use Rattle.row_base.specs.RowOrder.{datum_cmp}
use Rattle.predicates.specs.declared.truth.Truth.{Truth}
use Rattle.predicates.specs.declared.truth.Truth.TheVariants.{Yes, No, Unknown}
use Rattle.predicates.specs.declared.pred.Op.{Op}
use Rattle.predicates.specs.declared.pred.Op.TheVariants as op
use Rattle.predicates.specs.declared.pred.Operand.{Operand}
use Rattle.predicates.specs.declared.pred.Operand.TheVariants as operand
use Rattle.predicates.specs.declared.pred.Pred.{Pred, fold-Pred}
use Rattle.predicates.specs.declared.pred.Pred.TheOpen.{Pred-F}
use Rattle.predicates.specs.Kleene.{kleene_not, kleene_and, kleene_or}

-- an operator holds of two values that stand in this order
abbrev pub holds : Op → Ordering → Bool
holds op.Eq o = is_eq o
holds op.Ne o = is_ne o
holds op.Lt o = is_lt o
holds op.Le o = is_le o
holds op.Gt o = is_gt o
holds op.Ge o = is_ge o

-- the null datum
abbrev pub is_null : Datum → Bool
is_null datum.Null = true
is_null d = false

-- yes or no
abbrev pub certain : Bool → Truth
certain b = if b then Yes else No

-- two values: where one is null it isn't known
abbrev pub compared : Op → Datum → Datum → Truth
compared o x y =
    if is_null x then Unknown else (if is_null y then Unknown else certain (holds o (datum_cmp x y)))

-- what stands in a column
abbrev pub cell : List Datum → ℕ → Datum
cell row c = slice_index_or row c datum.Null

-- what a column is compared with
abbrev pub right_side : List Datum → Operand ℕ → Datum
right_side row (operand.Column c) = cell row c
right_side row (operand.Literal d) = d

-- each column of the key is equal to its value
unfoldable pub key_in : List Datum → List ℕ → List Datum → Truth
key_in row (c ∷ cs) (d ∷ ds) = kleene_and (compared op.Eq (cell row c) d) (key_in row cs ds)
key_in row cs ds = Yes

-- one of the keys is the row's
unfoldable pub keys_in : List Datum → List ℕ → List (List Datum) → Truth
keys_in row cs [] = No
keys_in row cs (k ∷ ks) = kleene_or (key_in row cs k) (keys_in row cs ks)

-- one level, whose parts have their truths
abbrev pub truth_step : List Datum → Pred-F ℕ Truth → Truth
truth_step row Pred-F.Always = Yes
truth_step row Pred-F.Never = No
truth_step row (Pred-F.Compare o c r) = compared o (cell row c) (right_side row r)
truth_step row (Pred-F.IsNull c) = certain (is_null (cell row c))
truth_step row (Pred-F.Both p q) = kleene_and p q
truth_step row (Pred-F.Either p q) = kleene_or p q
truth_step row (Pred-F.Negation p) = kleene_not p
truth_step row (Pred-F.Keys cs ks) = keys_in row cs ks

-- what a row makes of a predicate
abbrev pub truth_of : List Datum → Pred ℕ → Truth
truth_of row = fold-Pred ℕ Truth (truth_step row)

-- a right side whose column is a place of a row of this width
abbrev pub is_operand : ℕ → Operand ℕ → Bool
is_operand width (operand.Column c) = nat_lt c width
is_operand width (operand.Literal d) = true

-- one level: each column is a place of a row of this width, and each key has a datum for each of its columns
abbrev pub bound_step : ℕ → Pred-F ℕ Bool → Bool
bound_step width Pred-F.Always = true
bound_step width Pred-F.Never = true
bound_step width (Pred-F.Compare o c r) = nat_lt c width && is_operand width r
bound_step width (Pred-F.IsNull c) = nat_lt c width
bound_step width (Pred-F.Both p q) = p && q
bound_step width (Pred-F.Either p q) = p && q
bound_step width (Pred-F.Negation p) = p
bound_step width (Pred-F.Keys cs ks) =
    list_all (λ c. nat_lt c width) cs && list_all (λ k. length k == length cs) ks

-- a predicate over the places of a row of this width
abbrev pub is_bound : ℕ → Pred ℕ → Bool
is_bound width = fold-Pred ℕ Bool (bound_step width)
