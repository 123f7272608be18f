-- Expressions that no row of a source is needed for.
use Rattle.std.specs.Prelude.{◌&&◌, List, Bool, true, false, Option, Some, None}
use Rattle.std.specs.List.{list_all}
use Rattle.predicates.specs.declared.expr.Expr.{Expr, fold-Expr}
use Rattle.predicates.specs.declared.expr.Expr.TheOpen.{Expr-F}
use Rattle.op_types.specs.declared.bound.SetTo.{SetTo}
use Rattle.op_types.specs.declared.bound.Change.{Change}
use Rattle.op_types.specs.declared.bound.Change.TheVariants as change
use Rattle.op_types.specs.declared.bound.BySource.{BySource}

-- one level
abbrev pub plain_step : {C : Type 0} → Expr-F C Bool → Bool
plain_step (Expr-F.Cell c) = true
plain_step (Expr-F.SourceCell c) = false
plain_step (Expr-F.Literal d) = true
plain_step (Expr-F.Plus left right) = left && right
plain_step (Expr-F.Minus left right) = left && right
plain_step (Expr-F.Times left right) = left && right

-- no cell of a source row stands in it
abbrev pub is_plain : {C : Type 0} → Expr C → Bool
is_plain {C} = fold-Expr C Bool plain_step

-- nor in the expressions of these sets
abbrev pub are_plain : {C : Type 0} → List (SetTo C) → Bool
are_plain sets = list_all (λ s. is_plain s.value) sets

abbrev pub is_change_plain : {C : Type 0} → Change C → Bool
is_change_plain (change.Update sets) = are_plain sets
is_change_plain change.Delete = true

abbrev pub is_by_source_plain : {C : Type 0} → Option (BySource C) → Bool
is_by_source_plain (Some s) = is_change_plain s.change
is_by_source_plain None = true
