-- When the columns of a bound statement are places of the rows that it is asked of.
use Rattle.std.specs.Prelude.{ℕ, ◌&&◌, ◌==◌, nat_lt, length, List, Bool, true, Option, Some, None}
use Rattle.std.specs.List.{list_all}
use Rattle.predicates.specs.Truths.{is_bound}
use Rattle.predicates.specs.Values.{is_expr_bound}
use Rattle.op_types.specs.declared.bound.SetTo.{SetTo}
use Rattle.op_types.specs.declared.bound.Change.{Change}
use Rattle.op_types.specs.declared.bound.Change.TheVariants as change
use Rattle.op_types.specs.declared.bound.BySource.{BySource}
use Rattle.op_types.specs.declared.bound.MergeSpec.{MergeSpec}
use Rattle.op_types.specs.declared.bound.RowOp.{RowOp}
use Rattle.op_types.specs.declared.bound.RowOp.TheVariants as op

-- columns that are set in rows of this width, beside a source row of that width
abbrev pub are_sets_bound : ℕ → ℕ → List (SetTo ℕ) → Bool
are_sets_bound width source sets = list_all (λ s. nat_lt s.column width && is_expr_bound width source s.value) sets

-- what becomes of rows of this width, beside a source row of that width
abbrev pub is_change_bound : ℕ → ℕ → Change ℕ → Bool
is_change_bound width source (change.Update sets) = are_sets_bound width source sets
is_change_bound width source change.Delete = true

-- a change of rows of this width, which have no source row
abbrev pub is_row_op_bound : ℕ → RowOp → Bool
is_row_op_bound width (op.Delete pred) = is_bound width pred
is_row_op_bound width (op.Update pred sets schema) = is_bound width pred && are_sets_bound width 0 sets
is_row_op_bound width (op.InsertSelect pred exprs schema) = is_bound width pred && list_all (is_expr_bound width 0) exprs

-- a clause of a merge into rows of this width
abbrev pub is_matched_bound : ℕ → Option (Change ℕ) → Bool
is_matched_bound width (Some c) = is_change_bound width width c
is_matched_bound width None = true

abbrev pub is_by_source_bound : ℕ → Option (BySource ℕ) → Bool
is_by_source_bound width (Some s) = is_bound width s.pred && is_change_bound width 0 s.change
is_by_source_bound width None = true

-- a merge into rows of this width, which the source's rows have too
abbrev pub is_merge_bound : ℕ → MergeSpec ℕ → Bool
is_merge_bound width m =
    list_all (λ c. nat_lt c width) m.keys && list_all (λ s. length s == width) m.source
    && is_matched_bound width m.matched && is_by_source_bound width m.by_source
