-- The operation that each bound statement means.
use Rattle.std.specs.Prelude.{ℕ, Bool, if◌then◌else◌, List, [], ◌∷◌, map, is_some, Option, Some, None, Result, Ok, Err}
use Rattle.row_base.specs.Schema.{TableSchema}
use Rattle.predicates.specs.declared.pred.Pred.{Pred}
use Rattle.predicates.specs.declared.pred.Pred.TheVariants as pred
use Rattle.predicates.specs.declared.expr.Expr.{Expr}
use Rattle.op_types.specs.declared.bound.SetTo.{SetTo}
use Rattle.op_types.specs.declared.bound.RowOp.{RowOp}
use Rattle.op_types.specs.declared.bound.RowOp.TheVariants as op
use Rattle.op_types.specs.declared.bound.BySource.{BySource}
use Rattle.op_types.specs.declared.bound.MergeSpec.{MergeSpec}
use Rattle.dml_ops.specs.Changes.{passes}
use Rattle.dml_ops.specs.Images.{updated, selected}
use Rattle.merge_op.specs.Matches.{is_match, key_data}
use Rattle.merge_op.specs.Merges.{change_of, is_ambiguous, merge_step}
use Rattle.table_changes.specs.Rows.{Row}
use Rattle.table_changes.specs.Table.{File}
use Rattle.table_changes.specs.Operations.{Operation}
use Rattle.table_changes.specs.Statements.{delete_of, update_of, insert_select_of, merge_of}

-- what is given, where there is no fault
abbrev pub if_given : {A E : Type 0} → Result A E → Option A
if_given (Ok x) = Some x
if_given (Err e) = None

-- the rows that a merge is about, as a predicate: one of the source's keys, or the predicate of the others
abbrev pub others_scope : Option (BySource ℕ) → Pred ℕ
others_scope (Some b) = b.pred
others_scope None = pred.Never

abbrev pub merge_scope : MergeSpec ℕ → Pred ℕ
merge_scope m = pred.Either (pred.Keys m.keys (map (key_data m.keys) m.source)) (others_scope m.by_source)

-- a clause changes a row
abbrev pub is_changed : MergeSpec ℕ → Row → Bool
is_changed m x = is_some (change_of m x)

-- what comes of such a row; nothing where it is ambiguous
abbrev pub merge_image : TableSchema → MergeSpec ℕ → Row → Option (List Row)
merge_image schema m x = if is_ambiguous m x then None else if_given (merge_step schema m x)

-- the rows of the source that may be added
abbrev pub insertable : MergeSpec ℕ → List Row
insertable m = if m.insert then m.source else []

-- whatever files may have rows of a scope
module _ (may : Pred ℕ → File → Bool) where
  abbrev pub delete_operation : Pred ℕ → Operation (Pred ℕ)
  delete_operation p = delete_of passes may p

  abbrev pub update_operation : Pred ℕ → List (SetTo ℕ) → TableSchema → Operation (Pred ℕ)
  update_operation p sets schema = update_of passes may p (λ x. if_given (updated schema sets x []))

  abbrev pub insert_select_operation : Pred ℕ → List (Expr ℕ) → TableSchema → Operation (Pred ℕ)
  insert_select_operation p exprs schema = insert_select_of passes may p (λ x. if_given (selected schema exprs x))

  abbrev pub row_operation : RowOp → Operation (Pred ℕ)
  row_operation (op.Delete p) = delete_operation p
  row_operation (op.Update p sets schema) = update_operation p sets schema
  row_operation (op.InsertSelect p exprs schema) = insert_select_operation p exprs schema

  abbrev pub merge_operation : TableSchema → MergeSpec ℕ → Operation (Pred ℕ)
  merge_operation schema m =
      merge_of passes may (merge_scope m) (is_changed m) (merge_image schema m) (is_match m.keys) (λ r. Some (r ∷ [])) (insertable m)
