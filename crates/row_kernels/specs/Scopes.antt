-- The predicate that is asked of rows, and the statements.
use Rattle.std.specs.Prelude.{ℕ, ◌/◌, ◌&&◌, not, Bool, true, false, if◌then◌else◌, ℤ, pos, int_lt, List, [], ◌∷◌, codes, sum_by, length, Some, None, Result, Ok}
use Rattle.std.specs.Ordering.{int_eq}
use Rattle.row_base.specs.Faults.{◌>>=◌}
use Rattle.row_base.specs.declared.row.Datum.{Datum}
use Rattle.row_base.specs.declared.row.Datum.TheVariants as datum
use Rattle.row_base.specs.declared.row.ScannedFile.{ScannedFile}
use Rattle.predicates.specs.declared.pred.Op.{Op}
use Rattle.predicates.specs.declared.pred.Op.TheVariants as op
use Rattle.predicates.specs.declared.pred.Operand.TheVariants as operand
use Rattle.predicates.specs.declared.pred.Pred.{Pred}
use Rattle.predicates.specs.declared.pred.Pred.TheVariants as pred
use Rattle.predicates.specs.declared.expr.Expr.{Expr}
use Rattle.predicates.specs.declared.expr.Expr.TheVariants as expr
use Rattle.op_types.specs.declared.bound.SetTo.{SetTo}
use Rattle.op_types.specs.declared.bound.Change.TheVariants as change
use Rattle.op_types.specs.declared.bound.MergeSpec.{MergeSpec}
use Rattle.op_types.specs.declared.bound.RowOp.{RowOp}
use Rattle.op_types.specs.declared.bound.RowOp.TheVariants as ops
use Rattle.dml_ops.specs.declared.change.Changed.{Changed}
use Rattle.dml_ops.specs.declared.fault.OpFault.{OpFault}
use Rattle.dml_ops.specs.Changes.{changed_by}
use Rattle.merge_op.specs.declared.fault.MergeFault.{MergeFault}
use Rattle.merge_op.specs.Merges.{merged}
use Rattle.row_kernels.specs.declared.kernel.RowChange.{RowChange}
use Rattle.row_kernels.specs.declared.kernel.RowChange.TheVariants as changes
use Rattle.row_kernels.specs.Rows.{rows_of, key_rows, schema}

-- a comparison of a column with a literal
abbrev pub compared_with : Op → ℕ → Datum → Pred ℕ
compared_with o column literal = pred.Compare o column (operand.Literal literal)

abbrev pub both : Pred ℕ → Pred ℕ → Pred ℕ
both left right = pred.Both left right

-- `v > 5 and id <> 3`
abbrev pub scope : Pred ℕ
scope = both (compared_with op.Gt 1 (datum.Long (pos 5))) (compared_with op.Ne 0 (datum.Long (pos 3)))

-- `id > 250000 and name <> 'n3'`
abbrev pub file_scope : Pred ℕ
file_scope = both (compared_with op.Gt 0 (datum.Long (pos 250000))) (compared_with op.Ne 1 (datum.Text (codes "n3")))

-- one of so many keys, each of which is an `id`
abbrev pub keys : ℕ → Pred ℕ
keys count = pred.Keys (0 ∷ []) (key_rows count)

-- the same written out, for a row of two longs
abbrev pub is_counted : List Datum → Bool
is_counted (datum.Long id ∷ datum.Long v ∷ []) = int_lt (pos 5) v && not (int_eq id (pos 3))
is_counted row = false

-- one for what is counted
abbrev pub one_if : Bool → ℕ
one_if counted = if counted then 1 else 0

-- how many of a list pass a test
abbrev pub count_where : {A : Type 0} → (A → Bool) → List A → ℕ
count_where test items = sum_by (λ item. one_if (test item)) items

-- ---- statements

-- `set v` to this value
abbrev pub set_v : Expr ℕ → List (SetTo ℕ)
set_v value = record { column = 1; value = value } ∷ []

-- `delete where v > 5 and id <> 3`
abbrev pub delete : RowOp
delete = ops.Delete scope

-- `update set v = id where v > 5 and id <> 3`
abbrev pub update : RowOp
update = ops.Update scope (set_v (expr.Cell 0)) schema

abbrev pub op_of : RowChange → RowOp
op_of changes.Delete = delete
op_of changes.Update = update

-- a merge by `id`: rows that match are updated, the others of the source are added
abbrev pub merge : List (List Datum) → MergeSpec ℕ
merge source = record { keys = 0 ∷ []; source = source; matched = Some (change.Update (set_v (expr.SourceCell 1))); insert = true; by_source = None }

abbrev pub file_with : List (List Datum) → ScannedFile
file_with rows = record { path = codes "target"; rows = rows }

-- how many rows so many rows become by a change
abbrev pub changed_count : RowOp → ℕ → Result ℕ OpFault
changed_count o count = changed_by o (rows_of 1 count) >>= λ c. Ok (length c.rows)

-- how many rows a merge into so many rows gives, of a tenth as many, whose `id` is a multiple of 20
abbrev pub merged_count : ℕ → Result ℕ MergeFault
merged_count count = merged schema (merge (rows_of 20 (count / 10))) (file_with (rows_of 1 count) ∷ []) >>= λ m. Ok (length m.rows)
