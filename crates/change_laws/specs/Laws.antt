-- What is made of files is what the operations give.
use Rattle.std.specs.Prelude.{◌≡◌, ℕ, Bool, ◌&&◌, not, List, ◌++◌, filter, Ok}
use Rattle.row_base.specs.Faults.{◌>>=◌}
use Rattle.row_base.specs.Schema.{TableSchema}
use Rattle.row_base.specs.declared.row.ScannedFile.{ScannedFile}
use Rattle.predicates.specs.declared.pred.Pred.{Pred}
use Rattle.op_types.specs.declared.bound.RowOp.{RowOp}
use Rattle.op_types.specs.declared.bound.MergeSpec.{MergeSpec}
use Rattle.dml_ops.specs.Changes.{passes, changed_by}
use Rattle.dml_ops.specs.Operations.{scope_of}
use Rattle.dml_ops.specs.declared.change.Changed.{Changed}
use Rattle.merge_op.specs.Merges.{any_changed, is_touched, merged, rows_in}
use Rattle.merge_op.specs.Operations.{in_scope}
use Rattle.table_changes.specs.Rows.{Row}
use Rattle.table_changes.specs.Table.{File}
use Rattle.table_changes.specs.Operations.{IsSound, SameIfGiven, operated}
use Rattle.change_laws.specs.Operations.{if_given, merge_scope, merge_operation, row_operation}

abbrev pub EachChangeIsSound : Type 0
EachChangeIsSound = (may : Pred ℕ → File → Bool) (o : RowOp) → IsSound passes may (row_operation may o)

abbrev pub EachMergeIsSound : Type 0
EachMergeIsSound = (may : Pred ℕ → File → Bool) (schema : TableSchema) (m : MergeSpec ℕ) → IsSound passes may (merge_operation may schema m)

-- the rows of a file and those that are added, or a fault
abbrev pub EachChangeGives : Type 0
EachChangeGives = (may : Pred ℕ → File → Bool) (o : RowOp) (rows : List Row)
    → SameIfGiven (if_given (changed_by o rows >>= λ c. Ok (c.rows ++ c.extra))) (operated passes (row_operation may o) rows)

-- the rows of the files that stay and those that are written, or a fault
abbrev pub EachMergeGives : Type 0
EachMergeGives = (may : Pred ℕ → File → Bool) (schema : TableSchema) (m : MergeSpec ℕ) (files : List ScannedFile)
    → SameIfGiven (if_given (merged schema m files >>= λ c. Ok (rows_in (filter (λ f. not (is_touched m f)) files) ++ c.rows))) (operated passes (merge_operation may schema m) (rows_in files))

abbrev pub EachTouchedFileIsTaken : Type 0
EachTouchedFileIsTaken = (may : Pred ℕ → File → Bool) (o : RowOp) (view : File → List Row) (files : List File) (a : File) (c : Changed)
    → changed_by o (view a) ≡ Ok c → (row_operation may o).takes view files a ≡ (may (scope_of o) a && c.touched)

abbrev pub EachMergedFileIsTaken : Type 0
EachMergedFileIsTaken = (may : Pred ℕ → File → Bool) (schema : TableSchema) (m : MergeSpec ℕ) (view : File → List Row) (files : List File) (a : File)
    → (merge_operation may schema m).takes view files a ≡ (may (merge_scope m) a && any_changed m (view a))

abbrev pub EachScopeIsNamed : Type 0
EachScopeIsNamed = (m : MergeSpec ℕ) (x : Row) → passes (merge_scope m) x ≡ in_scope m x
