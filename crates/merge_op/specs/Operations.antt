-- A merge as a function on the bag of a table's rows, which knows no file.
use Rattle.std.specs.Prelude.{◌≡◌, ℕ, Bool, false, ◌||◌, List, ◌++◌, filter, not, Option, Some, None, Result, Ok, Err}
use Rattle.std.specs.List.{list_any}
use Rattle.row_base.specs.Bags.{others, SameRows}
use Rattle.row_base.specs.Faults.{◌>>=◌}
use Rattle.row_base.specs.Schema.{TableSchema}
use Rattle.row_base.specs.declared.row.Datum.{Datum}
use Rattle.row_base.specs.declared.row.ScannedFile.{ScannedFile}
use Rattle.op_types.specs.declared.bound.BySource.{BySource}
use Rattle.op_types.specs.declared.bound.MergeSpec.{MergeSpec}
use Rattle.dml_ops.specs.Changes.{passes}
use Rattle.merge_op.specs.declared.fault.MergeFault.{MergeFault}
use Rattle.merge_op.specs.Matches.{is_match}
use Rattle.merge_op.specs.Merges.{least_where, is_ambiguous, unambiguous, merged_rows, added, merged, is_touched, rows_in}

-- the rows that it is about: those with a source row's key, and those for which the predicate of the others is `Yes`
abbrev pub passes_by_source : Option (BySource ℕ) → List Datum → Bool
passes_by_source (Some b) row = passes b.pred row
passes_by_source None row = false

abbrev pub in_scope : MergeSpec ℕ → List Datum → Bool
in_scope m row = list_any (is_match m.keys row) m.source || passes_by_source m.by_source row

-- what comes in the place of the scope's rows
abbrev pub gives : TableSchema → MergeSpec ℕ → List (List Datum) → Result (List (List Datum)) MergeFault
gives schema m xs =
    unambiguous (least_where (is_ambiguous m) xs) >>= λ u. merged_rows schema m xs >>= λ ys. Ok (ys ++ added m xs)

-- the table's rows after the merge: those outside the scope, and what comes in the place of the others
abbrev pub operated : TableSchema → MergeSpec ℕ → List (List Datum) → Result (List (List Datum)) MergeFault
operated schema m rows = gives schema m (filter (in_scope m) rows) >>= λ ys. Ok (others (in_scope m) rows ++ ys)

-- the same bag, or the same fault
abbrev pub SameMerge : Result (List (List Datum)) MergeFault → Result (List (List Datum)) MergeFault → Type 0
SameMerge (Ok xs) (Ok ys) = SameRows xs ys
SameMerge (Ok xs) (Err e) = ⊥
SameMerge (Err e) (Ok ys) = ⊥
SameMerge (Err e) (Err f) = e ≡ f

-- the same bag of rows gives the same bag, or the same fault
abbrev pub BagsAreMerged : Type 0
BagsAreMerged = (schema : TableSchema) (m : MergeSpec ℕ) (xs ys : List (List Datum)) → SameRows xs ys → SameMerge (operated schema m xs) (operated schema m ys)

-- what comes in the place of the scope's rows needs these alone
abbrev pub ScopeIsMerged : Type 0
ScopeIsMerged = (schema : TableSchema) (m : MergeSpec ℕ) (xs ys : List (List Datum))
    → SameRows (filter (in_scope m) xs) (filter (in_scope m) ys) → SameMerge (gives schema m (filter (in_scope m) xs)) (gives schema m (filter (in_scope m) ys))

-- the rows of the files that stay, and those that come in the place of the removed ones, are what the merge makes of
-- the rows of all files as a bag
abbrev pub MergeIsOperated : Type 0
MergeIsOperated = (schema : TableSchema) (m : MergeSpec ℕ) (files : List ScannedFile)
    → SameMerge (merged schema m files >>= λ c. Ok (rows_in (filter (λ f. not (is_touched m f)) files) ++ c.rows)) (operated schema m (rows_in files))
