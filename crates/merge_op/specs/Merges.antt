-- What a merge makes of the files of a table.
use Rattle.std.specs.Prelude.{ℕ, Bool, true, false, ◌&&◌, if◌then◌else◌, List, [], ◌∷◌, ◌++◌, map, filter, is_some, Option, Some, None, Result, Ok, Err, option_map, unwrap_or}
use Rattle.std.specs.List.{list_any}
use Rattle.std.specs.Result.{result_map_both}
use Rattle.row_base.specs.Faults.{◌>>=◌}
use Rattle.row_base.specs.Schema.{TableSchema}
use Rattle.row_base.specs.declared.row.Datum.{Datum}
use Rattle.row_base.specs.declared.row.ScannedFile.{ScannedFile}
use Rattle.op_types.specs.declared.bound.Change.{Change}
use Rattle.op_types.specs.declared.bound.Change.TheVariants as change
use Rattle.op_types.specs.declared.bound.BySource.{BySource}
use Rattle.op_types.specs.declared.bound.MergeSpec.{MergeSpec}
use Rattle.dml_ops.specs.declared.fault.OpFault.{OpFault}
use Rattle.dml_ops.specs.declared.fault.OpFault.TheVariants as op
use Rattle.dml_ops.specs.Changes.{passes}
use Rattle.dml_ops.specs.Images.{updated}
use Rattle.dml_ops.specs.Outcomes.{Outcome, one, results, lesser_by}
use Rattle.merge_op.specs.declared.fault.MergeFault.{MergeFault}
use Rattle.merge_op.specs.declared.fault.MergeFault.TheVariants as fault
use Rattle.merge_op.specs.declared.merge.Merged.{Merged}
use Rattle.merge_op.specs.Matches.{matches, unmatched}

-- the first of the rows that match, and whether there is another one
abbrev pub first_of : List (List Datum) → Option (List Datum × Bool)
first_of [] = None
first_of (s ∷ []) = Some (s, false)
first_of (s ∷ t ∷ ss) = Some (s, true)

abbrev pub match_of : MergeSpec ℕ → List Datum → Option (List Datum × Bool)
match_of m row = first_of (matches m.keys m.source row)

-- the clause that changes a row: that of matched rows where a row of the source matches it, and else that of the others
-- where its predicate is `Yes`
abbrev pub change_by_source : Option (BySource ℕ) → List Datum → Option (Change ℕ)
change_by_source (Some b) row = if passes b.pred row then Some b.change else None
change_by_source None row = None

abbrev pub change_by : MergeSpec ℕ → List Datum → Option (List Datum × Bool) → Option (Change ℕ)
change_by m row (Some f) = m.matched
change_by m row None = change_by_source m.by_source row

abbrev pub change_of : MergeSpec ℕ → List Datum → Option (Change ℕ)
change_of m row = change_by m row (match_of m row)

-- the source row that it sees
abbrev pub source_of : Option (List Datum × Bool) → List Datum
source_of (Some f) = f.0
source_of None = []

-- what a change makes of a row beside a source row
abbrev pub changed_to : TableSchema → List Datum → List Datum → Change ℕ → Outcome
changed_to schema row source (change.Update sets) = one (updated schema sets row source)
changed_to schema row source change.Delete = Ok []

-- what comes of a row; one that no clause changes stays
abbrev pub merge_step : TableSchema → MergeSpec ℕ → List Datum → Outcome
merge_step schema m row = unwrap_or (option_map (changed_to schema row (source_of (match_of m row))) (change_of m row)) (Ok (row ∷ []))

-- two rows of the source match a row, and a clause changes matched rows
abbrev pub is_another : Option (List Datum × Bool) → Bool
is_another (Some f) = f.1
is_another None = false

abbrev pub is_ambiguous : MergeSpec ℕ → List Datum → Bool
is_ambiguous m row = is_some m.matched && is_another (match_of m row)

-- the least row that passes a test
abbrev pub itself : List Datum → List Datum
itself row = row

abbrev pub least_where : (List Datum → Bool) → List (List Datum) → Option (List Datum)
least_where test [] = None
least_where test (x ∷ xs) = lesser_by itself (if test x then Some x else None) (least_where test xs)

-- the rows of files
abbrev pub rows_in : List ScannedFile → List (List Datum)
rows_in [] = []
rows_in (f ∷ fs) = f.rows ++ rows_in fs

-- a clause changes one of these rows
abbrev pub any_changed : MergeSpec ℕ → List (List Datum) → Bool
any_changed m rows = list_any (λ x. is_some (change_of m x)) rows

-- a file with a row that a clause changes
abbrev pub is_touched : MergeSpec ℕ → ScannedFile → Bool
is_touched m f = any_changed m f.rows

-- the rows of the source that the insert clause adds
abbrev pub added : MergeSpec ℕ → List (List Datum) → List (List Datum)
added m rows = if m.insert then unmatched m.keys m.source rows else []

-- the fault of an ambiguous row
abbrev pub unambiguous : Option (List Datum) → Result (Unit {0}) MergeFault
unambiguous None = Ok tt
unambiguous (Some row) = Err (fault.Ambiguous row)

abbrev pub merge_fault : OpFault → MergeFault
merge_fault (op.Overflow row) = fault.Overflow row
merge_fault (op.Row row f) = fault.Row row f
merge_fault op.NoMemory = fault.NoMemory

-- what comes of rows one by one
abbrev pub merged_rows : TableSchema → MergeSpec ℕ → List (List Datum) → Result (List (List Datum)) MergeFault
merged_rows schema m rows = result_map_both (λ ys. ys) merge_fault (results (merge_step schema m) rows)

-- the touched files are removed, and what comes of their rows comes in their place
abbrev pub merged_touched : TableSchema → MergeSpec ℕ → List ScannedFile → Result Merged MergeFault
merged_touched schema m files =
    merged_rows schema m (rows_in (filter (is_touched m) files)) >>= λ ys.
    Ok (record { removed = map (λ f. f.path) (filter (is_touched m) files); rows = ys })

-- the same, with the rows that are added; an ambiguous row comes before all other faults
abbrev pub merged : TableSchema → MergeSpec ℕ → List ScannedFile → Result Merged MergeFault
merged schema m files =
    unambiguous (least_where (is_ambiguous m) (rows_in files)) >>= λ u.
    merged_touched schema m files >>= λ c.
    Ok (record { removed = c.removed; rows = c.rows ++ added m (rows_in files) })

-- memory ran out
abbrev pub is_merge_memory : MergeFault → Bool
is_merge_memory (fault.Overflow row) = false
is_merge_memory (fault.Row row f) = false
is_merge_memory (fault.Ambiguous row) = false
is_merge_memory fault.NoMemory = true
