-- Literal rows as a table takes them, or the first that doesn't fit.
use Rattle.std.specs.Prelude.{ℕ, List, [], ◌∷◌, Bool, true, false, Option, Some, None, Result, Ok, Err}
use Rattle.row_base.specs.Faults.{◌>>=◌}
use Rattle.row_base.specs.Schema.{TableSchema, settled, row_fault}
use Rattle.row_base.specs.declared.row.Datum.{Datum}
use Rattle.row_base.specs.declared.schema.RowFault.{RowFault}
use Rattle.op_types.specs.declared.bound.MergeSpec.{MergeSpec}
use Rattle.statement_checks.specs.declared.fault.RowsFault.{RowsFault}
use Rattle.statement_checks.specs.declared.fault.RowsFault.TheVariants as fault

-- memory ran out
abbrev pub is_memory : RowsFault → Bool
is_memory (fault.Row row f) = false
is_memory fault.NoMemory = true

-- a row as its columns take it, where that fits; a fault has the row as it came
abbrev pub row_or_fault : List Datum → List Datum → Option RowFault → Result (List Datum) RowsFault
row_or_fault row taken (Some f) = Err (fault.Row row f)
row_or_fault row taken None = Ok taken

abbrev pub row_in : TableSchema → List Datum → Result (List Datum) RowsFault
row_in schema row =
    row_or_fault row (settled schema.columns row) (row_fault schema (settled schema.columns row))

-- the first row that doesn't fit is the fault
unfoldable pub rows_in : TableSchema → List (List Datum) → Result (List (List Datum)) RowsFault
rows_in schema [] = Ok []
rows_in schema (r ∷ rs) = row_in schema r >>= λ x. rows_in schema rs >>= λ xs. Ok (x ∷ xs)

-- a merge with the rows of its source as the table takes them
abbrev pub merge_rows_in : TableSchema → MergeSpec ℕ → Result (MergeSpec ℕ) RowsFault
merge_rows_in schema m =
    rows_in schema m.source >>= λ rows.
    Ok (record { keys = m.keys; source = rows; matched = m.matched; insert = m.insert; by_source = m.by_source })
