-- What comes of rows, one by one: some rows for each, or what is wrong with the least row of which nothing comes.
use Rattle.std.specs.Prelude.{List, [], ◌∷◌, ◌++◌, Bool, true, false, if◌then◌else◌, Option, Some, None, Result, Ok, Err}
use Rattle.std.specs.Ordering.{is_gt}
use Rattle.row_base.specs.Faults.{◌>>=◌}
use Rattle.row_base.specs.RowOrder.{row_cmp}
use Rattle.row_base.specs.declared.row.Datum.{Datum}
use Rattle.dml_ops.specs.declared.fault.ImageFault.{ImageFault}
use Rattle.dml_ops.specs.declared.fault.ImageFault.TheVariants as image
use Rattle.dml_ops.specs.declared.fault.Wrong.{Wrong}
use Rattle.dml_ops.specs.declared.fault.Wrong.TheVariants as wrong
use Rattle.dml_ops.specs.declared.fault.WrongRow.{WrongRow}
use Rattle.dml_ops.specs.declared.fault.OpFault.{OpFault}
use Rattle.dml_ops.specs.declared.fault.OpFault.TheVariants as fault

-- what comes of a row: some rows, or a fault
abbrev pub Outcome : Type 0
Outcome = Result (List (List Datum)) ImageFault

-- one row comes of a row
abbrev pub one : Result (List Datum) ImageFault → Outcome
one image = image >>= λ y. Ok (y ∷ [])

-- the rows that come of a row
abbrev pub given : Outcome → List (List Datum)
given (Ok ys) = ys
given (Err e) = []

-- the row, where nothing comes of it
abbrev pub wrong_of : List Datum → Outcome → Option WrongRow
wrong_of row (Ok ys) = None
wrong_of row (Err (image.Wrong w)) = Some (record { row = row; wrong = w })
wrong_of row (Err image.NoMemory) = None

-- the least one so far gives way to this row
abbrev pub gives_way : {A : Type 0} → (A → List Datum) → Option A → List Datum → Bool
gives_way row_in (Some a) row = is_gt (row_cmp (row_in a) row)
gives_way row_in None row = true

-- the one with the lesser row of two, where there are two
abbrev pub lesser_by : {A : Type 0} → (A → List Datum) → Option A → Option A → Option A
lesser_by row_in a (Some b) = if gives_way row_in a (row_in b) then Some b else a
lesser_by row_in a None = a

-- the row of a wrong one
abbrev pub its_row : WrongRow → List Datum
its_row w = w.row

abbrev pub lesser : Option WrongRow → Option WrongRow → Option WrongRow
lesser = lesser_by its_row

-- what comes of rows, where something does
abbrev pub rows_of : (List Datum → Outcome) → List (List Datum) → List (List Datum)
rows_of f [] = []
rows_of f (x ∷ xs) = given (f x) ++ rows_of f xs

-- the least row of which nothing comes
abbrev pub least_of : (List Datum → Outcome) → List (List Datum) → Option WrongRow
least_of f [] = None
least_of f (x ∷ xs) = lesser (wrong_of x (f x)) (least_of f xs)

-- its fault
abbrev pub fault_by : List Datum → Wrong → OpFault
fault_by row wrong.Overflow = fault.Overflow row
fault_by row (wrong.Misfit f) = fault.Row row f

abbrev pub op_fault : WrongRow → OpFault
op_fault w = fault_by w.row w.wrong

-- the rows, or the fault of the least row of which nothing came
abbrev pub finished : List (List Datum) → Option WrongRow → Result (List (List Datum)) OpFault
finished rows None = Ok rows
finished rows (Some w) = Err (op_fault w)

-- what comes of rows one by one
abbrev pub results : (List Datum → Outcome) → List (List Datum) → Result (List (List Datum)) OpFault
results f xs = finished (rows_of f xs) (least_of f xs)

-- memory ran out
abbrev pub is_op_memory : OpFault → Bool
is_op_memory (fault.Overflow row) = false
is_op_memory (fault.Row row f) = false
is_op_memory fault.NoMemory = true

-- it isn't want of memory that nothing came
abbrev pub is_told : Result (List Datum) ImageFault → Bool
is_told (Ok y) = true
is_told (Err (image.Wrong w)) = true
is_told (Err image.NoMemory) = false
