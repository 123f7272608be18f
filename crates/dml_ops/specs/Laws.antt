-- What holds of deletes, updates and insert selects, over lists of rows.
use Rattle.std.specs.Prelude.{◌≡◌, List, [], ◌++◌, false, if◌then◌else◌, filter, Result, Ok, Err}
use Rattle.std.specs.Ordering.{is_gt}
use Rattle.row_base.specs.Bags.{SameRows}
use Rattle.row_base.specs.Faults.{◌>>=◌}
use Rattle.row_base.specs.RowOrder.{row_cmp}
use Rattle.row_base.specs.declared.row.Datum.{Datum}
use Rattle.op_types.specs.declared.bound.RowOp.{RowOp}
use Rattle.dml_ops.specs.declared.change.Changed.{Changed}
use Rattle.dml_ops.specs.declared.fault.OpFault.{OpFault}
use Rattle.dml_ops.specs.declared.fault.OpFault.TheVariants as fault
use Rattle.dml_ops.specs.Changes.{passes, changed_by}
use Rattle.dml_ops.specs.Operations.{scope_of, gives, operated, SameResult}

-- a file's rows after the change, with those that are added, are what the operation makes of them as a bag
abbrev pub FilesAreOperated : Type 0
FilesAreOperated = (o : RowOp) (rows : List (List Datum)) → SameResult (changed_by o rows >>= λ c. Ok (c.rows ++ c.extra)) (operated o rows)

-- the same bag of rows gives the same bag, or the same fault
abbrev pub BagsAreRespected : Type 0
BagsAreRespected = (o : RowOp) (xs ys : List (List Datum)) → SameRows xs ys → SameResult (operated o xs) (operated o ys)

-- what comes in the place of the scope's rows needs these alone
abbrev pub ScopeDecides : Type 0
ScopeDecides = (o : RowOp) (xs ys : List (List Datum))
    → SameRows (filter (passes (scope_of o)) xs) (filter (passes (scope_of o)) ys)
    → SameResult (gives o (filter (passes (scope_of o)) xs)) (gives o (filter (passes (scope_of o)) ys))

-- the row that a fault names
abbrev pub row_of : OpFault → List Datum
row_of (fault.Overflow row) = row
row_of (fault.Row row f) = row
row_of fault.NoMemory = []

-- what comes of two files: the rows of both, or the fault of the lesser row
abbrev pub together : Result (List (List Datum)) OpFault → Result (List (List Datum)) OpFault → Result (List (List Datum)) OpFault
together (Ok xs) (Ok ys) = Ok (xs ++ ys)
together (Ok xs) (Err f) = Err f
together (Err e) (Ok ys) = Err e
together (Err e) (Err f) = Err (if is_gt (row_cmp (row_of e) (row_of f)) then f else e)

-- what an operation makes of the rows of two files is what it makes of each
abbrev pub FilesAddUp : Type 0
FilesAddUp = (o : RowOp) (xs ys : List (List Datum)) → SameResult (operated o (xs ++ ys)) (together (operated o xs) (operated o ys))

-- a file that isn't touched keeps its rows
abbrev pub UntouchedRowsStay : Type 0
UntouchedRowsStay = (o : RowOp) (rows : List (List Datum)) (c : Changed) → changed_by o rows ≡ Ok c → c.touched ≡ false → c.rows ≡ rows
