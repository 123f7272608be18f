-- The values so far, before those of the columns that are left, are the new row.
use Rattle.std.proofs.Common.{◌≡◌, ◌++◌, drop, Ok}
use Rattle.row_base.specs.Faults.{◌>>=◌}
use Rattle.dml_ops.specs.Images.{new_values}
use Rattle.dml_ops.proofs.image.new_values.Given as goal

abbrev pub invariant-loop-i : goal.invariant-loop-i
invariant-loop-i l =
    (new_values l.row l.source l.sets l.i (drop l.i l.row) >>= λ es. Ok (l.values.items ++ es)) ≡ new_values l.row l.source l.sets 0 l.row
