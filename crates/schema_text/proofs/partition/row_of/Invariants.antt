-- The data so far, before those of the rest, are those of the whole.
use Rattle.std.proofs.Common.{◌≡◌, ◌++◌, drop, Ok}
use Rattle.row_base.specs.Faults.{◌>>=◌}
use Rattle.schema_text.specs.Partition.{cells}
use Rattle.schema_text.proofs.partition.row_of.Given as goal

abbrev pub invariant-loop-i : goal.invariant-loop-i
invariant-loop-i l = (cells l.schema.partition l.values l.i (drop l.i l.schema.columns) >>= λ ds. Ok (l.row.items ++ ds)) ≡ cells l.schema.partition l.values 0 l.schema.columns
