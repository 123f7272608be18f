use Rattle.std.proofs.Common.{◌≡◌, drop}
use Rattle.row_base.specs.Schema.{first_datum_fault}
use Rattle.row_base.proofs.schema.first_wrong_datum.Given as goal

-- the rest has the fault that the whole has
abbrev pub invariant-loop-i : goal.invariant-loop-i
invariant-loop-i l = first_datum_fault l.partition l.i (drop l.i l.columns) (drop l.i l.values) ≡ first_datum_fault l.partition 0 l.columns l.values
