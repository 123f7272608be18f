use Rattle.std.proofs.Common.{◌≡◌, take}
use Rattle.row_base.specs.Schema.{settled}
use Rattle.row_base.proofs.schema.settle_values.Given as goal

-- the columns so far have taken their data
abbrev pub invariant-loop-i : goal.invariant-loop-i
invariant-loop-i l = l.values ≡ settled (take l.i l.columns) l.initial.values
