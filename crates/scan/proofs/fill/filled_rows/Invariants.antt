-- The rows so far, before those that are to come once they are filled, are all rows filled.
use Rattle.std.proofs.Common.{◌≡◌, ◌++◌, length, map}
use Rattle.scan.specs.Files as spec
use Rattle.scan.proofs.fill.filled_rows.Given as goal

abbrev pub invariant-rows : goal.invariant-rows
invariant-rows l = l.all ++ map (spec.filled l.schema l.values) l.coming ≡ map (spec.filled l.schema l.values) l.fn.rows

abbrev pub decreases-rows : goal.decreases-rows
decreases-rows l = length l.coming
