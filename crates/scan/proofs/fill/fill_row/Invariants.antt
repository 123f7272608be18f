-- The places that are filled, before the others once they are, are the whole row filled.
use Rattle.std.proofs.Common.{◌≡◌, ◌++◌, take, drop}
use Rattle.scan.specs.Files as spec
use Rattle.scan.proofs.fill.fill_row.Given as goal

abbrev pub invariant-loop-datum : goal.invariant-loop-datum
invariant-loop-datum l = record {
  filled : take l.datum-index l.row ++ spec.filled_from l.schema l.values l.datum-index (drop l.datum-index l.row) ≡ spec.filled l.schema l.values l.initial.row;
  place : l.place ≡ l.datum-index;
}
