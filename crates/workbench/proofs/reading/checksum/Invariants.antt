use Rattle.std.proofs.Common.{◌≡◌, drop}
use Rattle.workbench.specs.Reading.{checksum_from}
use Rattle.workbench.proofs.reading.checksum.Given as goal

abbrev pub invariant-loop-value : goal.invariant-loop-value
invariant-loop-value l = checksum_from l.sum (drop l.value-index l.values) ≡ checksum_from 0 l.values
