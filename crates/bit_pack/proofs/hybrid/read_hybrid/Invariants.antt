use Rattle.std.proofs.Common.{length}
use Rattle.bit_pack.specs.Steps.{ReadSoFar}
use Rattle.bit_pack.proofs.hybrid.read_hybrid.Given as goal

abbrev pub invariant-loop-rest : goal.invariant-loop-rest
invariant-loop-rest l = ReadSoFar l.width l.bytes l.count l.rest l.values.items

abbrev pub decreases-loop-rest : goal.decreases-loop-rest
decreases-loop-rest l = length l.rest
