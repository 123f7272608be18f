use Rattle.bit_pack.proofs.Sums.{Seen}
use Rattle.bit_pack.proofs.packing.fit.Given as goal

abbrev pub invariant-loop-value : goal.invariant-loop-value
invariant-loop-value l = Seen l.width l.values l.value-index l.seen
