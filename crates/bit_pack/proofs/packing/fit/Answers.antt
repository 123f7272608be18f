use Rattle.std.proofs.Common.{inl, arith}
use Rattle.std.proofs.lemmas.Nat.{pow_pos}
use Rattle.bit_pack.proofs.Sums.{Seen-more, Seen-all}
use Rattle.bit_pack.proofs.packing.fit.Goals as goal

pub loop-value-init : goal.loop-value-init
loop-value-init c = inl (pow_pos c.args.width, λ k lt. absurd (omega arith))

pub loop-value-preserved : goal.loop-value-preserved
loop-value-preserved c = Seen-more c.args.width c.args.values.now c.loop-value.value-index c.loop-value.seen (omega arith) c.loop-value.invariant

pub returns : goal.returns
returns c = rw c.from.ensures (Seen-all c.args.width c.args.values.now c.loop-value.seen c.loop-value.value-index c.requires c.loop-value-test.false c.loop-value.invariant)
