use Rattle.std.proofs.Common.{refl, arith}
use Rattle.bit_pack.proofs.WriteLemmas.{varint_next, varint_end}
use Rattle.bit_pack.proofs.hybrid.push_varint.Goals as goal

pub loop-rest-init : goal.loop-rest-init
loop-rest-init c = (5, omega arith, omega arith, refl)

pub loop-rest-preserved : goal.loop-rest-preserved
loop-rest-preserved c =
    let before = c.loop-rest.invariant in
    varint_next before.0 c.loop-rest.rest c.loop-rest.out.items c.push.new.self.items _ c.loop-rest-test.true before.2 c.in_ok-push.ensures.items before.3

pub returns : goal.returns
returns c =
    let before = c.loop-rest.invariant in
    varint_end before.0 c.loop-rest.rest c.loop-rest.out.items c.push-2.new.self.items _ before.1 c.loop-rest-test.false c.in_ok-push-2.ensures.items before.3
