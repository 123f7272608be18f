use Rattle.std.proofs.Common.{◌<◌, refl, arith}
use Rattle.bit_pack.specs.Numbers.{number_in}
use Rattle.bit_pack.proofs.Wholes.{short_step, bytes_fit}
use Rattle.bit_pack.proofs.unpacking.short_word.Goals as goal

pub loop-i-init : goal.loop-i-init
unfolding number_in
loop-i-init c = refl

pub loop-i-preserved : goal.loop-i-preserved
loop-i-preserved c =
    let small : c.loop-i.i < 8 = omega arith in
    rw (c.from.ensures, c.loop-i.invariant) (short_step c.args.bytes.now c.loop-i.i (bytes_fit c.args.bytes.now c.type_inv.bytes) c.loop-i-test.true small)
