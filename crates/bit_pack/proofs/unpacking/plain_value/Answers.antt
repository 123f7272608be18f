use Rattle.std.proofs.Common.{◌≡◌, ◌<◌, ◌*◌, ◌/◌, ◌%◌, ◌^◌, ◌∙◌, ap, sym, arith}
use Rattle.bit_pack.specs.Numbers.{number_in}
use Rattle.bit_pack.proofs.Wholes.{plain_step, value_at_is, bytes_fit}
use Rattle.bit_pack.proofs.unpacking.plain_value.Goals as goal

pub loop-bit-preserved : goal.loop-bit-preserved
loop-bit-preserved c =
    let small : c.loop-bit.bit < 32 = omega arith in
    rw (c.from.ensures, c.loop-bit.invariant) (plain_step c.args.bytes.now (c.args.place * c.args.width) c.loop-bit.bit (bytes_fit c.args.bytes.now c.type_inv.bytes) small)

pub returns : goal.returns
returns c =
    let all : c.loop-bit.bit ≡ c.args.width = omega arith in
    c.loop-bit.invariant
    ∙ ap (λ k. number_in c.args.bytes.now / 2 ^ (c.args.place * c.args.width) % 2 ^ k) all
    ∙ sym (value_at_is c.args.width c.args.bytes.now c.args.place (bytes_fit c.args.bytes.now c.type_inv.bytes))
