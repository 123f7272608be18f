use Rattle.std.proofs.Common.{◌≤◌, ◌*◌, ◌+◌, ◌-◌, arith}
use Rattle.std.proofs.lemmas.Nat.{mul-le}
use Rattle.bit_pack.specs.Numbers.{number_in}
use Rattle.bit_pack.proofs.Wholes.{wide_is}
use Rattle.bit_pack.proofs.unpacking.wide_value.Goals as goal

pub returns : goal.returns
returns g c =
    let last : c.args.place * g.row.W ≤ 7 * g.row.W = mul-le c.args.place g.row.W 7 g.row.W (omega arith) (omega arith) in
    let low : 8 * c.min-at.result ≤ c.args.place * g.row.W = omega (arith, c.min-at.ensures) in
    let high : (c.args.place * g.row.W - 8 * c.min-at.result) + g.row.W ≤ 64 = omega (arith, c.min-at.ensures, last) in
    rw (c.field.ensures, c.word_at.ensures) (wide_is (number_in c.args.bytes.now) (c.args.place * g.row.W) c.min-at.result g.row.W low high)
