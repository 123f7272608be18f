use Rattle.std.proofs.Common.{◌*◌, ◌≤◌, length, arith}
use Rattle.std.proofs.lemmas.Nat.{mul-le}
use Rattle.bit_pack.proofs.hybrid.read_stretch.Goals as goal

pub append_values-requires-clause-within : goal.append_values-requires-clause-within
append_values-requires-clause-within c =
    let size : c.args.groups * c.args.width ≤ length c.args.body.now = rw c.from.ensures at c.if-body-size.false in
    omega (arith, size, mul-le c.min-more.result c.args.width (8 * c.args.groups) c.args.width (omega (arith, c.min-more.ensures)) (omega arith))
