use Rattle.std.proofs.Common.{◌≤◌, ◌*◌, length, arith}
use Rattle.bit_pack.proofs.Wholes.{Packed-fields, bytes_fit}
use Rattle.bit_pack.proofs.unpacking.unpack8.Goals as goal

pub returns-then-bytes-clause-some : goal.returns-then-bytes-clause-some
returns-then-bytes-clause-some g c =
    let within : 8 * g.row.W ≤ 8 * length c.args.bytes.now = omega arith in
    Packed-fields g.row.W c.args.bytes.now 8 c.unpack_group.result (bytes_fit c.args.bytes.now c.type_inv.bytes) within c.unpack_group.ensures
