use Rattle.std.proofs.Common.{◌<◌, arith}
use Rattle.std.proofs.lemmas.Nat.{one_shl, and_mask}
use Rattle.bit_pack.proofs.unpacking.field.Goals as goal

pub returns : goal.returns
returns g c =
    let narrow : g.row.W < 64 = omega arith in
    rw (one_shl g.row.W 64 narrow) (and_mask _ g.row.W)
