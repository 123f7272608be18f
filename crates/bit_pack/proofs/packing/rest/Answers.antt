use Rattle.bit_pack.proofs.Sums.{rest_odd}
use Rattle.bit_pack.proofs.packing.rest.Goals as goal

pub returns-then-this-eq1 : goal.returns-then-this-eq1
returns-then-this-eq1 g c = rest_odd g.row.W c.args.low c.args.high c.requires.width c.if-this-eq1.true c.requires.low c.requires.high
