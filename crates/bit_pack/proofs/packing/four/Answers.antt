use Rattle.bit_pack.proofs.Sums.{four_is}
use Rattle.bit_pack.proofs.packing.four.Goals as goal

pub returns-clause-value : goal.returns-clause-value
returns-clause-value g c =
    rw (c.from.ensures, c.from-2.ensures, c.from-3.ensures, c.from-4.ensures)
    (four_is g.row.W c.args.first c.args.second c.args.third c.args.fourth c.requires.width c.requires.first c.requires.second c.requires.third c.requires.fourth).0

pub returns-clause-bound : goal.returns-clause-bound
returns-clause-bound g c =
    let both = four_is g.row.W c.args.first c.args.second c.args.third c.args.fourth c.requires.width c.requires.first c.requires.second c.requires.third c.requires.fourth in
    rw (c.from.ensures, c.from-2.ensures, c.from-3.ensures, c.from-4.ensures, both.0) both.1
