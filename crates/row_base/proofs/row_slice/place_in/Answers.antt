use Rattle.std.proofs.Common.{arith, ◌+◌, length}
use Rattle.row_base.proofs.RowEndLemmas.{place_from, place_to, place_before}
use Rattle.row_base.proofs.row_slice.place_in.Goals as goal

pub returns-else-count-eq0-clause-from : goal.returns-else-count-eq0-clause-from
returns-else-count-eq0-clause-from c =
    omega (arith, place_before c.args.count c.args.at c.args.ends.now c.if-count-eq0.false, place_from c.args.count c.args.at c.args.ends.now (c.args.at + length c.args.rest.now) c.requires.count c.requires.ends)

pub returns-else-count-eq0-clause-to : goal.returns-else-count-eq0-clause-to
returns-else-count-eq0-clause-to c =
    omega (arith, place_before c.args.count c.args.at c.args.ends.now c.if-count-eq0.false, place_to c.args.count c.args.at c.args.ends.now (c.args.at + length c.args.rest.now) c.requires.count c.requires.ends)
