use Rattle.std.proofs.Common.{arith, ◌≡◌, length}
use Rattle.row_base.specs.RowEnds.{rows_from}
use Rattle.row_base.proofs.RowEndLemmas.{length_rows_from}
use Rattle.row_base.proofs.row_slice.RowSlice.cut.Goals as goal

pub returns-clause-few : goal.returns-clause-few
returns-clause-few c =
    let same : length (rows_from 0 c.args.ends.now c.args.rest.now) ≡ length c.args.ends.now = length_rows_from 0 c.args.ends.now c.args.rest.now in
    rw same (omega arith)
