use Rattle.std.proofs.Common.{◌≡◌, ◌≢◌, length, sym, ◌∙◌, ap}
use Rattle.row_base.proofs.RowLemmas.{wrong_count, right_count}
use Rattle.row_base.proofs.schema.Schema.settled_fault.Goals as goal

pub returns-then-row-columns : goal.returns-then-row-columns
returns-then-row-columns c =
    let apart : length c.args.row.now ≢ length c.args.self.now.columns = λ long. c.if-row-columns.true (long ∙ sym (ap length c.columns-columns.ensures.value)) in
    let e = wrong_count c.args.self.now c.args.row.now apart in
    sym e

pub returns : goal.returns
returns c =
    let long : length c.args.row.now ≡ length c.args.self.now.columns = cc in
    let e = right_count c.args.self.now c.args.row.now long in
    cc
