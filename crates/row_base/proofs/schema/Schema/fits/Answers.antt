use Rattle.std.proofs.Common.{◌≡◌, None, Some}
use Rattle.row_base.specs.Schema.{row_fault}
use Rattle.row_base.proofs.RowLemmas.{fits_schema, no_fault, row_fault_is}
use Rattle.row_base.proofs.schema.Schema.fits.Goals as goal

pub returns-in-Some-clause-fits : goal.returns-in-Some-clause-fits
returns-in-Some-clause-fits c = (λ e. cc, λ f. let none = no_fault c.args.self.now c.args.row.now f in cc)

pub returns-in-None-clause-fits : goal.returns-in-None-clause-fits
returns-in-None-clause-fits c =
    let e : row_fault c.args.self.now c.args.row.now ≡ None = cc in
    (λ _. fits_schema c.args.self.now c.args.row.now e, λ f. cc)

pub returns-in-Some-clause-wrong : goal.returns-in-Some-clause-wrong
returns-in-Some-clause-wrong c =
    let e : row_fault c.args.self.now c.args.row.now ≡ Some c.in-Some.fault = cc in
    row_fault_is c.args.self.now c.args.row.now c.in-Some.fault e
