use Rattle.std.proofs.Common.{◌≡◌, None, Some, length, sym, ◌∙◌}
use Rattle.row_base.specs.Schema.{row_fault, settled}
use Rattle.row_base.proofs.RowLemmas.{fits_schema, no_fault, length-settled, row_fault_is}
use Rattle.row_base.proofs.schema.Schema.settle.Goals as goal

pub returns-in-Some-clause-fits : goal.returns-in-Some-clause-fits
returns-in-Some-clause-fits c =
    (λ e. cc, λ f. let none = no_fault c.args.self.now (settled c.args.self.now.columns c.args.row) f in cc)

pub settle_values-requires : goal.settle_values-requires
settle_values-requires c =
    let e : row_fault c.args.self.now (settled c.args.self.now.columns c.args.row) ≡ None = cc in
    let fits = fits_schema c.args.self.now (settled c.args.self.now.columns c.args.row) e in
    let long : length c.args.row ≡ length c.args.self.now.columns = sym (length-settled c.args.self.now.columns c.args.row) ∙ fits.count in
    cc

pub returns-clause-fits : goal.returns-clause-fits
returns-clause-fits c =
    let e : row_fault c.args.self.now (settled c.args.self.now.columns c.args.row) ≡ None = cc in
    (λ _. fits_schema c.args.self.now (settled c.args.self.now.columns c.args.row) e, λ f. cc)

pub returns-in-Some-clause-wrong : goal.returns-in-Some-clause-wrong
returns-in-Some-clause-wrong c =
    let e : row_fault c.args.self.now (settled c.args.self.now.columns c.args.row) ≡ Some c.in-Some.fault = cc in
    row_fault_is c.args.self.now (settled c.args.self.now.columns c.args.row) c.in-Some.fault e
