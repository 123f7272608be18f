use Rattle.std.proofs.Common.{◌≡◌, None, Some}
use Rattle.row_base.specs.Schema.{schema_fault}
use Rattle.row_base.proofs.SchemaLemmas.{schema_sound, schema_complete, schema_fault_is}
use Rattle.row_base.proofs.schema.Schema.make.Goals as goal

pub invariant_of-result : goal.invariant_of-result
invariant_of-result c =
    let e : schema_fault c.args.columns.items c.args.partition.items ≡ None = cc in
    schema_sound c.args.columns.items c.args.partition.items e

pub returns-in-Some-clause-valid : goal.returns-in-Some-clause-valid
returns-in-Some-clause-valid c =
    (λ e. cc, λ s. let none = schema_complete c.args.columns.items c.args.partition.items s in cc)

pub returns-in-None-clause-valid : goal.returns-in-None-clause-valid
returns-in-None-clause-valid c =
    let e : schema_fault c.args.columns.items c.args.partition.items ≡ None = cc in
    (λ _. schema_sound c.args.columns.items c.args.partition.items e, λ s. cc)

pub returns-in-Some-clause-wrong : goal.returns-in-Some-clause-wrong
returns-in-Some-clause-wrong c =
    let e : schema_fault c.args.columns.items c.args.partition.items ≡ Some c.in-Some.fault = cc in
    schema_fault_is c.args.columns.items c.args.partition.items c.in-Some.fault e
