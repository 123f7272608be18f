use Rattle.row_kernels.proofs.Known.{facts_fail}
use Rattle.row_kernels.proofs.files.facts_by.Goals as goal

pub returns-clause-err : goal.returns-clause-err
returns-clause-err c =
    let add = c.in_ok-add in
    facts_fail c.args.schema.now add.add.partition_values add.add.stats c.args.statistics.now c.of.result c.requires add.ensures.values add.ensures.stats c.of.ensures.facts
