use Rattle.std.proofs.Common.{ap, ◌∙◌}
use Rattle.schema_text.specs.Partition.{partition_row}
use Rattle.schema_text.specs.PartitionWritten.{values_of, partition_values}
use Rattle.schema_text.proofs.ValuesBack.{returned}
use Rattle.schema_text.proofs.partition_written.write_partition.Goals as goal

pub returns-clause-back : goal.returns-clause-back
unfolding partition_values
returns-clause-back c = λ has.
    let s = c.args.schema.now in
    ap (partition_row s) (c.in_ok-values.ensures ∙ ap values_of c.in_ok-texts.ensures.texts) ∙ returned s c.args.row.now c.in_ok-texts.ensures.valid has
