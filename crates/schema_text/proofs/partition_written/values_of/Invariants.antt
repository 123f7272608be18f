-- The values so far, before those of the texts that are left, are those of the whole.
use Rattle.std.proofs.Common.{◌≡◌, ◌++◌}
use Rattle.schema_text.specs.PartitionWritten.{values_of}
use Rattle.schema_text.proofs.partition_written.values_of.Given as goal

abbrev pub invariant-loop-name : goal.invariant-loop-name
invariant-loop-name l = l.values.items ++ values_of l.name-iterator ≡ values_of l.texts.entries
