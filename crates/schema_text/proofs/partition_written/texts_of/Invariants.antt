-- The texts so far, with those of the columns that are left, are those of the whole.
use Rattle.std.proofs.Common.{◌≡◌, drop, []}
use Rattle.schema_text.specs.PartitionWritten.{texts_from}
use Rattle.schema_text.proofs.partition_written.texts_of.Given as goal

abbrev pub invariant-loop-i : goal.invariant-loop-i
invariant-loop-i l = texts_from l.schema.partition l.row l.i (drop l.i l.schema.columns) l.texts.entries ≡ texts_from l.schema.partition l.row 0 l.schema.columns []
