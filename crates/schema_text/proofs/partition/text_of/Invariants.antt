-- What is left gives what the whole gives.
use Rattle.std.proofs.Common.{◌≡◌, drop}
use Rattle.schema_text.specs.Partition.{text_of}
use Rattle.schema_text.proofs.partition.text_of.Given as goal

abbrev pub invariant-loop-value : goal.invariant-loop-value
invariant-loop-value l = text_of (drop l.value-index l.values) l.name ≡ text_of l.values l.name
