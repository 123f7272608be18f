use Rattle.schema_text.proofs.FirstFaults.{schema_read, first_fault}
use Rattle.schema_text.proofs.schema.read_schema.Goals as goal

pub returns-in-Ok-clause-read : goal.returns-in-Ok-clause-read
returns-in-Ok-clause-read c = schema_read c.args.text.now c.args.partition.now c.in-Ok.schema c.in-Ok.ensures

pub returns-in-Err-clause-first : goal.returns-in-Err-clause-first
returns-in-Err-clause-first c = first_fault c.args.text.now c.args.partition.now c.in-Err.fault c.in-Err.ensures
