use Rattle.log_laws.proofs.Written.{written_reads, making_reads, insert_reads}
use Rattle.log_laws.proofs.written_reads.Goals as goal

pub returns : goal.returns
returns c = record { any = written_reads; making = making_reads; insert = insert_reads }
