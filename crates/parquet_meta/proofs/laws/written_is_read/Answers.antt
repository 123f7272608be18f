use Rattle.parquet_meta.proofs.SpelledWritten.{footers_read_back, heads_read_back}
use Rattle.parquet_meta.proofs.laws.written_is_read.Goals as goal

pub returns-clause-footers : goal.returns-clause-footers
returns-clause-footers c = footers_read_back

pub returns-clause-heads : goal.returns-clause-heads
returns-clause-heads c = heads_read_back
