use Rattle.log_laws.proofs.Reading.{inserts_read}
use Rattle.log_laws.proofs.inserts_read.Goals as goal

pub returns : goal.returns
returns c = inserts_read
