use Rattle.log_laws.proofs.Example.{table_is_replayed}
use Rattle.log_laws.proofs.table_is_replayed.Goals as goal

pub returns : goal.returns
returns c = table_is_replayed
