use Rattle.log_laws.proofs.Example.{inserts_are_made}
use Rattle.log_laws.proofs.inserts_are_made.Goals as goal

pub returns : goal.returns
returns c = inserts_are_made
