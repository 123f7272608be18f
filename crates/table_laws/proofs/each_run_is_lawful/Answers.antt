use Rattle.table_laws.proofs.Run.{each_run_is_lawful}
use Rattle.table_laws.proofs.each_run_is_lawful.Goals as goal

pub returns : goal.returns
returns c = each_run_is_lawful
