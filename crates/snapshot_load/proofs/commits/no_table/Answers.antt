use Rattle.snapshot_load.proofs.Tables.{none_is}
use Rattle.snapshot_load.proofs.commits.no_table.Goals as goal

pub returns : goal.returns
returns c = none_is c.new.result c.new.ensures
