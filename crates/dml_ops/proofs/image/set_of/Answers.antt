use Rattle.std.proofs.Common.{length}
use Rattle.dml_ops.proofs.Found.{found_bound}
use Rattle.dml_ops.proofs.image.set_of.Goals as goal

pub returns-clause-bound : goal.returns-clause-bound
returns-clause-bound c = found_bound (length c.args.row.now) (length c.args.source.now) c.args.place c.args.sets.now c.set_at.result c.set_at.ensures c.requires
