use Rattle.dml_ops.proofs.Together.{operated_respects}
use Rattle.dml_ops.proofs.laws.bags_are_respected.Goals as goal

pub returns : goal.returns
returns c = operated_respects
