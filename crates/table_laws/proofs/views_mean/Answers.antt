use Rattle.table_laws.proofs.ViewsMean.{views_mean}
use Rattle.table_laws.proofs.views_mean.Goals as goal

pub returns : goal.returns
returns c = views_mean
