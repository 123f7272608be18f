use Rattle.file_stats.proofs.Truths.{stats_are_true}
use Rattle.file_stats.proofs.laws.stats_are_true.Goals as goal

pub returns : goal.returns
returns c = stats_are_true
