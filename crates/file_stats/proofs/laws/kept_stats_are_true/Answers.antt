use Rattle.file_stats.proofs.Truths.{kept_stats_are_true}
use Rattle.file_stats.proofs.laws.kept_stats_are_true.Goals as goal

pub returns : goal.returns
returns c = kept_stats_are_true
