use Rattle.file_stats.proofs.Truths.{bounds_are_of_their_kind}
use Rattle.file_stats.proofs.laws.bounds_are_of_their_kind.Goals as goal

pub returns : goal.returns
returns c = bounds_are_of_their_kind
