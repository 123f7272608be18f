use Rattle.prune.proofs.Trees.{each_truth_is_possible, no_row_is_lost}
use Rattle.prune.proofs.laws.no_row_is_lost.Goals as goal

pub returns-clause-possible : goal.returns-clause-possible
returns-clause-possible c = each_truth_is_possible

pub returns-clause-lost : goal.returns-clause-lost
returns-clause-lost c = no_row_is_lost
