use Rattle.std.proofs.Common.{◌≡◌, drop}
use Rattle.predicates.specs.Kleene.{kleene_and}
use Rattle.predicates.specs.Truths.{key_in}
use Rattle.predicates.proofs.pred.key_truth.Given as goal

-- the columns so far, and those that are left, give the truth of the key
abbrev pub invariant-loop-i : goal.invariant-loop-i
invariant-loop-i l =
    kleene_and l.truth (key_in l.row (drop l.i l.columns) (drop l.i l.key)) ≡ key_in l.row l.columns l.key
