-- The keys so far, and those that are left, give the truth of all; those that are left are as long as the columns.
use Rattle.std.proofs.Common.{◌≡◌, ◌==◌, true, length}
use Rattle.std.specs.List.{list_all}
use Rattle.predicates.specs.Kleene.{kleene_or}
use Rattle.predicates.specs.Truths.{keys_in}
use Rattle.predicates.proofs.pred.any_key_in.Given as goal

abbrev pub invariant-loop-key : goal.invariant-loop-key
invariant-loop-key l =
    (kleene_or l.truth (keys_in l.row l.columns l.key-iterator) ≡ keys_in l.row l.columns l.keys)
    × (list_all (λ k. length k == length l.columns) l.key-iterator ≡ true)
