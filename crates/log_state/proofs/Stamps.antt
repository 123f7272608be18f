-- The stamps of commits, part by part.
use Rattle.std.proofs.Common.{◌≡◌, ℕ, List, [], ◌∷◌, ◌++◌, Option, Some, refl}
use Rattle.log_actions.specs.declared.action.Action.{Action}
use Rattle.log_state.specs.Stamps.{stamp_in, stamp_after, stamp_from}

pub stamp_append : (last : Option ℕ) (xs ys : List (List Action)) → stamp_from last (xs ++ ys) ≡ stamp_from (stamp_from last xs) ys
stamp_append last [] ys = refl
stamp_append last (x ∷ xs) ys = stamp_append (Some (stamp_after last (stamp_in x))) xs ys
