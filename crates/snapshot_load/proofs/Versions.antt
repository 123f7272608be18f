-- Versions and numbers of commits.
use Rattle.std.proofs.Common.{◌≡◌, ◌+◌, ℕ, suc, List, [], ◌∷◌, length, max, Option, Some, None, refl, ap, ◌∙◌, arith}
use Rattle.log_actions.specs.declared.action.Action.{Action}
use Rattle.log_state.specs.Table.{Table, IsTableOf, next_version, version_from}
use Rattle.snapshot_load.specs.Listing.{later}

counted : (before : Option ℕ) (commits : List (List Action)) → next_version (version_from before commits) ≡ next_version before + length commits
counted before [] = omega arith
counted before (c ∷ cs) = let rest = counted (Some (next_version before)) cs in omega arith

-- the version behind a table is as great as the number of its commits
pub next_is : (commits : List (List Action)) (t : Table) → IsTableOf commits t → next_version t.version ≡ length commits
next_is commits t made =
    let all = counted None commits in
    let count : next_version (version_from None commits) ≡ length commits = omega (arith, all) in
    ap next_version made.version ∙ count

pub version_is : (o : Option ℕ) (v : ℕ) → next_version o ≡ suc v → o ≡ Some v
version_is None v is = cc
version_is (Some w) v is = let same : w ≡ v = omega (arith, is) in ap Some same

greatest : (x y z : ℕ) → max (max x y) z ≡ max x (max y z)
greatest x y z = omega arith

pub later_assoc : (a b c : Option ℕ) → later (later a b) c ≡ later a (later b c)
later_assoc None b c = refl
later_assoc (Some x) None c = refl
later_assoc (Some x) (Some y) None = refl
later_assoc (Some x) (Some y) (Some z) = ap Some (greatest x y z)
