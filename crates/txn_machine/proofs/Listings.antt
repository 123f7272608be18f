-- The greater of versions.
use Rattle.std.proofs.Common.{◌≡◌, ℕ, refl, ap, arith}
use Rattle.std.specs.Prelude.{Option, Some, None, max}
use Rattle.statement_calls.specs.Listing.{later}

greatest : (x y z : ℕ) → max (max x y) z ≡ max x (max y z)
greatest x y z = omega arith

pub later_assoc : (a b c : Option ℕ) → later (later a b) c ≡ later a (later b c)
later_assoc None b c = refl
later_assoc (Some x) None c = refl
later_assoc (Some x) (Some y) None = refl
later_assoc (Some x) (Some y) (Some z) = ap (λ (n : ℕ). Some n) (greatest x y z)
