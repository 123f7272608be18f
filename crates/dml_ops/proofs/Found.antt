-- A set that is found among bound ones is bound.
use Rattle.std.proofs.Common.{◌≡◌, ◌==◌, ◌&&◌, ℕ, Bool, true, false, cond, List, [], ◌∷◌, refl, sym, subst}
use Rattle.std.specs.Prelude.{Option, Some, None, IfSome, option_copied, nat_lt}
use Rattle.std.specs.List.{find}
use Rattle.std.specs.Borrow.{Bor}
use Rattle.predicates.specs.Values.{is_expr_bound}
use Rattle.op_types.specs.declared.bound.SetTo.{SetTo}
use Rattle.op_types.specs.Bound.{are_sets_bound}

both : (a b c : Bool) → (a && b) && c ≡ true → (b ≡ true) × (c ≡ true)
both true true true e = (refl, refl)
both true true false e = absurd cc
both true false c e = absurd cc
both false b c e = absurd cc

module _ (width source place : ℕ) where
  among : (sets : List (SetTo ℕ)) → are_sets_bound width source sets ≡ true
      → IfSome (find (λ s. s.column == place) sets) (λ s. is_expr_bound width source s.value ≡ true)
  among [] bound = tt
  among (s ∷ sets) bound =
      let h = both (nat_lt s.column width) (is_expr_bound width source s.value) (are_sets_bound width source sets) bound in
      by (s.column == place) h.0 (among sets h.1)
    where
      by : (b : Bool) → is_expr_bound width source s.value ≡ true → IfSome (find (λ s. s.column == place) sets) (λ s. is_expr_bound width source s.value ≡ true)
          → IfSome (cond b (Some s) (find (λ s. s.column == place) sets)) (λ s. is_expr_bound width source s.value ≡ true)
      by true here later = here
      by false here later = later

  pub found_bound : (sets : List (SetTo ℕ)) (r : Option (Bor (SetTo ℕ))) → option_copied r ≡ find (λ s. s.column == place) sets → are_sets_bound width source sets ≡ true
      → IfSome r (λ s. is_expr_bound width source s.now.value ≡ true)
  found_bound sets None e bound = tt
  found_bound sets (Some s) e bound = subst (λ (o : Option (SetTo ℕ)). IfSome o (λ t. is_expr_bound width source t.value ≡ true)) (sym e) (among sets bound)
