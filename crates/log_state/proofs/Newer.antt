-- The newest of actions: of parts, and of one more.
use Rattle.std.proofs.Common.{◌≡◌, Bool, true, false, cond, List, [], ◌∷◌, ◌++◌, Option, Some, None, refl, sym, ap, ◌∙◌}
use Rattle.log_actions.specs.declared.action.Action.{Action}
use Rattle.log_state.specs.Newest.{newer, newest}

module _ {A : Type 0} where
  pub newer_none : (x : Option A) → newer None x ≡ x
  newer_none None = refl
  newer_none (Some x) = refl

  pub newer_assoc : (x y z : Option A) → newer (newer x y) z ≡ newer x (newer y z)
  newer_assoc x y None = refl
  newer_assoc x y (Some z) = refl

  -- a value that comes where a test holds
  pub by_test : (b : Bool) (x : A) (old : Option A) → cond b (Some x) old ≡ newer old (cond b (Some x) None)
  by_test true x old = refl
  by_test false x old = refl

module _ {A : Type 0} (said : Action → Option A) where
  pub newest_append : (xs ys : List Action) → newest said (xs ++ ys) ≡ newer (newest said xs) (newest said ys)
  unfolding newest
  newest_append [] ys = sym (newer_none (newest said ys))
  newest_append (a ∷ xs) ys = ap (newer (said a)) (newest_append xs ys) ∙ sym (newer_assoc (said a) (newest said xs) (newest said ys))

  -- the first of the actions that are left comes in place of what there was
  pub newer_step : (whole : Option A) (a : Action) (rest : List Action) (now new : Option A)
      → newer now (newest said (a ∷ rest)) ≡ whole → new ≡ newer now (newest said (a ∷ [])) → newer new (newest said rest) ≡ whole
  newer_step whole a rest now new so_far is =
      ap (λ x. newer x (newest said rest)) is ∙ newer_assoc now (newest said (a ∷ [])) (newest said rest) ∙ ap (newer now) (sym (newest_append (a ∷ []) rest)) ∙ so_far
