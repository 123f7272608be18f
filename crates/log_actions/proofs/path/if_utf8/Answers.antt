use Rattle.std.proofs.Common.{◌≡◌, ◌∙◌, ap, subst, List, ℕ, Bool, true, false, Option, Some, None, cond, refl, sym, true≢false}
use Rattle.std.proofs.lemmas.Bool.{cond-true}
use Rattle.std.proofs.lemmas.Str.{is_utf8-from_IsUtf8, IsUtf8-from_is_utf8}
use Rattle.std.specs.Str.{is_utf8}
use Rattle.log_actions.proofs.path.if_utf8.Goals as goal

not_true : (b : Bool) (o : Option (List ℕ)) → (b ≡ true → ⊥) → cond b o None ≡ None
not_true true o h = absurd (h refl)
not_true false o h = refl

pub returns-in-Ok : goal.returns-in-Ok
returns-in-Ok c =
    let text : List ℕ = c.in_ok-text-in-Ok.text in
    let P : List ℕ → Type 0 = λ s. cond (is_utf8 s) (Some s) None ≡ Some text in
    subst P (c.in_ok-text-in-Ok.ensures ∙ ap (λ v. v.items) c.in-Ok.ensures.ok) (cond-true (is_utf8 text) (Some text) None (is_utf8-from_IsUtf8 text c.as_str-utf8.ensures.utf8))

pub returns : goal.returns
returns c = not_true (is_utf8 c.args.bytes.items) (Some c.args.bytes.items) (λ h. true≢false (sym (c.in-Err.ensures.succeeds (IsUtf8-from_is_utf8 c.args.bytes.items h))))
