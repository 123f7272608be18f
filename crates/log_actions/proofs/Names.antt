-- What was noted is what the actions said.
use Rattle.std.proofs.Common.{◌≡◌, ℕ, Bool, true, false, cond, ◌||◌, List, [], ◌∷◌, ◌++◌, refl, sym, ap, ◌∙◌}
use Rattle.std.specs.List.{list_any}
use Rattle.std.specs.Ordering.{nat_cmp, is_eq}
use Rattle.std.specs.Cmp.Lexicographic.{slice_cmp}
use Rattle.std.specs.Str.{bytes_eq}
use Rattle.std.proofs.lemmas.Map.Text.{is_eq-slice_cmp}
use Rattle.log_actions.specs.declared.action.Action.{Action}
use Rattle.log_actions.specs.declared.action.Action.TheVariants.{Protocol, Meta, Add, Remove, Txn, Info, Checkpoint, Sidecar, Ignored}
use Rattle.log_actions.specs.declared.named.Named.{Named}
use Rattle.log_actions.specs.Twice.{is_protocol, is_metadata, is_of_application, is_on_path, is_twice}
use Rattle.log_actions.specs.Named.{has, Holds, Notes, is_named}

-- a set by the order of its texts
pub has_is : (q : List ℕ) (names : List (List ℕ)) → list_any (λ name. is_eq (slice_cmp nat_cmp q name)) names ≡ has names q
unfolding has
has_is q [] = refl
has_is q (name ∷ names) = ap (λ b. b || list_any (λ n. is_eq (slice_cmp nat_cmp q n)) names) (is_eq-slice_cmp q name) ∙ ap (λ b. bytes_eq q name || b) (has_is q names)

pub or_is : (b x : Bool) → cond b true x ≡ (b || x)
or_is true x = refl
or_is false x = refl

swap : (x y z : Bool) → (x || (y || z)) ≡ (y || (x || z))
swap true true z = refl
swap true false z = refl
swap false y z = refl

any_more : (p : Action → Bool) (earlier : List Action) (a : Action) → list_any p (earlier ++ a ∷ []) ≡ (p a || list_any p earlier)
any_more p [] a = refl
any_more p (x ∷ xs) a = ap (λ b. p x || b) (any_more p xs a) ∙ swap (p x) (p a) (list_any p xs)

noted : (b : Bool) (p : Action → Bool) (earlier : List Action) (a : Action) → b ≡ list_any p earlier → (p a || b) ≡ list_any p (earlier ++ a ∷ [])
noted b p earlier a h = ap (λ x. p a || x) h ∙ sym (any_more p earlier a)

pub holds_on : (old new : Named) (earlier : List Action) (a : Action) → Holds old earlier → Notes old a new → Holds new (earlier ++ a ∷ [])
holds_on old new earlier a h n = record {
  protocol = n.protocol ∙ noted old.protocol is_protocol earlier a h.protocol;
  metadata = n.metadata ∙ noted old.metadata is_metadata earlier a h.metadata;
  applications = λ q. n.applications q ∙ noted (has old.applications.keys q) (is_of_application q) earlier a (h.applications q);
  paths = λ q. n.paths q ∙ noted (has old.paths.keys q) (is_on_path q) earlier a (h.paths q);
}

pub named_twice : (named : Named) (earlier : List Action) (a : Action) → Holds named earlier → is_named named a ≡ is_twice earlier a
unfolding is_named is_twice
named_twice named earlier (Protocol p) h = h.protocol
named_twice named earlier (Meta m) h = h.metadata
named_twice named earlier (Add f) h = h.paths f.path
named_twice named earlier (Remove f) h = h.paths f.path
named_twice named earlier (Txn t) h = h.applications t.app_id
named_twice named earlier (Info i) h = refl
named_twice named earlier (Checkpoint c) h = refl
named_twice named earlier (Sidecar s) h = refl
named_twice named earlier Ignored h = refl
