-- What a connective makes of members is a member of what it makes of sets.
use Rattle.std.proofs.Common.{◌≡◌, Bool, true, false, ◌&&◌, ◌||◌, refl, ap, ◌∙◌}
use Rattle.predicates.specs.declared.truth.Truth.{Truth}
use Rattle.predicates.specs.declared.truth.Truth.TheVariants.{Yes, No, Unknown}
use Rattle.prune.specs.declared.possible.Possible.{Possible}
use Rattle.prune.specs.Sets.{same, has, set_of, some_truth, images, pairs, only}

pub same_itself : (t : Truth) → same t t ≡ true
same_itself Yes = refl
same_itself No = refl
same_itself Unknown = refl

pub has_set_of : (test : Truth → Bool) (t : Truth) → has (set_of test) t ≡ test t
has_set_of test Yes = refl
has_set_of test No = refl
has_set_of test Unknown = refl

pub or_true : (b : Bool) → b || true ≡ true
or_true true = refl
or_true false = refl

pub some_at : (test : Truth → Bool) (a : Truth) → test a ≡ true → some_truth test ≡ true
some_at test Yes e = rw e refl
some_at test No e = rw e (or_true (test Yes))
some_at test Unknown e = rw e (ap (λ b. test Yes || b) (or_true (test No)) ∙ or_true (test Yes))

pub has_only : (t : Truth) → has (only t) t ≡ true
has_only t = has_set_of (same t) t ∙ same_itself t

pub has_image : (f : Truth → Truth) (s : Possible) (a : Truth) → has s a ≡ true → has (images f s) (f a) ≡ true
has_image f s a h =
    has_set_of (λ t. some_truth (λ x. has s x && same (f x) t)) (f a) ∙ some_at (λ x. has s x && same (f x) (f a)) a (rw (h, same_itself (f a)) refl)

pub has_pair : (f : Truth → Truth → Truth) (s r : Possible) (a b : Truth) → has s a ≡ true → has r b ≡ true → has (pairs f s r) (f a b) ≡ true
has_pair f s r a b h k =
    has_set_of (λ t. some_truth (λ x. some_truth (λ y. (has s x && has r y) && same (f x y) t))) (f a b)
    ∙ some_at (λ x. some_truth (λ y. (has s x && has r y) && same (f x y) (f a b))) a
    (some_at (λ y. (has s a && has r y) && same (f a y) (f a b)) b (rw (h, k, same_itself (f a b)) refl))
