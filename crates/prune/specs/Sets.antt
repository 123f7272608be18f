-- Sets of truths, and what a connective makes of them.
use Rattle.std.specs.Prelude.{Bool, true, false, ◌&&◌, ◌||◌, not}
use Rattle.predicates.specs.declared.truth.Truth.{Truth}
use Rattle.predicates.specs.declared.truth.Truth.TheVariants.{Yes, No, Unknown}
use Rattle.prune.specs.declared.possible.Possible.{Possible}

-- two truths are the same
abbrev pub same : Truth → Truth → Bool
same Yes Yes = true
same No No = true
same Unknown Unknown = true
same a b = false

-- a truth is in the set
abbrev pub has : Possible → Truth → Bool
has s Yes = s.yes
has s No = s.no
has s Unknown = s.unknown

-- the set of the truths that pass a test
abbrev pub set_of : (Truth → Bool) → Possible
set_of test = record { yes = test Yes; no = test No; unknown = test Unknown }

-- one of the three passes the test
abbrev pub some_truth : (Truth → Bool) → Bool
some_truth test = test Yes || (test No || test Unknown)

-- what f makes of the truths of a set
abbrev pub images : (Truth → Truth) → Possible → Possible
images f s = set_of (λ t. some_truth (λ a. has s a && same (f a) t))

-- what f makes of the pairs of truths of two sets
abbrev pub pairs : (Truth → Truth → Truth) → Possible → Possible → Possible
pairs f s r = set_of (λ t. some_truth (λ a. some_truth (λ b. (has s a && has r b) && same (f a b) t)))

-- the set of one truth
abbrev pub only : Truth → Possible
only a = set_of (same a)

-- no truth is in the set
abbrev pub is_empty : Possible → Bool
is_empty s = not (some_truth (has s))
