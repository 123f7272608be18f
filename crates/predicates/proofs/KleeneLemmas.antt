-- The laws of Kleene's tables that loops need.
use Rattle.std.specs.Prelude.{◌≡◌}
use mathlib.Core.Path.{refl}
use Rattle.predicates.specs.declared.truth.Truth.{Truth}
use Rattle.predicates.specs.declared.truth.Truth.TheVariants.{Yes, No, Unknown}
use Rattle.predicates.specs.Kleene.{kleene_and, kleene_or}

pub and_assoc : (a b c : Truth) → kleene_and (kleene_and a b) c ≡ kleene_and a (kleene_and b c)
and_assoc Yes Yes Yes = refl
and_assoc Yes Yes No = refl
and_assoc Yes Yes Unknown = refl
and_assoc Yes No Yes = refl
and_assoc Yes No No = refl
and_assoc Yes No Unknown = refl
and_assoc Yes Unknown Yes = refl
and_assoc Yes Unknown No = refl
and_assoc Yes Unknown Unknown = refl
and_assoc No Yes Yes = refl
and_assoc No Yes No = refl
and_assoc No Yes Unknown = refl
and_assoc No No Yes = refl
and_assoc No No No = refl
and_assoc No No Unknown = refl
and_assoc No Unknown Yes = refl
and_assoc No Unknown No = refl
and_assoc No Unknown Unknown = refl
and_assoc Unknown Yes Yes = refl
and_assoc Unknown Yes No = refl
and_assoc Unknown Yes Unknown = refl
and_assoc Unknown No Yes = refl
and_assoc Unknown No No = refl
and_assoc Unknown No Unknown = refl
and_assoc Unknown Unknown Yes = refl
and_assoc Unknown Unknown No = refl
and_assoc Unknown Unknown Unknown = refl

pub or_assoc : (a b c : Truth) → kleene_or (kleene_or a b) c ≡ kleene_or a (kleene_or b c)
or_assoc Yes Yes Yes = refl
or_assoc Yes Yes No = refl
or_assoc Yes Yes Unknown = refl
or_assoc Yes No Yes = refl
or_assoc Yes No No = refl
or_assoc Yes No Unknown = refl
or_assoc Yes Unknown Yes = refl
or_assoc Yes Unknown No = refl
or_assoc Yes Unknown Unknown = refl
or_assoc No Yes Yes = refl
or_assoc No Yes No = refl
or_assoc No Yes Unknown = refl
or_assoc No No Yes = refl
or_assoc No No No = refl
or_assoc No No Unknown = refl
or_assoc No Unknown Yes = refl
or_assoc No Unknown No = refl
or_assoc No Unknown Unknown = refl
or_assoc Unknown Yes Yes = refl
or_assoc Unknown Yes No = refl
or_assoc Unknown Yes Unknown = refl
or_assoc Unknown No Yes = refl
or_assoc Unknown No No = refl
or_assoc Unknown No Unknown = refl
or_assoc Unknown Unknown Yes = refl
or_assoc Unknown Unknown No = refl
or_assoc Unknown Unknown Unknown = refl

pub and_Yes : (a : Truth) → kleene_and a Yes ≡ a
and_Yes Yes = refl
and_Yes No = refl
and_Yes Unknown = refl

pub or_No : (a : Truth) → kleene_or a No ≡ a
or_No Yes = refl
or_No No = refl
or_No Unknown = refl
