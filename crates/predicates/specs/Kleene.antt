-- Kleene's tables of three truths.
use Rattle.predicates.specs.declared.truth.Truth.{Truth}
use Rattle.predicates.specs.declared.truth.Truth.TheVariants.{Yes, No, Unknown}

-- not
abbrev pub kleene_not : Truth → Truth
kleene_not Yes = No
kleene_not No = Yes
kleene_not Unknown = Unknown

-- and
abbrev pub kleene_and : Truth → Truth → Truth
kleene_and Yes Yes = Yes
kleene_and Yes No = No
kleene_and Yes Unknown = Unknown
kleene_and No Yes = No
kleene_and No No = No
kleene_and No Unknown = No
kleene_and Unknown Yes = Unknown
kleene_and Unknown No = No
kleene_and Unknown Unknown = Unknown

-- or
abbrev pub kleene_or : Truth → Truth → Truth
kleene_or Yes Yes = Yes
kleene_or Yes No = Yes
kleene_or Yes Unknown = Yes
kleene_or No Yes = Yes
kleene_or No No = No
kleene_or No Unknown = Unknown
kleene_or Unknown Yes = Yes
kleene_or Unknown No = Unknown
kleene_or Unknown Unknown = Unknown
