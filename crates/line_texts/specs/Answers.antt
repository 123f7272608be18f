-- What a reader of a text answers.
use Rattle.std.specs.Prelude.{◌≡◌, ℕ, Option, Some, None, Result, Ok, Err}
use Rattle.line_texts.specs.declared.TextFault.{TextFault}
use Rattle.line_texts.specs.declared.TextFault.TheVariants as fault

-- the value exactly where the text reads as it, else the line that is bad
abbrev pub Gives : {A X : Type 0} → (A → X) → Option X → ℕ → Result A TextFault → Type 0
Gives view read line (Ok a) = read ≡ Some (view a)
Gives view read line (Err (fault.Line n)) = (read ≡ None) × (n ≡ line)
Gives view read line (Err fault.NoMemory) = Unit {0}
