-- What a reader of bytes or tokens returned, beside what there is to read.
use Rattle.std.specs.Prelude.{Bool, true, false, Option, Result}
use Rattle.row_base.specs.Readings as readings
use Rattle.script_tokens.specs.declared.fault.ParseError.{ParseError}
use Rattle.script_tokens.specs.declared.fault.ParseError.TheVariants as errors

-- memory ran out
abbrev pub is_memory : ParseError → Bool
is_memory errors.NoMemory = true
is_memory errors.Form = false

-- the error comes where there is nothing to read, or where memory ran out
abbrev pub Fails : {Y : Type 0} → ParseError → Option Y → Type 0
Fails e r = readings.Fails is_memory e r

-- what was returned, seen by view, is what there is to read, unless memory ran out
abbrev pub Gives : {X Y : Type 0} → (X → Y) → Result X ParseError → Option Y → Type 0
Gives view result r = readings.Gives is_memory view result r
