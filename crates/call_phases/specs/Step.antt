-- What a step of a statement comes to.
use Rattle.std.specs.Prelude.{◌≡◌, [], ◌∷◌, Option, None}
use Rattle.edge_api.specs.declared.call.Call.{Call}
use Rattle.edge_api.specs.declared.call.Tag.{Tag}
use Rattle.edge_api.specs.declared.actor.Fed.{Fed}
use Rattle.edge_api.specs.declared.actor.Fed.TheVariants as fed
use Rattle.call_phases.specs.Phases.{Entries}
use Rattle.call_phases.specs.Ending.{Ending}
use Rattle.call_phases.specs.Endings.{Then}

-- a phase, and then what the statement does, by the reply
abbrev pub Steps : {F X Y : Type 0} → (Entries → Ending F X → Type 0) → (Option Y → F → Type 0) → (Option Y → X → Entries → Type 0) → Entries → Option Y → Type 0
Steps phase fails next es reply = Then phase (reply ≡ None) (fails reply) (next reply) es

-- what was fed leads from what may come before it to what may come after it
abbrev pub FedBy : {Y : Type 0} → (Entries → Y → Type 0) → Call → Fed → (Entries → Y → Type 0) → Type 0
FedBy {Y} before call (fed.Answer answer) after = (tag : Tag) (es : Entries) (y : Y) → after es y → before (record { tag = tag; call = call; answer = answer } ∷ es) y
FedBy {Y} before call fed.NoMemory after = (es : Entries) (y : Y) → after es y → (es ≡ []) × before es y
