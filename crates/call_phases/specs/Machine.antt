-- What the calls of a machine do to it: of a phase, whose outcome is how it ended, or of a statement, whose outcome is its reply.
use Rattle.std.specs.Prelude.{◌≡◌, ◌<◌, ℕ, [], ◌∷◌, Option, Some, None}
use Rattle.edge_api.specs.declared.call.Call.{Call}
use Rattle.edge_api.specs.declared.call.Answer.{Answer}
use Rattle.edge_api.specs.declared.call.Tag.{Tag}
use Rattle.edge_api.specs.declared.actor.Fed.{Fed}
use Rattle.edge_api.specs.declared.actor.Fed.TheVariants as fed
use Rattle.call_phases.specs.Phases.{Entries}

-- `rest p es o`: what the entries still to come have to be at p, and their outcome
module _ {P O : Type 0} (rest : P → Entries → O → Type 0) where
  -- whatever may come at the new one may come at the old one
  abbrev pub Covers : P → P → Type 0
  Covers old new = (es : Entries) (o : O) → rest new es o → rest old es o

  -- .. after a call with this answer
  abbrev pub Leads : P → Call → Answer → P → Type 0
  Leads old call answer new = (tag : Tag) (es : Entries) (o : O) → rest new es o → rest old (record { tag = tag; call = call; answer = answer } ∷ es) o

  -- memory was wanting for the call, and nothing follows
  abbrev pub Stops : P → P → Type 0
  Stops old new = (es : Entries) (o : O) → rest new es o → (es ≡ []) × rest old es o

  -- by what the machine was fed
  abbrev pub Goes : P → Call → Fed → P → Type 0
  Goes old call (fed.Answer answer) new = Leads old call answer new
  Goes old call fed.NoMemory new = Stops old new

-- nothing follows
abbrev pub IsStopped : {O : Type 0} → (Entries → O → Type 0) → Type 0
IsStopped {O} rest = (es : Entries) (o : O) → rest es o → es ≡ []

-- answers are left exactly where there is a next call
abbrev pub LeftBy : ℕ → Option Call → Type 0
LeftBy n None = n ≡ 0
LeftBy n (Some call) = 0 < n
