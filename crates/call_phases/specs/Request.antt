-- A phase of one call.
use Rattle.std.specs.Prelude.{ℕ, ◌∷◌, Option, Some, None, Result}
use Rattle.edge_api.specs.declared.call.Call.{Call}
use Rattle.edge_api.specs.declared.call.Answer.{Answer}
use Rattle.edge_api.specs.declared.call.Tag.{Tag}
use Rattle.call_phases.specs.Phases.{Entries}
use Rattle.call_phases.specs.Ending.{Ending}
use Rattle.call_phases.specs.declared.fault.CallFault.{CallFault}
use Rattle.call_phases.specs.declared.request.RequestStage.{RequestStage}
use Rattle.call_phases.specs.declared.request.RequestStage.TheVariants as stage
use Rattle.call_phases.specs.Endings.{HasFailed, HasEnded, EndsAs}

-- the answer to this call gives this result
abbrev pub GivesAt : {V : Type 0} → (Entries → Ending CallFault V → Type 0) → Call → Answer → Result V CallFault → Type 0
GivesAt {V} rest call answer result = (tag : Tag) (es : Entries) (o : Ending CallFault V) → EndsAs result es o → rest (record { tag = tag; call = call; answer = answer } ∷ es) o

-- by the call of each request
abbrev pub call_at : {Q V : Type 0} → (Q → Call) → RequestStage Q V → Option Call
call_at asks (stage.Asking q) = Some (asks q)
call_at asks (stage.Answered v) = None
call_at asks (stage.Failed f) = None

abbrev pub left_at : {Q V : Type 0} → RequestStage Q V → ℕ
left_at (stage.Asking q) = 1
left_at (stage.Answered v) = 0
left_at (stage.Failed f) = 0

-- by what the entries of each request have to be
abbrev pub RestAt : {Q V : Type 0} → (Q → Entries → Ending CallFault V → Type 0) → RequestStage Q V → Entries → Ending CallFault V → Type 0
RestAt rest (stage.Asking q) es o = rest q es o
RestAt rest (stage.Answered v) es o = HasEnded o v es
RestAt rest (stage.Failed f) es o = HasFailed o f es
