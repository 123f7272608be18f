-- What an actor is fed.
use Rattle.std.specs.Prelude.{◌≡◌, ℕ, List, [], ◌∷◌}
use Rattle.edge_api.specs.declared.call.Call.{Call}
use Rattle.edge_api.specs.declared.call.Tag.{Tag}
use Rattle.edge_api.specs.declared.call.JournalEntry.{JournalEntry}
use Rattle.edge_api.specs.Journal.{Entries, IsOfKind}
use Rattle.edge_api.specs.declared.actor.Fed.{Fed}
use Rattle.edge_api.specs.declared.actor.Fed.TheVariants as fed
use Rattle.edge_api.specs.declared.actor.Step.{Step}
use Rattle.edge_api.specs.declared.actor.Step.TheVariants as step

-- an entry of the journal, or want of memory
pub data Event : Type 0 where
  Made : JournalEntry → Event
  Refused : Event

-- what an actor was fed, as an event
abbrev pub event_of : Tag → Call → Fed → Event
event_of tag call (fed.Answer a) = Made (record { tag = tag; call = call; answer = a })
event_of tag call fed.NoMemory = Refused

-- an answer of the call's kind, or want of memory
abbrev pub IsFit : Call → Fed → Type 0
IsFit call (fed.Answer a) = IsOfKind call a
IsFit call fed.NoMemory = Unit {0}

-- a call is asked for, or the actor is done
abbrev pub Asks : {A : Type 0} → (A → Type 0) → (A → ℕ) → (A → ℕ) → (A → Tag → Call → A → Type 0) → A → Step → A → Type 0
Asks ready left number asks old (step.Call tag call) new = asks old tag call new × (tag.actor ≡ number old)
Asks ready left number asks old step.Done new = (new ≡ old) × (left old ≡ 0)

-- an entry has the actor's number
abbrev pub IsBy : ℕ → Event → Type 0
IsBy number (Made e) = e.tag.actor ≡ number
IsBy number Refused = Unit {0}

-- an event of the actor leads from one state to another
pub record Moves {A : Type 0} (goes : A → Event → A → Type 0) (number : A → ℕ) (old : A) (event : Event) (new : A) : Type 0 where
  pub leads : goes old event new
  pub by : IsBy (number old) event
  pub same : number new ≡ number old

-- the events lead from one state to another, one after another
abbrev pub Feeds : {A : Type 0} → (A → Event → A → Type 0) → A → List Event → A → Type 0
Feeds goes a [] b = a ≡ b
Feeds {A} goes a (e ∷ es) b = (mid : A) × goes a e mid × Feeds goes mid es b

-- the entries that events make
abbrev pub entries_of_events : List Event → Entries
entries_of_events [] = []
entries_of_events (Made e ∷ es) = e ∷ entries_of_events es
entries_of_events (Refused ∷ es) = entries_of_events es
