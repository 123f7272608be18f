-- How far an actor goes at once.
use Rattle.std.specs.Prelude.{◌≡◌, ℕ, Bool, true, false, ◌||◌, List, [], ◌∷◌, Option}
use Rattle.edge_api.specs.declared.call.JournalEntry.{JournalEntry}
use Rattle.edge_api.specs.declared.actor.Stage.{Stage}
use Rattle.edge_api.specs.declared.actor.Stage.TheVariants.{Between, Running, Attempt, Done}
use Rattle.edge_api.specs.Actor.{Event, Moves, Feeds, entries_of_events}
use Rattle.edge_api.specs.World.{Grows}
use Rattle.actor_core.specs.declared.piece.Till.{Till}
use Rattle.actor_core.specs.declared.piece.Till.TheVariants.{OneCall, StatementEnd, CommitPut, End}
use Rattle.actor_core.specs.Entries.{AllOfActor}

abbrev pub is_done : Stage → Bool
is_done Between = false
is_done Running = false
is_done Attempt = false
is_done Done = true

abbrev pub is_between : Stage → Bool
is_between Between = true
is_between Running = false
is_between Attempt = false
is_between Done = false

-- the next call is the put of a commit
abbrev pub is_at_put : Stage → Bool
is_at_put Between = false
is_at_put Running = false
is_at_put Attempt = true
is_at_put Done = false

-- an actor that stands there makes no call at all: it is done, or is to go to a commit put and its next call is one
abbrev pub stays : Till → Stage → Bool
stays OneCall stage = is_done stage
stays StatementEnd stage = is_done stage
stays CommitPut stage = is_done stage || is_at_put stage
stays End stage = is_done stage

-- an actor that stands there after a call makes no further one: at once; at the end of the statement; at that end or where its next call is a
-- commit put; where it is done
abbrev pub stops : Till → Stage → Bool
stops OneCall stage = true
stops StatementEnd stage = is_done stage || is_between stage
stops CommitPut stage = is_done stage || is_between stage || is_at_put stage
stops End stage = is_done stage

-- the events of calls until the actor stops
abbrev pub GoesOn : {A : Type 0} → (A → Event → A → Type 0) → (A → Stage) → Till → A → List Event → A → Type 0
GoesOn goes stands till a [] b = (a ≡ b) × (stops till (stands a) ≡ true)
GoesOn {A} goes stands till a (e ∷ es) b = (stops till (stands a) ≡ false) × (mid : A) × goes a e mid × GoesOn goes stands till mid es b

-- no event where the actor stays; else that of a first call, and those of further calls until it stops
abbrev pub Piece : {A : Type 0} → (A → Event → A → Type 0) → (A → Stage) → Till → A → List Event → A → Type 0
Piece goes stands till a [] b = (a ≡ b) × (stays till (stands a) ≡ true)
Piece {A} goes stands till a (e ∷ es) b = (stays till (stands a) ≡ false) × (mid : A) × goes a e mid × GoesOn goes stands till mid es b

-- the journal has grown by the event of one call. Want of memory is an event without an entry
abbrev pub Steps : {A : Type 0} → (A → Event → A → Type 0) → Option (List JournalEntry) → Option (List JournalEntry) → A → A → Type 0
Steps goes before after old new = (event : Event) × Grows before (entries_of_events (event ∷ [])) after × goes old event new

-- the journal has grown by calls of an actor until it stops
abbrev pub RunsOn : {A : Type 0} → (A → Event → A → Type 0) → (A → Stage) → Till → Option (List JournalEntry) → Option (List JournalEntry) → A → A → Type 0
RunsOn goes stands till before after old new = (events : List Event) × Grows before (entries_of_events events) after × GoesOn goes stands till old events new

-- the journal has grown by one piece of an actor
abbrev pub RunsPiece : {A : Type 0} → (A → Event → A → Type 0) → (A → Stage) → Till → Option (List JournalEntry) → Option (List JournalEntry) → A → A → Type 0
RunsPiece goes stands till before after old new = (events : List Event) × Grows before (entries_of_events events) after × Piece goes stands till old events new

-- the journal has grown by entries of the actor's number alone, and the events with these entries led it to its new state
abbrev pub RunsAlone : {A : Type 0} → (A → Event → A → Type 0) → (A → ℕ) → Option (List JournalEntry) → Option (List JournalEntry) → A → A → Type 0
RunsAlone goes number before after old new =
    (events : List Event) × Grows before (entries_of_events events) after × AllOfActor (number old) (entries_of_events events) × Feeds (Moves goes number) old events new
