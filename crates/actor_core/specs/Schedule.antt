-- Actors that make their calls in the order of a schedule.
use Rattle.std.specs.Prelude.{◌≡◌, ◌≢◌, ◌<◌, ◌≤◌, ℕ, zero, suc, ◌-◌, ◌==◌, if◌then◌else◌, List, [], ◌∷◌, ◌++◌, Option, Some, slice_get, slice_set, length}
use Rattle.edge_api.specs.declared.call.JournalEntry.{JournalEntry}
use Rattle.edge_api.specs.declared.actor.Stage.{Stage}
use Rattle.edge_api.specs.Actor.{Event, Feeds, entries_of_events}
use Rattle.edge_api.specs.World.{Grows}
use Rattle.actor_core.specs.declared.piece.Till.{Till}
use Rattle.actor_core.specs.declared.piece.Till.TheVariants.{OneCall, StatementEnd, CommitPut, End}
use Rattle.actor_core.specs.declared.schedule.Item.{Item}
use Rattle.actor_core.specs.declared.schedule.ItemForm.{ItemForm}
use Rattle.actor_core.specs.declared.schedule.ItemForm.TheVariants.{One, Statement, Attempt}
use Rattle.actor_core.specs.Entries.{of_actor}
use Rattle.actor_core.specs.Piece.{Piece}

-- an event of the actor at a place, counted from 0
pub record Turn : Type 0 where
  pub place : ℕ
  pub event : Event

abbrev pub events_of : List Turn → List Event
events_of [] = []
events_of (t ∷ ts) = t.event ∷ events_of ts

-- the events of the actor at a place
abbrev pub own_events : ℕ → List Turn → List Event
own_events place [] = []
own_events place (t ∷ ts) = if t.place == place then t.event ∷ own_events place ts else own_events place ts

-- some events as turns of the actor at a place
abbrev pub turns_of : ℕ → List Event → List Turn
turns_of place [] = []
turns_of place (e ∷ es) = record { place = place; event = e } ∷ turns_of place es

-- a slot of a schedule: the actor at a place, and how far it goes
pub record Slot : Type 0 where
  pub place : ℕ
  pub till : Till

abbrev pub till_of : ItemForm → Till
till_of One = OneCall
till_of Statement = StatementEnd
till_of Attempt = CommitPut

-- a slot for each item, in order
abbrev pub slots_of : List Item → List Slot
slots_of [] = []
slots_of (i ∷ is) = record { place = i.actor - 1; till = till_of i.form } ∷ slots_of is

-- each of so many actors to its end, in order
abbrev pub to_the_end : ℕ → List Slot
to_the_end zero = []
to_the_end (suc n) = to_the_end n ++ record { place = n; till = End } ∷ []

-- the turns are one piece for each slot, in order
abbrev pub InOrder : {A : Type 0} → (A → Event → A → Type 0) → (A → Stage) → List Slot → List Turn → List A → List A → Type 0
InOrder goes stands [] turns old new = (turns ≡ []) × (old ≡ new)
InOrder {A} goes stands (s ∷ ss) turns old new =
    (events : List Event) × (rest : List Turn) × (turns ≡ turns_of s.place events ++ rest) × (a : A) × (b : A) × (slice_get old s.place ≡ Some a) × Piece goes stands s.till a events b
    × InOrder goes stands ss rest (slice_set old s.place b) new

-- the journal has grown by one piece for each slot, in order
abbrev pub FollowsSlots : {A : Type 0} → (A → Event → A → Type 0) → (A → Stage) → List Slot → Option (List JournalEntry) → Option (List JournalEntry) → List A → List A → Type 0
FollowsSlots goes stands slots before after old new = (turns : List Turn) × Grows before (entries_of_events (events_of turns)) after × InOrder goes stands slots turns old new

-- the journal has grown by one piece for each item, in order, and then by the calls of each actor to its end, in order
abbrev pub FollowsSchedule : {A : Type 0} → (A → Event → A → Type 0) → (A → Stage) → List Item → Option (List JournalEntry) → Option (List JournalEntry) → List A → List A → Type 0
FollowsSchedule goes stands items before after old new = FollowsSlots goes stands (slots_of items ++ to_the_end (length old)) before after old new

-- each turn is of one of so many actors
abbrev pub AllPlaced : ℕ → List Turn → Type 0
AllPlaced n [] = Unit {0}
AllPlaced n (t ∷ ts) = (t.place < n) × AllPlaced n ts

-- each actor's state is led by its own events, in order
abbrev pub EachFed : {A : Type 0} → (A → Event → A → Type 0) → List A → List Turn → List A → Type 0
EachFed {A} goes old turns new = (place : ℕ) (a b : A) → slice_get old place ≡ Some a → slice_get new place ≡ Some b → Feeds goes a (own_events place turns) b

-- the journal has grown by turns of the actors, whatever their order
abbrev pub TakesTurns : {A : Type 0} → (A → Event → A → Type 0) → Option (List JournalEntry) → Option (List JournalEntry) → List A → List A → Type 0
TakesTurns goes before after old new = (turns : List Turn) × Grows before (entries_of_events (events_of turns)) after × AllPlaced (length old) turns × EachFed goes old turns new

-- no two actors have one number
abbrev pub AreApart : {A : Type 0} → (A → ℕ) → List A → Type 0
AreApart {A} number actors = (i j : ℕ) (a b : A) → slice_get actors i ≡ Some a → slice_get actors j ≡ Some b → number a ≡ number b → i ≡ j

-- the entries of the actor's number are those of events that lead it to its new state
abbrev pub OwnPart : {A : Type 0} → (A → Event → A → Type 0) → (A → ℕ) → List JournalEntry → A → A → Type 0
OwnPart goes number part old new = (events : List Event) × (of_actor (number old) part ≡ entries_of_events events) × Feeds goes old events new

-- the journal has grown by a part in which the entries of each actor's number led it to its new state, and no number but theirs has any
pub record OwnParts {A : Type 0} (goes : A → Event → A → Type 0) (number : A → ℕ) (part : List JournalEntry) (old new : List A) : Type 0 where
  pub each : (place : ℕ) (a b : A) → slice_get old place ≡ Some a → slice_get new place ≡ Some b → OwnPart goes number part a b
  pub none : (n : ℕ) → ((place : ℕ) (a : A) → slice_get old place ≡ Some a → number a ≢ n) → of_actor n part ≡ []

abbrev pub EachOwnPart : {A : Type 0} → (A → Event → A → Type 0) → (A → ℕ) → Option (List JournalEntry) → Option (List JournalEntry) → List A → List A → Type 0
EachOwnPart goes number before after old new = (part : List JournalEntry) × Grows before part after × OwnParts goes number part old new

-- the numbers of the actors of entries, one by one
abbrev pub order_of : List JournalEntry → List ℕ
order_of [] = []
order_of (e ∷ es) = e.tag.actor ∷ order_of es

-- an item of one call for each number
abbrev pub items_of_order : List ℕ → List Item
items_of_order [] = []
items_of_order (n ∷ ns) = record { actor = n; form = One } ∷ items_of_order ns

-- the numbers of the entries' actors are from 1 to n
abbrev pub AllNumbered : ℕ → List JournalEntry → Type 0
AllNumbered n [] = Unit {0}
AllNumbered n (e ∷ es) = (0 < e.tag.actor) × (e.tag.actor ≤ n) × AllNumbered n es
