-- A journal follows the schedule that has an item of one call for each of its entries.
use Rattle.std.proofs.Common.{◌≡◌, ℕ, zero, suc, ◌+◌, ◌-◌, ◌<◌, ◌==◌, Bool, true, false, List, [], ◌∷◌, ◌++◌, length, refl, sym, ◌∙◌, ap, subst, arith}
use Rattle.std.proofs.lemmas.Bool.Decides.{nat_tests}
use Rattle.std.specs.Prelude.{Some, slice_get, if◌then◌else◌}
use Rattle.edge_api.specs.declared.call.JournalEntry.{JournalEntry}
use Rattle.edge_api.specs.declared.actor.Stage.{Stage}
use Rattle.edge_api.specs.Actor.{Event, Made, Refused, Feeds, entries_of_events}
use Rattle.edge_api.specs.World.{Grows}
use Rattle.actor_core.specs.declared.piece.Till.TheVariants.{OneCall}
use Rattle.actor_core.specs.Entries.{of_actor}
use Rattle.actor_core.specs.Piece.{is_done}
use Rattle.actor_core.specs.Schedule.{Turn, Slot, events_of, own_events, slots_of, to_the_end, InOrder, AllPlaced, EachFed, FollowsSchedule, order_of, items_of_order, AllNumbered}
use Rattle.actor_core.proofs.Pieces.{Told}
use Rattle.actor_core.proofs.Orderly.{ones, turns_follow}

-- the turns of entries, where the actor of number n is at the place n - 1
abbrev pub turns_of_entries : List JournalEntry → List Turn
turns_of_entries [] = []
turns_of_entries (e ∷ es) = record { place = e.tag.actor - 1; event = Made e } ∷ turns_of_entries es

-- the events of entries
abbrev pub made_events : List JournalEntry → List Event
made_events [] = []
made_events (e ∷ es) = Made e ∷ made_events es

-- no call was refused memory
abbrev pub AllMade : List Event → Type 0
AllMade [] = Unit {0}
AllMade (Made e ∷ es) = AllMade es
AllMade (Refused ∷ es) = ⊥

-- then the events are those of their entries
pub made_only : (es : List Event) → AllMade es → es ≡ made_events (entries_of_events es)
made_only [] all = refl
made_only (Made e ∷ es) all = ap (λ (l : List Event). Made e ∷ l) (made_only es all)
made_only (Refused ∷ es) all = absurd all

-- their entries
entries_of_turns : (es : List JournalEntry) → entries_of_events (events_of (turns_of_entries es)) ≡ es
entries_of_turns [] = refl
entries_of_turns (e ∷ es) = ap (λ (l : List JournalEntry). e ∷ l) (entries_of_turns es)

-- their slots
slots_of_order : (es : List JournalEntry) → slots_of (items_of_order (order_of es)) ≡ ones (turns_of_entries es)
slots_of_order [] = refl
slots_of_order (e ∷ es) = ap (λ (l : List Slot). record { place = e.tag.actor - 1; till = OneCall } ∷ l) (slots_of_order es)

-- their places
all_placed : (n : ℕ) (es : List JournalEntry) → AllNumbered n es → AllPlaced n (turns_of_entries es)
all_placed n [] all = tt
all_placed n (e ∷ es) all = (omega (arith, all.0, all.1), all_placed n es all.2)

-- a number and its place
same_place : (n i : ℕ) → 0 < n → (n - 1 == i) ≡ (n == i + 1)
same_place (suc n) i lt = grind (arith, nat_tests)
same_place zero i lt = absurd (omega (arith, lt))

-- one entry more
own_one : (c : Bool) (e : JournalEntry) (es : List JournalEntry) → (if c then Made e ∷ made_events es else made_events es) ≡ made_events (if c then e ∷ es else es)
own_one true e es = refl
own_one false e es = refl

-- the events of an actor are those of its entries
pub own_events_of_entries : (n i : ℕ) (es : List JournalEntry) → AllNumbered n es → own_events i (turns_of_entries es) ≡ made_events (of_actor (i + 1) es)
own_events_of_entries n i [] all = refl
own_events_of_entries n i (e ∷ es) all =
    let turns = turns_of_entries es in
    let same = same_place e.tag.actor i all.0 in
    ap (λ (c : Bool). if c then Made e ∷ own_events i turns else own_events i turns) same
    ∙ ap (λ (l : List Event). if e.tag.actor == i + 1 then Made e ∷ l else l) (own_events_of_entries n i es all.2) ∙ own_one (e.tag.actor == i + 1) e (of_actor (i + 1) es)

module _ {A : Type 0} (goes : A → Event → A → Type 0) (stands : A → Stage) where
  -- each actor is fed the answers to the entries of its number, and is done in the end
  pub journal_follows : (before after : Told) (part : List JournalEntry) (olds news : List A) → ((a b : A) (e : Event) → goes a e b → is_done (stands a) ≡ false) → length news ≡ length olds → Grows before part after
      → AllNumbered (length olds) part → ((i : ℕ) (a b : A) → slice_get olds i ≡ Some a → slice_get news i ≡ Some b → Feeds goes a (made_events (of_actor (i + 1) part)) b)
      → ((i : ℕ) (a : A) → slice_get news i ≡ Some a → is_done (stands a) ≡ true) → FollowsSchedule goes stands (items_of_order (order_of part)) before after olds news
  journal_follows before after part olds news alive long grows numbered fed done =
      let turns = turns_of_entries part in
      let each : EachFed goes olds turns news = λ i a b old new. subst (λ (l : List Event). Feeds goes a l b) (sym (own_events_of_entries (length olds) i part numbered)) (fed i a b old new) in
      let order = turns_follow goes stands turns olds news alive long (all_placed (length olds) part numbered) each done in (
        turns,
        subst (λ (l : List JournalEntry). Grows before l after) (sym (entries_of_turns part)) grows,
        subst (λ (l : List Slot). InOrder goes stands (l ++ to_the_end (length olds)) turns olds news) (sym (slots_of_order part)) order,
      )
