-- One call more.
use Rattle.std.proofs.Common.{◌≡◌, ℕ, ◌<◌, Bool, true, false, List, [], ◌∷◌, ◌++◌, refl, sym, ◌∙◌, ap, subst, arith, append_assoc}
use Rattle.std.proofs.lemmas.List.{append-nil}
use Rattle.std.specs.Bool.{OnTrue, OnFalse}
use Rattle.std.specs.Prelude.{Option, Some, None}
use Rattle.edge_api.specs.declared.call.JournalEntry.{JournalEntry}
use Rattle.edge_api.specs.World.{Grows}
use Rattle.edge_api.specs.declared.actor.Stage.{Stage}
use Rattle.actor_core.specs.declared.piece.Till.{Till}
use Rattle.edge_api.specs.Actor.{Event, Made, Refused, Moves, Feeds, entries_of_events}
use Rattle.actor_core.specs.Entries.{AllOfActor}
use Rattle.actor_core.specs.Piece.{stays, stops, GoesOn, Piece, RunsOn, RunsPiece, RunsAlone, Steps}

-- a journal, where the store tells it
abbrev pub Told : Type 0
Told = Option (List JournalEntry)

-- a journal that is as before has grown by nothing
pub grows_nothing : (before after : Told) → after ≡ before → Grows before [] after
grows_nothing None after e = e
grows_nothing (Some j) after e = e ∙ ap (λ (l : List JournalEntry). Some l) (sym (append-nil j))

-- a journal that grows twice
pub grows_more : (a b c : Told) (p q : List JournalEntry) → Grows a p b → Grows b q c → Grows a (p ++ q) c
grows_more None b c p q first second = subst (λ (t : Told). Grows t q c) first second
grows_more (Some j) b c p q first second = subst (λ (t : Told). Grows t q c) first second ∙ ap (λ (l : List JournalEntry). Some l) (append_assoc j p q)

-- the entries of events, one list after another
pub entries-append : (a b : List Event) → entries_of_events (a ++ b) ≡ entries_of_events a ++ entries_of_events b
entries-append [] b = refl
entries-append (Made e ∷ a) b = ap (λ (l : List JournalEntry). e ∷ l) (entries-append a b)
entries-append (Refused ∷ a) b = entries-append a b

-- events that lead from one state to another, where any end may follow
abbrev pub Led : {A : Type 0} → (A → Event → A → Type 0) → (A → Stage) → Till → Told → Told → A → A → Type 0
Led {A} goes stands till before now old mid =
    (part : List Event) × Grows before (entries_of_events part) now × ((es : List Event) (b : A) → GoesOn goes stands till mid es b → GoesOn goes stands till old (part ++ es) b)

module _ {A : Type 0} (goes : A → Event → A → Type 0) (stands : A → Stage) (till : Till) where
  -- one call more, where the actor has not stopped
  pub led_more : (D : Type 0) (j0 j1 j2 : Told) (old mid new : A) (left : ℕ) (r : Bool) → OnTrue r (Steps goes j1 j2 mid new) → OnFalse r (D × (j2 ≡ j1) × (left ≡ 0)) → 0 < left
      → stops till (stands mid) ≡ false → Led goes stands till j0 j1 old mid → Led goes stands till j0 j2 old new
  led_more D j0 j1 j2 old mid new left false step stay lt on led = absurd (omega (arith, stay.2))
  led_more D j0 j1 j2 old mid new left true step stay lt on led =
      let e = step.0 in
      let one : List Event = e ∷ [] in
      let part : entries_of_events (led.0 ++ one) ≡ entries_of_events led.0 ++ entries_of_events one = entries-append led.0 one in (
        led.0 ++ one,
        subst (λ (l : List JournalEntry). Grows j0 l j2) (sym part) (grows_more j0 j1 j2 (entries_of_events led.0) (entries_of_events one) led.1 step.1),
        λ es b h. subst (λ (l : List Event). GoesOn goes stands till old l b) (sym (append_assoc led.0 one es)) (led.2 (e ∷ es) b (on, new, step.2, h)),
      )

  -- where the actor stops
  pub led_end : (j0 j1 : Told) (old mid : A) → stops till (stands mid) ≡ true → Led goes stands till j0 j1 old mid → RunsOn goes stands till j0 j1 old mid
  led_end j0 j1 old mid is led = (led.0, led.1, subst (λ (l : List Event). GoesOn goes stands till old l mid) (append-nil led.0) (led.2 [] mid (refl, is)))

  -- before the first call
  pub led_begin : (j : Told) (old : A) → Led goes stands till j j old old
  led_begin j old = ([], grows_nothing j j refl, λ es b h. h)

  -- a first call, and those until the actor stops
  pub piece_of : (D : Type 0) (j0 j1 j2 : Told) (old mid new : A) (left : ℕ) (r : Bool) → OnTrue r (Steps goes j0 j1 old mid) → OnFalse r (D × (j1 ≡ j0) × (left ≡ 0)) → 0 < left
      → stays till (stands old) ≡ false → RunsOn goes stands till j1 j2 mid new → RunsPiece goes stands till j0 j2 old new
  piece_of D j0 j1 j2 old mid new left false step stay lt on run = absurd (omega (arith, stay.2))
  piece_of D j0 j1 j2 old mid new left true step stay lt on run =
      let e = step.0 in
      let one : List Event = e ∷ [] in
      let part : entries_of_events (one ++ run.0) ≡ entries_of_events one ++ entries_of_events run.0 = entries-append one run.0 in (
        one ++ run.0,
        subst (λ (l : List JournalEntry). Grows j0 l j2) (sym part) (grows_more j0 j1 j2 (entries_of_events one) (entries_of_events run.0) step.1 run.1),
        (on, mid, step.2, run.2),
      )

  -- where the actor stays, nothing happens
  pub piece_none : (j : Told) (old : A) → stays till (stands old) ≡ true → RunsPiece goes stands till j j old old
  piece_none j old is = ([], grows_nothing j j refl, (refl, is))

-- what holds of a test that fails
pub on_false : (r : Bool) (P : Type 0) → r ≡ false → OnFalse r P → P
on_false true P is h = cc
on_false false P is h = h

-- the events of a piece lead from its first state to its last
module _ {A : Type 0} (goes : A → Event → A → Type 0) (stands : A → Stage) (till : Till) where
  pub on_feeds : (a b : A) (es : List Event) → GoesOn goes stands till a es b → Feeds goes a es b
  on_feeds a b [] h = h.0
  on_feeds a b (e ∷ es) h = (h.1, h.2, on_feeds h.1 b es h.3)

  pub piece_feeds : (a b : A) (es : List Event) → Piece goes stands till a es b → Feeds goes a es b
  piece_feeds a b [] h = h.0
  piece_feeds a b (e ∷ es) h = (h.1, h.2, on_feeds h.1 b es h.3)

module _ {A : Type 0} (goes : A → Event → A → Type 0) (number : A → ℕ) where
  -- what an actor is fed in its turns has its number
  pub all_of_actor : (a b : A) (es : List Event) → Feeds (Moves goes number) a es b → AllOfActor (number a) (entries_of_events es)
  all_of_actor a b [] same = tt
  all_of_actor a b (Made e ∷ es) fed = (fed.1.by, subst (λ (n : ℕ). AllOfActor n (entries_of_events es)) fed.1.same (all_of_actor fed.0 b es fed.2))
  all_of_actor a b (Refused ∷ es) fed = subst (λ (n : ℕ). AllOfActor n (entries_of_events es)) fed.1.same (all_of_actor fed.0 b es fed.2)

  -- the entries of a piece are those of the actor
  pub piece_alone : (stands : A → Stage) (till : Till) (j0 j1 : Told) (old new : A) → RunsPiece (Moves goes number) stands till j0 j1 old new → RunsAlone goes number j0 j1 old new
  piece_alone stands till j0 j1 old new run =
      let fed = piece_feeds (Moves goes number) stands till old new run.0 run.2 in (run.0, run.1, all_of_actor old new run.0 fed, fed)
