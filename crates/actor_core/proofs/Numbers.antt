-- The entries of an actor's number are those of its own events.
use Rattle.std.proofs.Common.{◌≡◌, ◌≢◌, ℕ, ◌+◌, ◌<◌, ◌==◌, Bool, true, false, List, [], ◌∷◌, length, refl, sym, ◌∙◌, ap, subst, arith}
use Rattle.std.proofs.lemmas.Option.{slice_get_within}
use Rattle.std.specs.Prelude.{Some, slice_get, if◌then◌else◌}
use Rattle.edge_api.specs.declared.call.JournalEntry.{JournalEntry}
use Rattle.edge_api.specs.Actor.{Event, Made, Refused, IsBy, Moves, Feeds, entries_of_events}
use Rattle.actor_core.specs.Entries.{of_actor}
use Rattle.actor_core.specs.Schedule.{Turn, events_of, own_events, AllPlaced, EachFed, AreApart, EachOwnPart, TakesTurns}
use Rattle.actor_core.proofs.Lists.{equal-refl, equal_is, equal_not, not_equal, item_of}
use Rattle.actor_core.proofs.Pieces.{Told}

-- each event has the number
abbrev AllBy : ℕ → List Event → Type 0
AllBy n [] = Unit {0}
AllBy n (e ∷ es) = IsBy n e × AllBy n es

-- a call that was refused memory makes no entry
drop_nothing : (c : Bool) (mine : List Event) → entries_of_events (if c then Refused ∷ mine else mine) ≡ entries_of_events mine
drop_nothing true mine = refl
drop_nothing false mine = refl

module _ {A : Type 0} (goes : A → Event → A → Type 0) (number : A → ℕ) where
  -- the events that lead an actor have its number
  fed_by : (a b : A) (es : List Event) → Feeds (Moves goes number) a es b → AllBy (number a) es
  fed_by a b [] same = tt
  fed_by a b (e ∷ es) fed = (fed.1.by, subst (λ (n : ℕ). AllBy n es) fed.1.same (fed_by fed.0 b es fed.2))

  -- each turn's entry has the number of its actor
  abbrev TurnsBy : List A → List Turn → Type 0
  TurnsBy actors ts = (i : ℕ) (a : A) → slice_get actors i ≡ Some a → AllBy (number a) (own_events i ts)

  -- the first turn has the number of its actor
  head_by : (actors : List A) (t : Turn) (ts : List Turn) (a : A) → TurnsBy actors (t ∷ ts) → slice_get actors t.place ≡ Some a → IsBy (number a) t.event
  head_by actors t ts a h is =
      let two = subst (λ (b : Bool). AllBy (number a) (if b then t.event ∷ own_events t.place ts else own_events t.place ts)) (equal-refl t.place) (h t.place a is) in two.0

  -- and so have the later ones
  rest_by : (actors : List A) (t : Turn) (ts : List Turn) → TurnsBy actors (t ∷ ts) → TurnsBy actors ts
  rest_by actors t ts h i a is = by (t.place == i) (h i a is)
    where
      by : (b : Bool) → AllBy (number a) (if b then t.event ∷ own_events i ts else own_events i ts) → AllBy (number a) (own_events i ts)
      by true x = x.1
      by false x = x

  -- one turn more: an entry of this actor or of another
  own_step : (actors : List A) (i : ℕ) (a : A) (place : ℕ) (event : Event) (evs mine : List Event) → AreApart number actors → slice_get actors i ≡ Some a → place < length actors
      → ((b : A) → slice_get actors place ≡ Some b → IsBy (number b) event) → of_actor (number a) (entries_of_events evs) ≡ entries_of_events mine → (c : Bool) → (place == i) ≡ c
      → of_actor (number a) (entries_of_events (event ∷ evs)) ≡ entries_of_events (if c then event ∷ mine else mine)
  own_step actors i a place Refused evs mine apart is lt by rest c e = rest ∙ sym (drop_nothing c mine)
  own_step actors i a place (Made x) evs mine apart is lt by rest true e =
      let same : x.tag.actor ≡ number a = by a (subst (λ (n : ℕ). slice_get actors n ≡ Some a) (sym (equal_is place i e)) is) in
      let here : (x.tag.actor == number a) ≡ true = ap (λ (n : ℕ). n == number a) same ∙ equal-refl (number a) in
      ap (λ (b : Bool). if b then x ∷ of_actor (number a) (entries_of_events evs) else of_actor (number a) (entries_of_events evs)) here ∙ ap (λ (l : List JournalEntry). x ∷ l) rest
  own_step actors i a place (Made x) evs mine apart is lt by rest false e =
      let other = item_of actors place lt in
      let number_is : x.tag.actor ≡ number other.0 = by other.0 other.1 in
      let differ : x.tag.actor ≢ number a = λ same. equal_not place i e (apart place i other.0 a other.1 is (sym number_is ∙ same)) in
      let here : (x.tag.actor == number a) ≡ false = not_equal x.tag.actor (number a) differ in
      ap (λ (b : Bool). if b then x ∷ of_actor (number a) (entries_of_events evs) else of_actor (number a) (entries_of_events evs)) here ∙ rest

  -- the entries of an actor, over all turns
  own_is : (actors : List A) (i : ℕ) (a : A) (ts : List Turn) → AreApart number actors → slice_get actors i ≡ Some a → AllPlaced (length actors) ts → TurnsBy actors ts
      → of_actor (number a) (entries_of_events (events_of ts)) ≡ entries_of_events (own_events i ts)
  own_is actors i a [] apart is placed by = refl
  own_is actors i a (t ∷ ts) apart is placed by =
      own_step actors i a t.place t.event (events_of ts) (own_events i ts) apart is placed.0 (λ b at. head_by actors t ts b by at)
      (own_is actors i a ts apart is placed.1 (rest_by actors t ts by)) (t.place == i) refl

  -- one turn more: an entry of another number
  none_step : (n : ℕ) (event : Event) (evs : List Event) (b : A) → IsBy (number b) event → number b ≢ n → of_actor n (entries_of_events evs) ≡ [] → of_actor n (entries_of_events (event ∷ evs)) ≡ []
  none_step n Refused evs b by differs rest = rest
  none_step n (Made x) evs b by differs rest =
      let here : (x.tag.actor == n) ≡ false = not_equal x.tag.actor n (λ e. differs (sym by ∙ e)) in
      ap (λ (c : Bool). if c then x ∷ of_actor n (entries_of_events evs) else of_actor n (entries_of_events evs)) here ∙ rest

  -- a number that no actor has, over all turns
  none_is : (actors : List A) (n : ℕ) (ts : List Turn) → ((i : ℕ) (a : A) → slice_get actors i ≡ Some a → number a ≢ n) → AllPlaced (length actors) ts → TurnsBy actors ts
      → of_actor n (entries_of_events (events_of ts)) ≡ []
  none_is actors n [] differs placed by = refl
  none_is actors n (x ∷ ts) differs placed by =
      let b = item_of actors x.place placed.0 in
      none_step n x.event (events_of ts) b.0 (head_by actors x ts b.0 by b.1) (differs x.place b.0 b.1) (none_is actors n ts differs placed.1 (rest_by actors x ts by))

  module _ (olds news : List A) (ts : List Turn) (long : length news ≡ length olds) (fed : EachFed (Moves goes number) olds ts news) where
    -- each actor is still there
    pub new_at : (i : ℕ) (a : A) → slice_get olds i ≡ Some a → (b : A) × (slice_get news i ≡ Some b)
    new_at i a at = let lt : i < length olds = slice_get_within olds i a at in item_of news i (omega arith)

    -- each turn has the number of its actor, by what it leads to
    all_by : TurnsBy olds ts
    all_by i a at = let b = new_at i a at in fed_by a b.0 (own_events i ts) (fed i a b.0 at b.1)

    -- the entries of an actor are those of its own events
    pub own_part : AreApart number olds → AllPlaced (length olds) ts → (i : ℕ) (a : A) → slice_get olds i ≡ Some a → of_actor (number a) (entries_of_events (events_of ts)) ≡ entries_of_events (own_events i ts)
    own_part apart placed i a at = own_is olds i a ts apart at placed all_by

    -- a number that no actor has has no entries
    pub none_part : AllPlaced (length olds) ts → (n : ℕ) → ((i : ℕ) (a : A) → slice_get olds i ≡ Some a → number a ≢ n) → of_actor n (entries_of_events (events_of ts)) ≡ []
    none_part placed n differs = none_is olds n ts differs placed all_by

  -- actors with the numbers 1, 2, and so on in order
  pub numbered_apart : (actors : List A) → ((i : ℕ) (a : A) → slice_get actors i ≡ Some a → number a ≡ i + 1) → AreApart number actors
  numbered_apart actors numbered i j a b at to same = let first = numbered i a at in let second = numbered j b to in omega (arith, first, second, same)

  -- where no two actors have one number, whatever the order of the turns
  pub own_parts : (before after : Told) (olds news : List A) → length news ≡ length olds → AreApart number olds → TakesTurns (Moves goes number) before after olds news → EachOwnPart (Moves goes number) number before after olds news
  own_parts before after olds news long apart t = (
    entries_of_events (events_of t.0),
    t.1,
    record { each = λ i a b old new. (own_events i t.0, own_part olds news t.0 long t.3 apart t.2 i a old, t.3 i a b old new); none = none_part olds news t.0 long t.3 t.2 },
  )
