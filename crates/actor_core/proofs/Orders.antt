-- Slots of a schedule, one after another.
use Rattle.std.proofs.Common.{◌≡◌, ℕ, ◌+◌, ◌-◌, ◌<◌, ◌≤◌, ◌==◌, Bool, true, false, List, [], ◌∷◌, ◌++◌, length, get_or, set, take, refl, sym, ◌∙◌, ap, subst, arith, append_assoc}
use Rattle.std.proofs.lemmas.List.{append-nil, take_more}
use Rattle.std.proofs.lemmas.Option.{slice_get_within}
use Rattle.std.proofs.Math.Numerals.{add-one}
use Rattle.std.proofs.Math.ListN.{length-set}
use Rattle.std.specs.Prelude.{Some, slice_get, if◌then◌else◌}
use Rattle.edge_api.specs.declared.call.JournalEntry.{JournalEntry}
use Rattle.edge_api.specs.World.{Grows}
use Rattle.edge_api.specs.declared.actor.Stage.{Stage}
use Rattle.actor_core.specs.declared.piece.Till.{Till}
use Rattle.actor_core.specs.declared.piece.Till.TheVariants.{End}
use Rattle.actor_core.specs.declared.schedule.Item.{Item}
use Rattle.edge_api.specs.Actor.{Event, Feeds, entries_of_events}
use Rattle.actor_core.specs.Piece.{GoesOn, Piece, RunsPiece}
use Rattle.actor_core.specs.Schedule.{Turn, Slot, events_of, own_events, turns_of, till_of, slots_of, to_the_end, InOrder, AllPlaced, EachFed, FollowsSlots, TakesTurns}
use Rattle.actor_core.proofs.Lists.{equal_is, equal_not, some_same, set_other, set_here}
use Rattle.actor_core.proofs.Pieces.{Told, grows_nothing, grows_more, entries-append, piece_feeds}

-- the events of turns, one list after another
pub events_of-append : (a b : List Turn) → events_of (a ++ b) ≡ events_of a ++ events_of b
events_of-append [] b = refl
events_of-append (t ∷ a) b = ap (λ (l : List Event). t.event ∷ l) (events_of-append a b)

-- the events of the turns of one actor
pub events_of-turns : (k : ℕ) (es : List Event) → events_of (turns_of k es) ≡ es
events_of-turns k [] = refl
events_of-turns k (e ∷ es) = ap (λ (l : List Event). e ∷ l) (events_of-turns k es)

-- the entries of turns
abbrev pub entries : List Turn → List JournalEntry
entries ts = entries_of_events (events_of ts)

-- the entries of turns, one list after another
pub entries_of_both : (a b : List Turn) → entries (a ++ b) ≡ entries a ++ entries b
entries_of_both a b = ap entries_of_events (events_of-append a b) ∙ entries-append (events_of a) (events_of b)

module _ {A : Type 0} (goes : A → Event → A → Type 0) (stands : A → Stage) where
  -- slots after slots
  pub order_more : (ps qs : List Slot) (ts us : List Turn) (a b c : List A) → InOrder goes stands ps ts a b → InOrder goes stands qs us b c → InOrder goes stands (ps ++ qs) (ts ++ us) a c
  order_more [] qs ts us a b c first second = subst (λ (l : List Turn). InOrder goes stands qs (l ++ us) a c) (sym first.0) (subst (λ (l : List A). InOrder goes stands qs us l c) (sym first.1) second)
  order_more (p ∷ ps) qs ts us a b c h second =
      let both = ap (λ (l : List Turn). l ++ us) h.2 ∙ append_assoc (turns_of p.place h.0) h.1 us in
      (h.0, h.1 ++ us, both, h.3, h.4, h.5, h.6, order_more ps qs h.1 us (set a p.place h.4) b c h.7 second)

  -- no slot
  pub follows_nothing : (j : Told) (a : List A) → FollowsSlots goes stands [] j j a a
  follows_nothing j a = ([], grows_nothing j j refl, (refl, refl))

  -- slots after slots, with the journal
  pub follows_more : (ps qs : List Slot) (j0 j1 j2 : Told) (a b c : List A) → FollowsSlots goes stands ps j0 j1 a b → FollowsSlots goes stands qs j1 j2 b c → FollowsSlots goes stands (ps ++ qs) j0 j2 a c
  follows_more ps qs j0 j1 j2 a b c x y = (
    x.0 ++ y.0,
    subst (λ (l : List JournalEntry). Grows j0 l j2) (sym (entries_of_both x.0 y.0)) (grows_more j0 j1 j2 (entries x.0) (entries y.0) x.1 y.1),
    order_more ps qs x.0 y.0 a b c x.2 y.2,
  )

  -- one slot, with the journal
  pub follows_one : (k : ℕ) (till : Till) (j0 j1 : Told) (mids : List A) (a b : A) → slice_get mids k ≡ Some a → RunsPiece goes stands till j0 j1 a b
      → FollowsSlots goes stands (record { place = k; till = till } ∷ []) j0 j1 mids (set mids k b)
  follows_one k till j0 j1 mids a b at run = (
    turns_of k run.0,
    subst (λ (l : List Event). Grows j0 (entries_of_events l) j1) (sym (events_of-turns k run.0)) run.1,
    (run.0, [], sym (append-nil (turns_of k run.0)), a, b, at, run.2, (refl, refl)),
  )

-- the slots of items, one list after another
pub slots_of-append : (a b : List Item) → slots_of (a ++ b) ≡ slots_of a ++ slots_of b
slots_of-append [] b = refl
slots_of-append (x ∷ a) b = ap (λ (l : List Slot). record { place = x.actor - 1; till = till_of x.form } ∷ l) (slots_of-append a b)

-- one item more
pub slots_take : (items : List Item) (i : ℕ) (item : Item) → i < length items → item ≡ get_or items i item → slots_of (take (i + 1) items) ≡ slots_of (take i items) ++ record { place = item.actor - 1; till = till_of item.form } ∷ []
slots_take items i item lt is =
    ap slots_of (take_more items i item lt) ∙ slots_of-append (take i items) (get_or items i item ∷ []) ∙ ap (λ (x : Item). slots_of (take i items) ++ record { place = x.actor - 1; till = till_of x.form } ∷ []) (sym is)

-- one actor more to its end
pub end_more : (k : ℕ) → to_the_end (k + 1) ≡ to_the_end k ++ record { place = k; till = End } ∷ []
end_more k = ap to_the_end (add-one k)

-- own events of one actor, over the turns of a slot and those of the rest
own_none : (k i : ℕ) (es : List Event) (us : List Turn) → (k == i) ≡ false → own_events i (turns_of k es ++ us) ≡ own_events i us
own_none k i [] us no' = refl
own_none k i (e ∷ es) us no' = ap (λ (c : Bool). if c then e ∷ own_events i (turns_of k es ++ us) else own_events i (turns_of k es ++ us)) no' ∙ own_none k i es us no'

own_all : (k i : ℕ) (es : List Event) (us : List Turn) → (k == i) ≡ true → own_events i (turns_of k es ++ us) ≡ es ++ own_events i us
own_all k i [] us yes' = refl
own_all k i (e ∷ es) us yes' =
    ap (λ (c : Bool). if c then e ∷ own_events i (turns_of k es ++ us) else own_events i (turns_of k es ++ us)) yes' ∙ ap (λ (l : List Event). e ∷ l) (own_all k i es us yes')

-- turns of one actor before others
AllPlaced-more : (n k : ℕ) (es : List Event) (us : List Turn) → k < n → AllPlaced n us → AllPlaced n (turns_of k es ++ us)
AllPlaced-more n k [] us lt all = all
AllPlaced-more n k (e ∷ es) us lt all = (lt, AllPlaced-more n k es us lt all)

module _ {A : Type 0} (goes : A → Event → A → Type 0) (stands : A → Stage) where
  -- events after events
  pub feeds_more : (a b c : A) (es fs : List Event) → Feeds goes a es b → Feeds goes b fs c → Feeds goes a (es ++ fs) c
  feeds_more a b c [] fs same h = subst (λ (x : A). Feeds goes x fs c) (sym same) h
  feeds_more a b c (e ∷ es) fs fed h = (fed.0, fed.1, feeds_more fed.0 b c es fs fed.2 h)

  -- each turn is of one of the actors
  pub order_placed : (ps : List Slot) (ts : List Turn) (a c : List A) → InOrder goes stands ps ts a c → (n : ℕ) → length a ≤ n → AllPlaced n ts
  order_placed [] ts a c h n lt = subst (λ (l : List Turn). AllPlaced n l) (sym h.0) tt
  order_placed (p ∷ ps) ts a c h n lt =
      let within : p.place < length a = slice_get_within a p.place h.3 h.5 in
      let long : length (set a p.place h.4) ≡ length a = length-set a p.place h.4 in
      subst (λ (l : List Turn). AllPlaced n l) (sym h.2) (AllPlaced-more n p.place h.0 h.1 (omega arith) (order_placed ps h.1 (set a p.place h.4) c h.7 n (omega arith)))

  -- the events of one actor, over a slot and what follows
  fed_by : (k i : ℕ) (till : Till) (olds news : List A) (es : List Event) (us : List Turn) (a b x y : A) → slice_get olds k ≡ Some a → Piece goes stands till a es b → slice_get olds i ≡ Some x → slice_get news i ≡ Some y
      → EachFed goes (set olds k b) us news → (c : Bool) → (k == i) ≡ c → Feeds goes x (own_events i (turns_of k es ++ us)) y
  fed_by k i till olds news es us a b x y at piece old new later true yes' =
      let here = equal_is k i yes' in
      let is : a ≡ x = some_same a x (sym at ∙ ap (λ (n : ℕ). slice_get olds n) here ∙ old) in
      let now : slice_get (set olds k b) i ≡ Some b = subst (λ (n : ℕ). slice_get (set olds k b) n ≡ Some b) here (set_here olds k a b at) in
      let first = subst (λ (z : A). Feeds goes z es b) is (piece_feeds goes stands till a b es piece) in
      subst (λ (l : List Event). Feeds goes x l y) (sym (own_all k i es us yes')) (feeds_more x b y es (own_events i us) first (later i b y now new))
  fed_by k i till olds news es us a b x y at piece old new later false no' =
      let there : slice_get (set olds k b) i ≡ Some x = set_other olds k i b (equal_not k i no') ∙ old in
      subst (λ (l : List Event). Feeds goes x l y) (sym (own_none k i es us no')) (later i x y there new)

  -- each actor is fed its own events
  pub order_fed : (ps : List Slot) (ts : List Turn) (olds news : List A) → InOrder goes stands ps ts olds news → EachFed goes olds ts news
  order_fed [] ts olds news h i x y old new =
      let same = some_same x y (sym old ∙ ap (λ (l : List A). slice_get l i) h.1 ∙ new) in
      subst (λ (l : List Turn). Feeds goes x (own_events i l) y) (sym h.0) same
  order_fed (p ∷ ps) ts olds news h i x y old new =
      let later = order_fed ps h.1 (set olds p.place h.4) news h.7 in
      subst (λ (l : List Turn). Feeds goes x (own_events i l) y) (sym h.2) (fed_by p.place i p.till olds news h.0 h.1 h.3 h.4 x y h.5 h.6 old new later (p.place == i) refl)

  -- what follows a schedule takes turns
  pub takes_turns : (ps : List Slot) (j0 j1 : Told) (olds news : List A) → FollowsSlots goes stands ps j0 j1 olds news → TakesTurns goes j0 j1 olds news
  takes_turns ps j0 j1 olds news f = (f.0, f.1, order_placed ps f.0 olds news f.2 (length olds) (omega arith), order_fed ps f.0 olds news f.2)

-- what each event's relation implies, the whole order implies
module _ {A : Type 0} (strong weak : A → Event → A → Type 0) (stands : A → Stage) (by : (a b : A) (e : Event) → strong a e b → weak a e b) where
  goes_on_by : (till : Till) (a b : A) (es : List Event) → GoesOn strong stands till a es b → GoesOn weak stands till a es b
  goes_on_by till a b [] h = h
  goes_on_by till a b (e ∷ es) h = (h.0, h.1, by a h.1 e h.2, goes_on_by till h.1 b es h.3)

  pub piece_by : (till : Till) (a b : A) (es : List Event) → Piece strong stands till a es b → Piece weak stands till a es b
  piece_by till a b [] h = h
  piece_by till a b (e ∷ es) h = (h.0, h.1, by a h.1 e h.2, goes_on_by till h.1 b es h.3)

  pub order_by : (ss : List Slot) (ts : List Turn) (olds news : List A) → InOrder strong stands ss ts olds news → InOrder weak stands ss ts olds news
  order_by [] ts olds news h = h
  order_by (s ∷ ss) ts olds news h = (h.0, h.1, h.2, h.3, h.4, h.5, piece_by s.till h.3 h.4 h.0 h.6, order_by ss h.1 (set olds s.place h.4) news h.7)

  pub follows_by : (ss : List Slot) (before after : Told) (olds news : List A) → FollowsSlots strong stands ss before after olds news → FollowsSlots weak stands ss before after olds news
  follows_by ss before after olds news f = (f.0, f.1, order_by ss f.0 olds news f.2)
