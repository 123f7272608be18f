-- Whatever the turns, they follow the schedule that has an item of one call for each of them.
use Rattle.std.proofs.Common.{◌≡◌, ℕ, zero, suc, ◌≤◌, ◌==◌, Bool, true, false, List, [], ◌∷◌, ◌++◌, length, set, refl, sym, ◌∙◌, ap, subst, arith}
use Rattle.std.proofs.lemmas.List.{append-nil}
use Rattle.std.proofs.Math.ListN.{length-set}
use Rattle.std.specs.Prelude.{Some, slice_get, if◌then◌else◌}
use Rattle.edge_api.specs.declared.actor.Stage.{Stage}
use Rattle.actor_core.specs.declared.piece.Till.TheVariants.{OneCall, End}
use Rattle.edge_api.specs.Actor.{Event, Feeds}
use Rattle.actor_core.specs.Piece.{is_done}
use Rattle.actor_core.specs.Schedule.{Turn, Slot, own_events, to_the_end, InOrder, AllPlaced, EachFed}
use Rattle.actor_core.proofs.Lists.{equal-refl, equal_is, equal_not, some_same, item_of, set_other, set_here, set_same}
use Rattle.actor_core.proofs.Orders.{order_more}

-- a slot of one call for each turn
abbrev pub ones : List Turn → List Slot
ones [] = []
ones (t ∷ ts) = record { place = t.place; till = OneCall } ∷ ones ts

module _ {A : Type 0} (goes : A → Event → A → Type 0) (stands : A → Stage) (alive : (a b : A) (e : Event) → goes a e b → is_done (stands a) ≡ false) where
  -- the actor of the first turn is led by it first
  head_fed : (t : Turn) (ts : List Turn) (olds news : List A) (a b : A) → EachFed goes olds (t ∷ ts) news → slice_get olds t.place ≡ Some a → slice_get news t.place ≡ Some b → Feeds goes a (t.event ∷ own_events t.place ts) b
  head_fed t ts olds news a b fed old new = subst (λ (c : Bool). Feeds goes a (if c then t.event ∷ own_events t.place ts else own_events t.place ts) b) (equal-refl t.place) (fed t.place a b old new)

  -- the others are led by the later turns
  rest_fed : (t : Turn) (ts : List Turn) (olds news : List A) (a mid b : A) → EachFed goes olds (t ∷ ts) news → slice_get olds t.place ≡ Some a → slice_get news t.place ≡ Some b → Feeds goes mid (own_events t.place ts) b
      → (i : ℕ) (x y : A) → slice_get (set olds t.place mid) i ≡ Some x → slice_get news i ≡ Some y → (c : Bool) → (t.place == i) ≡ c → Feeds goes x (own_events i ts) y
  rest_fed t ts olds news a mid b fed at to feeds i x y old new true is =
      let here = equal_is t.place i is in
      let now = subst (λ (n : ℕ). slice_get (set olds t.place mid) n ≡ Some mid) here (set_here olds t.place a mid at) in
      let to_i = subst (λ (n : ℕ). slice_get news n ≡ Some b) here to in
      let same : mid ≡ x = some_same mid x (sym now ∙ old) in
      let last : b ≡ y = some_same b y (sym to_i ∙ new) in
      subst (λ (z : A). Feeds goes z (own_events i ts) y) same (subst (λ (z : A). Feeds goes mid (own_events i ts) z) last (subst (λ (n : ℕ). Feeds goes mid (own_events n ts) b) here feeds))
  rest_fed t ts olds news a mid b fed at to feeds i x y old new false is =
      let there : slice_get olds i ≡ Some x = sym (set_other olds t.place i mid (equal_not t.place i is)) ∙ old in
      subst (λ (c : Bool). Feeds goes x (if c then t.event ∷ own_events i ts else own_events i ts) y) is (fed i x y there new)

  -- without turns nothing moves
  none_moved : (olds news : List A) → length news ≡ length olds → EachFed goes olds [] news → olds ≡ news
  none_moved [] [] long fed = refl
  none_moved [] (y ∷ news) long fed = absurd (omega (arith, long))
  none_moved (x ∷ olds) [] long fed = absurd (omega (arith, long))
  none_moved (x ∷ olds) (y ∷ news) long fed =
      let head : x ≡ y = fed 0 x y refl refl in
      let tail : olds ≡ news = none_moved olds news (omega (arith, long)) (λ i a b old new. fed (suc i) a b old new) in
      ap (λ (z : A). z ∷ olds) head ∙ ap (λ (l : List A). y ∷ l) tail

  -- a slot for each turn
  pub ones_order : (ts : List Turn) (olds news : List A) → length news ≡ length olds → AllPlaced (length olds) ts → EachFed goes olds ts news → InOrder goes stands (ones ts) ts olds news
  ones_order [] olds news long placed fed = (refl, none_moved olds news long fed)
  ones_order (t ∷ ts) olds news long placed fed =
      let a = item_of olds t.place placed.0 in
      let b = item_of news t.place (omega (arith, long, placed.0)) in
      let head = head_fed t ts olds news a.0 b.0 fed a.1 b.1 in
      let mid = head.0 in
      let same : length (set olds t.place mid) ≡ length olds = length-set olds t.place mid in
      let placed' = subst (λ (n : ℕ). AllPlaced n ts) (sym same) placed.1 in
      let rest : EachFed goes (set olds t.place mid) ts news = λ i x y old new. rest_fed t ts olds news a.0 mid b.0 fed a.1 b.1 head.2 i x y old new (t.place == i) refl in
      (t.event ∷ [], ts, refl, a.0, mid, a.1, (alive a.0 mid t.event head.1, mid, head.1, (refl, refl)), ones_order ts (set olds t.place mid) news (long ∙ sym same) placed' rest)

module _ {A : Type 0} (goes : A → Event → A → Type 0) (stands : A → Stage) where
  -- where each is done, nothing comes after
  pub ends_none : (n : ℕ) (xs : List A) → n ≤ length xs → ((i : ℕ) (a : A) → slice_get xs i ≡ Some a → is_done (stands a) ≡ true) → InOrder goes stands (to_the_end n) [] xs xs
  ends_none zero xs lt done = (refl, refl)
  ends_none (suc n) xs lt done =
      let a = item_of xs n (omega arith) in
      let one : InOrder goes stands (record { place = n; till = End } ∷ []) [] xs xs = ([], [], refl, a.0, a.0, a.1, (refl, done n a.0 a.1), (refl, sym (set_same xs n a.0 a.1))) in
      order_more goes stands (to_the_end n) (record { place = n; till = End } ∷ []) [] [] xs xs xs (ends_none n xs (omega arith) done) one

  -- a slot for each turn, and nothing at the end
  pub turns_follow : (ts : List Turn) (olds news : List A) → ((a b : A) (e : Event) → goes a e b → is_done (stands a) ≡ false) → length news ≡ length olds → AllPlaced (length olds) ts → EachFed goes olds ts news
      → ((i : ℕ) (a : A) → slice_get news i ≡ Some a → is_done (stands a) ≡ true) → InOrder goes stands (ones ts ++ to_the_end (length olds)) ts olds news
  turns_follow ts olds news alive long placed fed done =
      let first = ones_order goes stands alive ts olds news long placed fed in
      let last = ends_none (length olds) news (omega (arith, long)) done in
      subst (λ (l : List Turn). InOrder goes stands (ones ts ++ to_the_end (length olds)) l olds news) (append-nil ts) (order_more goes stands (ones ts) (to_the_end (length olds)) ts [] olds news news first last)
