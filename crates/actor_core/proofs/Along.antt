-- Actors seen by a part of their states: what each event implies of the parts, the whole order implies.
use Rattle.std.proofs.Common.{◌≡◌, ℕ, List, [], ◌∷◌, map, set, refl, sym, ◌∙◌, ap, subst}
use Rattle.std.proofs.lemmas.List.{map-set}
use Rattle.std.proofs.lemmas.Option.{slice_get-map}
use Rattle.std.specs.Prelude.{Option, Some, None, slice_get, option_map}
use Rattle.edge_api.specs.declared.actor.Stage.{Stage}
use Rattle.edge_api.specs.Actor.{Event}
use Rattle.actor_core.specs.declared.piece.Till.{Till}
use Rattle.actor_core.specs.Piece.{stays, stops, GoesOn, Piece, RunsPiece}
use Rattle.actor_core.specs.Schedule.{Turn, Slot, InOrder, FollowsSlots}
use Rattle.actor_core.proofs.Pieces.{Told}

module _ {A B : Type 0} (goes : A → Event → A → Type 0) (passes : B → Event → B → Type 0) (stands : A → Stage) (at : B → Stage) (seen : A → B) (same : (a : A) → at (seen a) ≡ stands a)
    (by : (a b : A) (e : Event) → goes a e b → passes (seen a) e (seen b)) where
  on_along : (till : Till) (a b : A) (es : List Event) → GoesOn goes stands till a es b → GoesOn passes at till (seen a) es (seen b)
  on_along till a b [] h = (ap seen h.0, ap (stops till) (same a) ∙ h.1)
  on_along till a b (e ∷ es) h = (ap (stops till) (same a) ∙ h.0, seen h.1, by a h.1 e h.2, on_along till h.1 b es h.3)

  piece_along : (till : Till) (a b : A) (es : List Event) → Piece goes stands till a es b → Piece passes at till (seen a) es (seen b)
  piece_along till a b [] h = (ap seen h.0, ap (stays till) (same a) ∙ h.1)
  piece_along till a b (e ∷ es) h = (ap (stays till) (same a) ∙ h.0, seen h.1, by a h.1 e h.2, on_along till h.1 b es h.3)

  pub runs_along : (till : Till) (before after : Told) (a b : A) → RunsPiece goes stands till before after a b → RunsPiece passes at till before after (seen a) (seen b)
  runs_along till before after a b r = (r.0, r.1, piece_along till a b r.0 r.2)

  seen_at : (xs : List A) (k : ℕ) (a : A) → slice_get xs k ≡ Some a → slice_get (map seen xs) k ≡ Some (seen a)
  seen_at xs k a h = slice_get-map seen xs k ∙ ap (option_map seen) h

  order_along : (ss : List Slot) (ts : List Turn) (olds news : List A) → InOrder goes stands ss ts olds news → InOrder passes at ss ts (map seen olds) (map seen news)
  order_along [] ts olds news h = (h.0, ap (map seen) h.1)
  order_along (s ∷ ss) ts olds news h = (
    h.0,
    h.1,
    h.2,
    seen h.3,
    seen h.4,
    seen_at olds s.place h.3 h.5,
    piece_along s.till h.3 h.4 h.0 h.6,
    subst (λ (l : List B). InOrder passes at ss h.1 l (map seen news)) (map-set seen olds s.place h.4) (order_along ss h.1 (set olds s.place h.4) news h.7),
  )

  pub follows_along : (ss : List Slot) (before after : Told) (olds news : List A) → FollowsSlots goes stands ss before after olds news → FollowsSlots passes at ss before after (map seen olds) (map seen news)
  follows_along ss before after olds news f = (f.0, f.1, order_along ss f.0 olds news f.2)
