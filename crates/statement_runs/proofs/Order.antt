-- Sessions, seen by where they stand.
use Rattle.std.proofs.Common.{◌≡◌, ℕ, suc, List, [], ◌∷◌, ◌++◌, length, map, refl, sym, ap, subst}
use Rattle.std.proofs.lemmas.List.{length-map}
use Rattle.std.specs.Prelude.{Option, Some, None}
use Rattle.edge_api.specs.Actor.{Event, Moves}
use Rattle.statement_types.specs.declared.statement.Statement.{Statement}
use Rattle.statement_types.specs.declared.reply.Reply.{Reply}
use Rattle.statement_machine.specs.declared.txn.Txn.{Txn}
use Rattle.actor_core.specs.declared.piece.Till.TheVariants.{End}
use Rattle.actor_core.specs.declared.schedule.Item.{Item}
use Rattle.actor_core.specs.Piece.{RunsPiece}
use Rattle.actor_core.specs.Schedule.{slots_of, to_the_end, FollowsSlots, FollowsSchedule}
use Rattle.actor_core.proofs.Pieces.{Told}
use Rattle.actor_core.proofs.Along.{runs_along, follows_along}
use Rattle.statement_sessions.specs.declared.session.Session.{Session}
use Rattle.statement_sessions.specs.Session.{Goes, place_now, progress_of}
use Rattle.statement_sessions.specs.Under.{under}
use Rattle.statement_runs.specs.Run.{Begins, AllBegin}
use Rattle.statement_runs.specs.Order.{Spot, place_in, place_at, replies_at, Passes, IsAtStart, AllAtStart}

-- a session by its number and how far it is
abbrev pub seen : Session → Spot
seen s = record { actor = s.actor; progress = progress_of s }

-- the replies that are seen are the sessions' own
pub replies_seen : (ss : List Session) → map replies_at (map seen ss) ≡ map (λ (s : Session). s.replies.items) ss
replies_seen [] = refl
replies_seen (s ∷ ss) = ap (λ (rs : List (List Reply)). s.replies.items ∷ rs) (replies_seen ss)

place_seen : (o : Option Txn) → place_in (under o) ≡ place_now o
place_seen None = refl
place_seen (Some t) = refl

passes : (a b : Session) (e : Event) → Moves Goes (λ (s : Session). s.actor) a e b → Passes (seen a) e (seen b)
passes a b e m = record { led = (m.leads).led; by = m.by; same = m.same }

pub runs_seen : (before after : Told) (a b : Session) → RunsPiece (Moves Goes (λ (s : Session). s.actor)) (λ (s : Session). place_now s.current) End before after a b → RunsPiece Passes place_at End before after (seen a) (seen b)
runs_seen before after a b r = runs_along (Moves Goes (λ (s : Session). s.actor)) Passes (λ (s : Session). place_now s.current) place_at seen (λ s. place_seen s.current) passes End before after a b r

pub follows_seen : (items : List Item) (before after : Told) (olds news : List Session) → FollowsSchedule (Moves Goes (λ (s : Session). s.actor)) (λ (s : Session). place_now s.current) items before after olds news
    → FollowsSchedule Passes place_at items before after (map seen olds) (map seen news)
follows_seen items before after olds news f =
    subst (λ (n : ℕ). FollowsSlots Passes place_at (slots_of items ++ to_the_end n) before after (map seen olds) (map seen news)) (sym (length-map olds seen))
    (follows_along (Moves Goes (λ (s : Session). s.actor)) Passes (λ (s : Session). place_now s.current) place_at seen (λ s. place_seen s.current) passes (slots_of items ++ to_the_end (length olds)) before after olds news f)

pub start_seen : (limit k : ℕ) (statements : List Statement) (s : Session) → Begins k limit statements s → IsAtStart k (seen s)
start_seen limit k statements s h = (h.number, h.fresh)

pub starts_seen : (limit k : ℕ) (scripts : List (List Statement)) (ss : List Session) → AllBegin limit k scripts ss → AllAtStart k scripts (map seen ss)
starts_seen limit k [] ss h = ap (map seen) h
starts_seen limit k (statements ∷ scripts) [] h = h
starts_seen limit k (statements ∷ scripts) (s ∷ ss) h = (start_seen limit k statements s h.0, starts_seen limit (suc k) scripts ss h.1)
