-- The order of a program's calls, by the entries that they make.
use Rattle.std.specs.Prelude.{◌≡◌, ℕ, suc, List, [], ◌∷◌, Option, Some, None, map}
use Rattle.edge_api.specs.declared.call.JournalEntry.{JournalEntry}
use Rattle.edge_api.specs.declared.actor.Stage.{Stage as Place}
use Rattle.edge_api.specs.declared.actor.Stage.TheVariants as place
use Rattle.edge_api.specs.Actor.{Event, IsBy}
use Rattle.statement_types.specs.declared.statement.Statement.{Statement}
use Rattle.statement_types.specs.declared.reply.Reply.{Reply}
use Rattle.actor_core.specs.declared.piece.Till.TheVariants.{End}
use Rattle.actor_core.specs.Piece.{RunsPiece}
use Rattle.actor_core.specs.Schedule.{FollowsSchedule}
use Rattle.statement_sessions.specs.Under.{Under, Progress, IsBetween, IsLed}
use Rattle.statement_runs.specs.Run.{Program}

-- an actor by its number, and how far it is
pub record Spot : Type 0 where
  pub actor : ℕ
  pub progress : Progress

-- where an actor stands, by what is under way
abbrev pub place_in : Option Under → Place
place_in None = place.Done
place_in (Some u) = u.place

-- where an actor stands at its spot
abbrev pub place_at : Spot → Place
place_at s = place_in s.progress.now

-- an event leads from one spot of an actor to another
pub record Passes (old : Spot) (event : Event) (new : Spot) : Type 0 where
  pub led : IsLed old.progress event new.progress
  pub by : IsBy old.actor event
  pub same : new.actor ≡ old.actor

-- the actor of this number, before its first call
abbrev pub IsAtStart : ℕ → Spot → Type 0
IsAtStart k s = (s.actor ≡ k) × IsBetween k s.progress

-- an actor for each list of statements, with the numbers from one on, before its first call
abbrev pub AllAtStart : ℕ → List (List Statement) → List Spot → Type 0
AllAtStart k [] spots = spots ≡ []
AllAtStart k (statements ∷ scripts) [] = ⊥
AllAtStart k (statements ∷ scripts) (s ∷ spots) = IsAtStart k s × AllAtStart (suc k) scripts spots

-- the replies of an actor so far
abbrev pub replies_at : Spot → List Reply
replies_at s = s.progress.replies

-- The journal has grown by the calls of actor 0 to its end, and then by those of the sessions in the order of the items, then of each to its end. A statement
-- has its reply as soon as its last call was answered, and at the end these are the replies of the run
pub record InItsOrder (p : Program) (before after : Option (List JournalEntry)) (replies : List (List Reply)) : Type 0 where
  pub middle : Option (List JournalEntry)
  pub first : Spot
  pub first_end : Spot
  pub others : List Spot
  pub others_end : List Spot
  pub first_starts : IsAtStart 0 first
  pub others_start : AllAtStart 1 p.sessions others
  pub first_runs : RunsPiece Passes place_at End before middle first first_end
  pub others_follow : FollowsSchedule Passes place_at p.items middle after others others_end
  pub replied : replies ≡ replies_at first_end ∷ map replies_at others_end

-- the calls of the program are made in the order of its items, and the replies are those given on the way
unfoldable pub FollowsItems : Program → Option (List JournalEntry) → Option (List JournalEntry) → List (List Reply) → Type 0
FollowsItems p before after replies = InItsOrder p before after replies
