-- What a run of a script's sessions over a store says.
use Rattle.std.specs.Prelude.{◌≡◌, ℕ, zero, suc, List, [], ◌∷◌, Option, Some, None, All, length, slice_get, option_and_then}
use Rattle.edge_api.specs.declared.call.JournalEntry.{JournalEntry}
use Rattle.edge_api.specs.declared.call.Tag.{Tag}
use Rattle.edge_api.specs.World.{Grows}
use Rattle.edge_api.specs.Actor.{Moves}
use Rattle.parquet_meta.specs.Laws.{IsText}
use Rattle.statement_types.specs.declared.statement.Statement.{Statement}
use Rattle.statement_types.specs.declared.statement.Statement.TheVariants.{Table, Insert, Select, Wait}
use Rattle.statement_types.specs.declared.statement.TableSpec.{TableSpec}
use Rattle.statement_types.specs.Literals.{AreLiterals}
use Rattle.statement_types.specs.declared.reply.Reply.{Reply}
use Rattle.actor_core.specs.declared.schedule.Item.{Item}
use Rattle.actor_core.specs.declared.piece.Till.TheVariants.{End}
use Rattle.actor_core.specs.Piece.{RunsPiece, RunsAlone}
use Rattle.actor_core.specs.Schedule.{FollowsSchedule, TakesTurns}
use Rattle.actor_core.specs.Entries.{of_actor}
use Rattle.statement_sessions.specs.declared.session.Session.{Session}
use Rattle.statement_sessions.specs.Session.{plans_from, AnsweredTo, Remains, IsReady, Goes, place_now, progress_of}
use Rattle.statement_sessions.specs.Under.{IsBetween}

-- what runs: the table that is made first, by actor 0, unless it is there already, then the sessions' statements in the order of the items
pub record Program : Type 0 where
  pub table : Option TableSpec
  pub sessions : List (List Statement)
  pub limit : ℕ
  pub items : List Item

-- each datum of inserted rows is one that a script can write, and the names of a table's columns are texts
abbrev pub IsPlain : Statement → Type 0
IsPlain (Table spec) = All (λ c. IsText c.name) spec.columns
IsPlain (Insert rows) = AreLiterals rows
IsPlain Select = Unit {0}
IsPlain (Wait time) = Unit {0}

-- the statements of actor 0
abbrev pub first_statements : Option TableSpec → List Statement
first_statements None = []
first_statements (Some spec) = Table spec ∷ []

-- the statements of each actor, by its number: actor 0 makes the table, if it is to be made, and the sessions are 1, 2, and so on
abbrev pub scripts_of : Program → List (List Statement)
scripts_of p = first_statements p.table ∷ p.sessions

-- one of a list, counted from 1
abbrev pub counted : {A : Type 0} → List A → ℕ → Option A
counted xs zero = None
counted xs (suc k) = slice_get xs k

-- the statement of a tag: that of its number, counted from 1, of its actor
abbrev pub statement_of : List (List Statement) → Tag → Option Statement
statement_of scripts tag = option_and_then (λ statements. counted statements tag.statement) (slice_get scripts tag.actor)

-- the reply of a tag: that of its statement's number, of its actor
abbrev pub reply_of : List (List Reply) → Tag → Option Reply
reply_of replies tag = option_and_then (λ given. counted given tag.statement) (slice_get replies tag.actor)

-- Each actor's statements are answered in order by the entries of its number, and no further actor makes any
pub record AllReplied (limit : ℕ) (scripts : List (List Statement)) (part : List JournalEntry) (replies : List (List Reply)) : Type 0 where
  pub long : length replies ≡ length scripts
  pub each : (actor : ℕ) (statements : List Statement) (given : List Reply) → slice_get scripts actor ≡ Some statements → slice_get replies actor ≡ Some given
      → AnsweredTo None (plans_from actor limit 1 statements) (of_actor actor part) given
  pub none : (actor : ℕ) → slice_get scripts actor ≡ None → of_actor actor part ≡ []

-- the journal has grown by the entries of the actors, by which each has its replies
unfoldable pub Runs : Program → Option (List JournalEntry) → Option (List JournalEntry) → List (List Reply) → Type 0
Runs p before after replies = (part : List JournalEntry) × Grows before part after × AllReplied p.limit (scripts_of p) part replies

-- a session that has not made a call, and is to answer these statements
pub record Begins (actor limit : ℕ) (statements : List Statement) (s : Session) : Type 0 where
  pub ready : IsReady s
  pub number : s.actor ≡ actor
  pub fresh : IsBetween actor (progress_of s)
  pub answers : (es : List JournalEntry) (all : List Reply) → Remains s es all → AnsweredTo None (plans_from actor limit 1 statements) es all

-- a session for each list of statements, with the numbers from one on
abbrev pub AllBegin : ℕ → ℕ → List (List Statement) → List Session → Type 0
AllBegin limit actor [] sessions = sessions ≡ []
AllBegin limit actor (statements ∷ scripts) [] = ⊥
AllBegin limit actor (statements ∷ scripts) (s ∷ sessions) = Begins actor limit statements s × AllBegin limit (suc actor) scripts sessions

-- The journal has grown by the calls of the first session to its end, and then by those of the others in the order of the items, then of each to its end
pub record RunsInOrder (items : List Item) (before after : Option (List JournalEntry)) (first first_end : Session) (others others_end : List Session) : Type 0 where
  pub middle : Option (List JournalEntry)
  pub first_runs : RunsPiece (Moves Goes (λ (s : Session). s.actor)) (λ (s : Session). place_now s.current) End before middle first first_end
  pub first_alone : RunsAlone Goes (λ (s : Session). s.actor) before middle first first_end
  pub others_follow : FollowsSchedule (Moves Goes (λ (s : Session). s.actor)) (λ (s : Session). place_now s.current) items middle after others others_end
  pub others_turn : TakesTurns (Moves Goes (λ (s : Session). s.actor)) middle after others others_end
