-- How far a session is, and how an event leads on.
use Rattle.std.specs.Prelude.{◌≡◌, ◌⊎◌, ℕ, ◌+◌, length, List, ◌∷◌, ◌++◌, Option, Some, None}
use Rattle.edge_api.specs.declared.call.Tag.{Tag}
use Rattle.edge_api.specs.declared.actor.Stage.{Stage as Place}
use Rattle.edge_api.specs.declared.actor.Stage.TheVariants as place
use Rattle.edge_api.specs.Actor.{Event, Made, Refused as Wanting}
use Rattle.statement_types.specs.declared.refusal.Refusal.TheVariants.{NoMemory}
use Rattle.statement_types.specs.declared.reply.Reply.{Reply}
use Rattle.statement_types.specs.declared.reply.Reply.TheVariants.{Refused}
use Rattle.statement_steps.specs.Place.{IsCallAt}
use Rattle.statement_machine.specs.Place.{place_of, IsWithin}
use Rattle.statement_machine.specs.declared.txn.Txn.{Txn}

-- the statement under way, and where the session stands in it
pub record Under : Type 0 where
  pub tag : Tag
  pub place : Place

-- the statement under way, by its tag and its place
abbrev pub under : Option Txn → Option Under
under None = None
under (Some t) = Some (record { tag = t.tag; place = place_of t.stage })

-- the statement under way, if there is one, and the replies so far: one for each statement before it
pub record Progress : Type 0 where
  pub now : Option Under
  pub replies : List Reply

-- the statement of the tag is under way
abbrev pub IsStill : Tag → Option Under → Type 0
IsStill tag None = ⊥
IsStill tag (Some u) = (u.tag ≡ tag) × IsWithin u.place

-- the statement of the tag goes on, and no reply is given
abbrev pub Stays : Tag → List Reply → Progress → Type 0
Stays tag replies new = IsStill tag new.now × (new.replies ≡ replies)

-- nothing is under way, or the statement behind so many, which is to make its first call. Statements are numbered from 1 on
abbrev pub IsNext : ℕ → ℕ → Option Under → Type 0
IsNext actor count None = Unit {0}
IsNext actor count (Some u) = (u.tag ≡ record { actor = actor; statement = count + 1 }) × (u.place ≡ place.Between)

-- the actor is done, or is to make the first call of the statement behind those that have their replies
abbrev pub IsBetween : ℕ → Progress → Type 0
IsBetween actor p = IsNext actor (length p.replies) p.now

-- a statement has its reply, as have those behind it that made no call
pub record IsReplied (replies : List Reply) (reply : Reply) (now : List Reply) : Type 0 where
  pub more : List Reply
  pub all : now ≡ replies ++ reply ∷ more

-- the statement of the tag is over
abbrev pub IsOver : Tag → List Reply → Reply → Progress → Type 0
IsOver tag replies reply new = IsReplied replies reply new.replies × IsBetween tag.actor new

-- An entry is of the statement under way, and its call is that of the place: a statement reads the clock first, and puts a commit exactly at an attempt.
-- Then the statement stays, or it is over and has its reply. Want of memory makes no entry: the statement is over, and its reply says so
abbrev pub IsLedFrom : Option Under → List Reply → Event → Progress → Type 0
IsLedFrom None replies event new = ⊥
IsLedFrom (Some u) replies (Made e) new = (e.tag ≡ u.tag) × IsCallAt u.place e.call
    × (Stays u.tag replies new ⊎ ((reply : Reply) × IsOver u.tag replies reply new))
IsLedFrom (Some u) replies Wanting new = IsOver u.tag replies (Refused NoMemory) new

-- an event leads on, by what is under way and the replies so far
abbrev pub IsLed : Progress → Event → Progress → Type 0
IsLed old event new = IsLedFrom old.now old.replies event new
