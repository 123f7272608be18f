-- A session: statements one after another under one actor's number.
use Rattle.std.specs.Prelude.{◌≡◌, ◌⊎◌, Bool, true, false, ◌<◌, ◌≤◌, ℕ, ◌+◌, ◌*◌, length, List, [], ◌∷◌, ◌++◌, Option, Some, None, vec_capacity, IfSome}
use Rattle.row_base.specs.declared.limits.TheConstants.{MAX_ATTEMPTS, MAX_STATEMENTS}
use Rattle.edge_api.specs.declared.call.Call.{Call}
use Rattle.edge_api.specs.declared.call.Tag.{Tag}
use Rattle.edge_api.specs.declared.actor.Stage.{Stage as Place}
use Rattle.edge_api.specs.declared.actor.Stage.TheVariants as place
use Rattle.edge_api.specs.declared.actor.Fed.{Fed}
use Rattle.edge_api.specs.declared.actor.Fed.TheVariants as fed
use Rattle.edge_api.specs.Actor.{Event, entries_of_events}
use Rattle.statement_types.specs.declared.reply.Reply.{Reply}
use Rattle.statement_types.specs.declared.reply.Reply.TheVariants.{Killed}
use Rattle.statement_types.specs.declared.statement.Statement.{Statement}
use Rattle.call_phases.specs.Phases.{Entries}
use Rattle.log_state.specs.Table.{Table}
use Rattle.statement_steps.specs.declared.finish.Finish.{Finish}
use Rattle.statement_steps.specs.Answered.{Answered}
use Rattle.statement_steps.specs.Bounds.{most_calls}
use Rattle.statement_machine.specs.Machine.{Rest, left_of}
use Rattle.statement_machine.specs.Place.{place_of}
use Rattle.statement_machine.specs.Txn as txn
use Rattle.statement_machine.specs.declared.txn.Txn.{Txn}
use Rattle.statement_sessions.specs.declared.session.Session.{Session}
use Rattle.statement_sessions.specs.Under.{under, Progress, IsLed}

-- a statement under its tag, and the limit of its attempts
pub record Numbered : Type 0 where
  pub tag : Tag
  pub statement : Statement
  pub limit : ℕ

-- the statements, numbered one after another from a number on
abbrev pub plans_from : ℕ → ℕ → ℕ → List Statement → List Numbered
plans_from actor limit k [] = []
plans_from actor limit k (st ∷ sts) = record { tag = record { actor = actor; statement = k }; statement = st; limit = limit } ∷ plans_from actor limit (k + 1) sts

-- each entry has the tag
abbrev pub AllTagged : Tag → Entries → Type 0
AllTagged tag [] = Unit {0}
AllTagged tag (e ∷ es) = (e.tag ≡ tag) × AllTagged tag es

-- the entries give the statement this reply. Each statement begins with nothing kept, and what it keeps itself is not asked
abbrev pub IsAnsweredWith : Numbered → Entries → Reply → Type 0
IsAnsweredWith p es r = (kept : Option Table) × Answered p.tag p.limit None p.statement es (Some (record { reply = r; kept = kept }))

-- the session ends within the statement: its reply says so, and is the last
abbrev pub IsKilled : Tag → Reply → List Reply → Entries → Type 0
IsKilled tag r rs es = (r ≡ Killed) × (rs ≡ []) × AllTagged tag es

-- the statements in order have replies, each by its own part of the entries. Where the session is killed, the first without a reply of its own has
-- Killed, and the later ones have none
abbrev pub AllAnswered : Bool → List Numbered → Entries → List Reply → Type 0
AllAnswered killed [] es rs = (es ≡ []) × (rs ≡ [])
AllAnswered killed (p ∷ ps) es [] = ⊥
AllAnswered killed (p ∷ ps) es (r ∷ rs) =
    ((killed ≡ true) × IsKilled p.tag r rs es × Answered p.tag p.limit None p.statement es None)
    ⊎ ((own : Entries) × (rest : Entries) × (es ≡ own ++ rest) × AllTagged p.tag own
    × IsAnsweredWith p own r × AllAnswered killed ps rest rs)

-- whether a session with so many entries is killed: where it has the number after which it is to be, and no session has more
abbrev pub Stops : Option ℕ → ℕ → Bool → Type 0
Stops None n true = ⊥
Stops None n false = Unit {0}
Stops (Some most) n true = n ≡ most
Stops (Some most) n false = n < most

-- what a session's entries and replies have to be
abbrev pub AnsweredTo : Option ℕ → List Numbered → Entries → List Reply → Type 0
AnsweredTo kill ps es rs = (killed : Bool) × Stops kill (length es) killed × AllAnswered killed ps es rs

-- the later statements of a session
abbrev pub later_plans : Session → List Numbered
later_plans s = plans_from s.actor s.limit s.next s.later.items

-- the entries still to come give the statement under way this reply
abbrev pub RestWith : Txn → Entries → Reply → Type 0
RestWith t es r = (kept : Option Table) × Rest t.stage es (Some (record { reply = r; kept = kept }))

-- what the entries still to come have to be, by the replies still to come
abbrev pub RestNow : Bool → Option Txn → List Numbered → Entries → List Reply → Type 0
RestNow killed None ps es rs = (es ≡ []) × (rs ≡ [])
RestNow killed (Some t) ps es [] = ⊥
RestNow killed (Some t) ps es (r ∷ rs) =
    ((killed ≡ true) × IsKilled t.tag r rs es × Rest t.stage es None)
    ⊎ ((own : Entries) × (rest : Entries) × (es ≡ own ++ rest) × AllTagged t.tag own × RestWith t own r × AllAnswered killed ps rest rs)

-- what the entries still to come have to be, by all the replies in the end
abbrev pub RestBy : Bool → List Reply → Option Txn → List Numbered → Entries → List Reply → Type 0
RestBy killed replies now ps es all = (rs : List Reply) × (all ≡ replies ++ rs) × RestNow killed now ps es rs

-- the same of a session, after so many entries that are not yet counted
abbrev pub RemainsAfter : ℕ → Session → Entries → List Reply → Type 0
RemainsAfter n s es all = (killed : Bool) × Stops s.kill (n + length es) killed × RestBy killed s.replies.items s.current (later_plans s) es all

-- what a session's entries still to come have to be, by all its replies in the end
abbrev pub Remains : Session → Entries → List Reply → Type 0
Remains s es all = (killed : Bool) × Stops s.kill (length es) killed × RestBy killed s.replies.items s.current (later_plans s) es all

-- where a session stands
abbrev pub place_now : Option Txn → Place
place_now None = place.Done
place_now (Some t) = place_of t.stage

-- how far a session is
abbrev pub progress_of : Session → Progress
progress_of s = record { now = under s.current; replies = s.replies.items }

-- An event leads from one session to the other, by what is under way and the replies. With its entry in front, what remains of the new one is what remains
-- of the old one
pub record Goes (old : Session) (event : Event) (new : Session) : Type 0 where
  pub led : IsLed (progress_of old) event (progress_of new)
  pub leads : (es : Entries) (all : List Reply) → Remains new es all → Remains old (entries_of_events (event ∷ []) ++ es) all

-- a statement is under way and makes a call next, or all are done
abbrev pub IsReadyNow : Option Txn → ℕ → List Statement → Type 0
IsReadyNow None actor later = later ≡ []
IsReadyNow (Some t) actor later = txn.IsReady t × (t.tag.actor ≡ actor) × (0 < left_of t.stage)

-- the statement under way has the number behind so many replies and before that of the next one, and has no more calls left than a new one
abbrev pub IsCounted : Option Txn → ℕ → ℕ → Type 0
IsCounted None replies next = Unit {0}
IsCounted (Some t) replies next = (t.tag.statement + 1 ≡ next) × (t.tag.statement ≡ replies + 1)
    × (left_of t.stage ≤ most_calls)

-- how many statements are under way
abbrev pub count_now : Option Txn → ℕ
count_now None = 0
count_now (Some t) = 1

-- a session that is to be killed has calls left while a statement is under way
abbrev pub IsAlive : Option ℕ → Option Txn → Type 0
IsAlive None now = Unit {0}
IsAlive (Some n) None = Unit {0}
IsAlive (Some n) (Some t) = 0 < n

-- a session that is to be killed has calls left
abbrev pub HasCalls : Option ℕ → Type 0
HasCalls None = Unit {0}
HasCalls (Some n) = 0 < n

-- how many entries an answer makes
abbrev pub count_of : Fed → ℕ
count_of (fed.Answer a) = 1
count_of fed.NoMemory = 0

-- the limit of attempts is from 1 to 1,000,000
abbrev pub IsLimit : ℕ → Type 0
IsLimit limit = (0 < limit) × (limit ≤ MAX_ATTEMPTS)

-- the next call is made ready, with room for every reply
pub record IsSettled (s : Session) : Type 0 where
  pub now : IsReadyNow s.current s.actor s.later.items
  pub limit : IsLimit s.limit
  pub room : length s.replies.items + count_now s.current + length s.later.items ≤ vec_capacity s.replies
  pub numbers : s.next + length s.later.items ≤ 1 + MAX_STATEMENTS
  pub counted : IsCounted s.current (length s.replies.items) s.next

-- the next call is made ready, and may be answered
pub record IsReady (s : Session) : Type 0 where
  pub settled : IsSettled s
  pub alive : IsAlive s.kill s.current

-- no statement is begun, and there is room for every reply
pub record IsIdle (s : Session) : Type 0 where
  pub none : s.current ≡ None
  pub replies : s.replies.items ≡ []
  pub limit : IsLimit s.limit
  pub room : length s.later.items ≤ vec_capacity s.replies
  pub first : s.next ≡ 1
  pub numbers : s.next + length s.later.items ≤ 1 + MAX_STATEMENTS

-- the statement under way has asked
abbrev pub AsksNow : Option Txn → Tag → Call → Option Txn → Type 0
AsksNow None tag call new = ⊥
AsksNow (Some old) tag call None = ⊥
AsksNow (Some old) tag call (Some new) = txn.Asks old tag call new

-- it has asked and waits
pub record Asks (old : Session) (tag : Tag) (call : Call) (new : Session) : Type 0 where
  pub ready : IsReady old
  pub current : AsksNow old.current tag call new.current
  pub later : new.later ≡ old.later
  pub next : new.next ≡ old.next
  pub actor : new.actor ≡ old.actor
  pub limit : new.limit ≡ old.limit
  pub replies : new.replies ≡ old.replies
  pub kill : new.kill ≡ old.kill

-- how many answers the statement under way takes at most
abbrev pub left_now : Option Txn → ℕ
left_now None = 0
left_now (Some t) = left_of t.stage

-- how many answers a session takes at most
abbrev pub left : Session → ℕ
left s = length s.later.items * (1 + most_calls) + left_now s.current

-- the statement of the first is begun: what remains of it is its answer
pub record Started (p : Numbered) (t : Txn) : Type 0 where
  pub tag : t.tag ≡ p.tag
  pub ready : txn.IsReady t
  pub begins : (es : Entries) (out : Option Finish) → Rest t.stage es out → Answered p.tag p.limit None p.statement es out
  pub left : left_of t.stage ≤ most_calls

-- the statement that is done has its reply, which is put behind the others
pub record IsDone (t : Txn) (old new : List Reply) : Type 0 where
  pub finish : Finish
  pub rest : Rest t.stage [] (Some finish)
  pub last : new ≡ old ++ finish.reply ∷ []

-- the first of the later statements is begun, if there is one
abbrev pub Begins : List Numbered → List Numbered → Option Txn → Type 0
Begins old new None = (old ≡ []) × (new ≡ [])
Begins old new (Some t) = (p : Numbered) × (old ≡ p ∷ new) × Started p t

-- a statement with the number, before that of the next one: it is done already, or is to make its first call
pub record IsNew (number next : ℕ) (t : Txn) : Type 0 where
  pub is : t.tag.statement ≡ number
  pub next_is : t.tag.statement + 1 ≡ next
  pub most : left_of t.stage ≤ most_calls
  pub stands : IfSome t.pending (λ call. place_of t.stage ≡ place.Between)

-- the statement has its reply, and more may have theirs
pub record HasEnded (t : Txn) (before after : List Reply) : Type 0 where
  pub finish : Finish
  pub rest : Rest t.stage [] (Some finish)
  pub more : List Reply
  pub all : after ≡ before ++ finish.reply ∷ more

-- the same statement goes on, or it has its reply and the other one is new
abbrev pub GoesOnBy : Txn → List Reply → Txn → List Reply → Type 0
GoesOnBy old before new after = ((new ≡ old) × (after ≡ before)) ⊎ (HasEnded old before after × IfSome new.pending (λ call. place_of new.stage ≡ place.Between))

-- the statement goes on, or it has its reply and a new one is under way or none
abbrev pub GoesOn : Txn → List Reply → Option Txn → List Reply → Type 0
GoesOn old before now after = ((now ≡ Some old) × (after ≡ before)) ⊎ (HasEnded old before after × IfSome now (λ t. place_of t.stage ≡ place.Between))

-- what was under way still is, or the session was killed
abbrev pub StaysOrEnds : Option Txn → List Reply → Option Txn → List Reply → Type 0
StaysOrEnds old before new after = ((new ≡ old) × (after ≡ before)) ⊎ ((new ≡ None) × (after ≡ before ++ Killed ∷ []))
