-- Journals in which each statement of a script is answered by its own entries.
use Rattle.std.specs.Prelude.{◌≡◌, ◌⊎◌, ℕ, zero, suc, ◌<◌, ◌≤◌, ◌^◌, if◌then◌else◌, List, [], ◌∷◌, Option, Some, None}
use Rattle.std.specs.Str.{bytes_eq}
use Rattle.edge_api.specs.declared.call.Tag.{Tag}
use Rattle.edge_api.specs.declared.call.Call.{Call}
use Rattle.edge_api.specs.declared.call.Call.TheVariants.{Get, PutNew, Put as Replace, List as ListNames, Delete, Now, Wait}
use Rattle.edge_api.specs.declared.call.Answer.{Answer}
use Rattle.edge_api.specs.declared.call.Answer.TheVariants.{Names, Time}
use Rattle.row_base.specs.declared.row.Datum.{Datum}
use Rattle.op_types.specs.declared.statement.Statement.{Statement}
use Rattle.op_types.specs.declared.statement.Statement.TheVariants.{Insert}
use Rattle.op_types.specs.declared.reply.Reply.{Reply}
use Rattle.table_rules.specs.Names.{log_prefix}
use Rattle.table_rules.specs.Told.{IsTag}
use Rattle.line_texts.specs.Texts.{text_of_rows, rows_of_text}
use Rattle.call_phases.specs.Phases.{Entries}
use Rattle.statement_calls.specs.declared.finish.Kept.{Kept}
use Rattle.statement_calls.specs.declared.finish.Finish.{Finish}
use Rattle.statement_calls.specs.Listing.{newest, commit_version}
use Rattle.statement_calls.specs.Answered.{Answered}
use Rattle.actor_core.specs.Entries.{own, of_actor}

-- the reply of an outcome, where there is one
abbrev pub reply_in : Option Finish → Option Reply
reply_in None = None
reply_in (Some finish) = Some finish.reply

-- what an outcome keeps for its session's next statement
abbrev pub kept_in : Option Finish → Option Kept
kept_in None = None
kept_in (Some finish) = finish.kept

-- the reply of each tag
abbrev pub replies_of : (Tag → Option Finish) → Tag → Option Reply
replies_of outcomes tag = reply_in (outcomes tag)

-- what the statement before an actor's statement of this number kept; nothing is before the first
abbrev pub kept_at : (Tag → Option Finish) → ℕ → ℕ → Option Kept
kept_at outcomes actor zero = None
kept_at outcomes actor (suc n) = kept_in (outcomes (record { actor = actor; statement = n }))

abbrev pub kept_before : (Tag → Option Finish) → Tag → Option Kept
kept_before outcomes tag = kept_at outcomes tag.actor tag.statement

-- the entries of a tag answer its statement, if it has one, and are none otherwise
abbrev pub IsAnsweredPart : ℕ → Tag → Option Kept → Option Statement → Entries → Option Finish → Type 0
IsAnsweredPart limit tag kept None part out = (part ≡ []) × (out ≡ None)
IsAnsweredPart limit tag kept (Some statement) part out = Answered tag limit kept statement part out

-- a statement begins with nothing kept, or with what its session's statement before it kept
abbrev pub BeginsWith : (Tag → Option Finish) → Tag → Option Kept → Type 0
BeginsWith outcomes tag kept = (kept ≡ None) ⊎ (kept ≡ kept_before outcomes tag)

-- each statement of the script is answered by its own entries, and nothing else makes any. A statement with no outcome is still open
abbrev pub IsAnswered : ℕ → (Tag → Option Statement) → (Tag → Option Finish) → Entries → Type 0
IsAnswered limit script outcomes journal =
    (tag : Tag) → (kept : Option Kept) × BeginsWith outcomes tag kept × IsAnsweredPart limit tag kept (script tag) (own tag journal) (outcomes tag)

-- the first of two, if it is there
abbrev pub or_first : {A : Type 0} → Option A → Option A → Option A
or_first None b = b
or_first (Some a) b = Some a

-- the newest commit of a listing of the log
abbrev pub listed_by : Call → Answer → Option ℕ
listed_by (ListNames prefix) (Names l) = if bytes_eq prefix log_prefix then newest l else None
listed_by call answer = None

-- the clock that a reading of it gives
abbrev pub told_by : Call → Answer → Option ℕ
told_by Now (Time t) = Some t
told_by call answer = None

-- the first that the entries give
abbrev pub first_given : (Call → Answer → Option ℕ) → Entries → Option ℕ
first_given by [] = None
first_given by (e ∷ es) = or_first (by e.call e.answer) (first_given by es)

-- the version that a statement reads, by its entries
abbrev pub version_read : Entries → Option ℕ
version_read es = first_given listed_by es

-- the start of a statement, by its entries
abbrev pub started_at : Entries → Option ℕ
started_at es = first_given told_by es

-- the version whose commit a call puts
abbrev pub version_put : Call → Option ℕ
version_put (PutNew name body) = commit_version name
version_put (Get name) = None
version_put (Replace name body) = None
version_put (ListNames prefix) = None
version_put (Delete name) = None
version_put Now = None
version_put (Wait time) = None

-- a version before others, where there is one
abbrev pub with_version : Option ℕ → List ℕ → List ℕ
with_version None vs = vs
with_version (Some v) vs = v ∷ vs

-- the versions whose commits the entries put, whatever the answers
abbrev pub versions_put : Entries → List ℕ
versions_put [] = []
versions_put (e ∷ es) = with_version (version_put e.call) (versions_put es)

-- no entry is of a statement before this one
abbrev pub NoneEarlier : ℕ → Entries → Type 0
NoneEarlier statement [] = Unit {0}
NoneEarlier statement (e ∷ es) = (statement ≤ e.tag.statement) × NoneEarlier statement es

-- the entries come statement by statement
abbrev pub Rises : Entries → Type 0
Rises [] = Unit {0}
Rises (e ∷ es) = NoneEarlier e.tag.statement es × Rises es

-- the journal of a run of a script: it answers each statement of the script
pub record IsRun (limit : ℕ) (script : Tag → Option Statement) (outcomes : Tag → Option Finish) (journal : Entries) : Type 0 where
  pub answered : IsAnswered limit script outcomes journal
  -- a session's statements come one after another
  pub in_order : (actor : ℕ) → Rises (of_actor actor journal)
  -- attempts are counted by 32 bits, and tags by 16 and 32
  pub limited : limit < 2 ^ 32
  pub tags : (tag : Tag) (statement : Statement) → script tag ≡ Some statement → IsTag tag
  -- the text of a data file is read as the rows that it was made of
  pub faithful : (tag : Tag) (rows : List (List Datum)) → script tag ≡ Some (Insert rows) → rows_of_text (text_of_rows rows) ≡ Some rows
