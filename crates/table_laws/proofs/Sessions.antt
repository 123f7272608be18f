-- What a session knows of the objects, and the tables that it loads of them.
use Rattle.std.specs.Prelude.{◌≡◌, ◌⊎◌, ℕ, zero, suc, List, [], ◌∷◌, Option, Some, None}
use Rattle.edge_api.specs.declared.call.Tag.{Tag}
use Rattle.edge_api.specs.declared.call.Call.TheVariants.{Get, PutNew}
use Rattle.edge_api.specs.declared.call.Answer.TheVariants.{Body, Stored}
use Rattle.table_rules.specs.Names.{commit_text}
use Rattle.snapshot_replay.specs.Table.{Commit, Snapshot, no_table, applied}
use Rattle.call_phases.specs.Phases.{Entries}
use Rattle.statement_calls.specs.declared.finish.Kept.{Kept}
use Rattle.statement_calls.specs.Texts.{read_commit}
use Rattle.actor_core.specs.Entries.{own}

-- a body was got
abbrev pub GotIn : Entries → List ℕ → List ℕ → Type 0
GotIn [] name body = ⊥
GotIn (e ∷ es) name body = ((e.call ≡ Get name) × (e.answer ≡ Body body)) ⊎ GotIn es name body

-- a put of the body under the name was answered as stored
abbrev pub StoredIn : Entries → List ℕ → List ℕ → Type 0
StoredIn [] name body = ⊥
StoredIn (e ∷ es) name body = ((e.call ≡ PutNew name body) × (e.answer ≡ Stored)) ⊎ StoredIn es name body

-- what the statements of a tag's session got or stored, before or after
abbrev pub SessionKnows : Entries → Tag → List ℕ → List ℕ → Type 0
SessionKnows journal tag name body = (other : Tag) × (other.actor ≡ tag.actor) × (GotIn (own other journal) name body ⊎ StoredIn (own other journal) name body)

-- the table of so many versions, by the bodies that are known under the names of their commits
abbrev pub LoadedTo : (List ℕ → List ℕ → Type 0) → ℕ → Snapshot → Type 0
LoadedTo knows zero s = s ≡ no_table
LoadedTo knows (suc v) s = (r : Snapshot) × (text : List ℕ) × (t : Commit) × LoadedTo knows v r × knows (commit_text v) text
    × (read_commit v text ≡ Some t) × (s ≡ applied r t)

-- what is kept is the table of its versions, by what is known
abbrev pub KnownKept : (List ℕ → List ℕ → Type 0) → Option Kept → Type 0
KnownKept knows None = Unit {0}
KnownKept knows (Some k) = LoadedTo knows k.versions k.state
