-- The versions whose commits a statement's entries put, entry by entry.
-- Statements and Landing go by them at each put; what a whole statement put stands in Tries.
-- No other file reads the name of a put.
use Rattle.std.proofs.Common.{◌≡◌, inl, inr, ℕ, ◌<◌, ◌^◌, List, [], ◌∷◌, refl, ◌∙◌, ap}
use Rattle.std.specs.Prelude.{Option, Some, None}
use Rattle.edge_api.specs.declared.call.Tag.{Tag}
use Rattle.edge_api.specs.declared.call.Call.{Call}
use Rattle.edge_api.specs.declared.call.Call.TheVariants.{Get, PutNew, Put as Replace, List as ListNames, Delete, Now, Wait}
use Rattle.edge_api.specs.declared.call.JournalEntry.{JournalEntry}
use Rattle.table_rules.specs.Names.{commit_text, data_text}
use Rattle.table_rules.proofs.Names.{commit_is_read, data_is_outside}
use Rattle.call_phases.specs.Phases.{Entries}
use Rattle.statement_calls.specs.Listing.{commit_of}
use Rattle.table_laws.specs.Runs.{version_put, with_version, versions_put}
use Rattle.table_laws.proofs.Lawful.{NoPut}

-- a commit's put is one of its version, and a data file's of none
pub commit_put : (v : ℕ) (body : List ℕ) → v < 2 ^ 64 → version_put (PutNew (commit_text v) body) ≡ Some v
commit_put v body small = ap commit_of (commit_is_read v small)

pub data_put : (tag : Tag) (start part : ℕ) (body : List ℕ) → version_put (PutNew (data_text tag start part) body) ≡ None
data_put tag start part body = ap commit_of (data_is_outside tag start part).0

-- an entry that puts no commit
pub other_put : (e : JournalEntry) (past : Entries) (call : Call) → e.call ≡ call → version_put call ≡ None → versions_put (e ∷ past) ≡ versions_put past
other_put e past call is none = ap (λ (c : Call). with_version (version_put c) (versions_put past)) is ∙ ap (λ (o : Option ℕ). with_version o (versions_put past)) none

-- one that puts a version's commit
pub one_put : (e : JournalEntry) (past : Entries) (v : ℕ) (body : List ℕ) → v < 2 ^ 64 → e.call ≡ PutNew (commit_text v) body → versions_put (e ∷ past) ≡ v ∷ versions_put past
one_put e past v body small is = ap (λ (c : Call). with_version (version_put c) (versions_put past)) is ∙ ap (λ (o : Option ℕ). with_version o (versions_put past)) (commit_put v body small)

-- no commit was put where nothing was
pub no_versions : (past : Entries) → NoPut past → versions_put past ≡ []
no_versions [] none = refl
no_versions (e ∷ past) none = by e.call refl (no_versions past (λ n b a h. none n b a (inr h)))
  where
    by : (c : Call) → e.call ≡ c → versions_put past ≡ [] → with_version (version_put c) (versions_put past) ≡ []
    by (PutNew n b) is rest = absurd (none n b e.answer (inl (is, refl)))
    by (Get n) is rest = rest
    by (Replace n b) is rest = rest
    by (ListNames n) is rest = rest
    by (Delete n) is rest = rest
    by Now is rest = rest
    by (Wait t) is rest = rest
