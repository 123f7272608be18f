-- What is committed where a statement is refused.
use Rattle.std.specs.Prelude.{◌≡◌, ◌⊎◌, ℕ, List, [], ◌∷◌, Option, Some}
use Rattle.edge_api.specs.declared.call.Tag.{Tag}
use Rattle.edge_api.specs.declared.call.Call.TheVariants.{PutNew}
use Rattle.edge_api.specs.declared.call.Answer.TheVariants.{Fault}
use Rattle.edge_api.specs.Journal.{Moment, entries_of}
use Rattle.op_types.specs.declared.statement.Statement.{Statement}
use Rattle.op_types.specs.declared.refusal.Refusal.{Refusal}
use Rattle.op_types.specs.declared.refusal.Refusal.TheVariants as refusal
use Rattle.op_types.specs.declared.reply.Reply.{Reply}
use Rattle.op_types.specs.declared.reply.Reply.TheVariants.{Refused}
use Rattle.table_rules.specs.Names.{commit_text}
use Rattle.call_phases.specs.Phases.{Entries}
use Rattle.actor_core.specs.Entries.{own}
use Rattle.table_laws.specs.History.{Put, history, put_under}

-- the refusals that leave open whether a version was committed
abbrev pub IsUnknown : Refusal → Type 0
IsUnknown refusal.NoTable = ⊥
IsUnknown refusal.TableThere = ⊥
IsUnknown (refusal.Conflict winner clash) = ⊥
IsUnknown (refusal.TooManyAttempts lost) = ⊥
IsUnknown (refusal.Outlasted start now) = ⊥
IsUnknown (refusal.FileGone name) = ⊥
IsUnknown (refusal.NameTaken name) = ⊥
IsUnknown (refusal.BadObject name fault) = ⊥
IsUnknown (refusal.Unsupported feature) = ⊥
IsUnknown (refusal.Fault call) = ⊥
IsUnknown (refusal.OutcomeUnknown version) = Unit {0}
IsUnknown refusal.NoMemory = Unit {0}
IsUnknown (refusal.LogGone name) = ⊥
IsUnknown (refusal.TooLarge bytes) = ⊥

-- a put of the body under the name was answered by a fault
abbrev pub FaultedIn : Entries → List ℕ → List ℕ → Type 0
FaultedIn [] name body = ⊥
FaultedIn (e ∷ es) name body = ((e.call ≡ PutNew name body) × (e.answer ≡ Fault)) ⊎ FaultedIn es name body

-- A refused statement has committed no version. Where its commit is there all the same, its refusal is one of those that leave it open, and the put of
-- the commit was answered by a fault
abbrev pub RefusedCommitNothing : (Tag → Option Statement) → (Tag → Option Reply) → List Moment → Type 0
RefusedCommitNothing script replies moments =
    (tag : Tag) (statement : Statement) (r : Refusal) (version : ℕ) (p : Put) → script tag ≡ Some statement → replies tag ≡ Some (Refused r)
    → put_under (history [] moments) (commit_text version) ≡ Some p → p.tag ≡ tag
    → IsUnknown r × FaultedIn (own tag (entries_of moments)) (commit_text version) p.body
