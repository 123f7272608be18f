-- What holds of every answered statement.
use Rattle.std.specs.Prelude.{ℕ, [], ◌∷◌, Option}
use Rattle.edge_api.specs.declared.call.Tag.{Tag}
use Rattle.edge_api.specs.declared.call.JournalEntry.{JournalEntry}
use Rattle.log_state.specs.Table.{Table}
use Rattle.statement_types.specs.declared.statement.Statement.{Statement}
use Rattle.statement_steps.specs.declared.finish.Finish.{Finish}
use Rattle.statement_steps.specs.Outcome.{IsOpen}
use Rattle.statement_steps.specs.Answered.{Answered}
use Rattle.statement_steps.specs.Place.{IsFirstCall}
use Rattle.call_phases.specs.Phases.{Entries}

-- a statement that has made no call is open
abbrev pub OpensWithoutCalls : Type 0
OpensWithoutCalls = (tag : Tag) (limit : ℕ) (kept : Option Table) (statement : Statement) (out : Option Finish) → Answered tag limit kept statement [] out → IsOpen out kept

-- the first call reads the clock or waits
abbrev pub BeginsFirst : Type 0
BeginsFirst = (tag : Tag) (limit : ℕ) (kept : Option Table) (statement : Statement) (out : Option Finish) (e : JournalEntry) (es : Entries) → Answered tag limit kept statement (e ∷ es) out → IsFirstCall e.call
