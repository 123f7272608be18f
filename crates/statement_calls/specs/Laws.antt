-- What holds of every answered statement.
use Rattle.std.specs.Prelude.{◌≡◌, ℕ, List, [], ◌∷◌, Option}
use Rattle.edge_api.specs.declared.call.Tag.{Tag}
use Rattle.edge_api.specs.declared.call.Call.TheVariants.{Now}
use Rattle.edge_api.specs.declared.call.JournalEntry.{JournalEntry}
use Rattle.op_types.specs.declared.statement.Statement.{Statement}
use Rattle.call_phases.specs.Phases.{Entries}
use Rattle.statement_calls.specs.declared.finish.Kept.{Kept}
use Rattle.statement_calls.specs.declared.finish.Finish.{Finish}
use Rattle.statement_calls.specs.Outcome.{IsOpen}
use Rattle.statement_calls.specs.Answered.{Answered}

-- a statement that has made no call is open
abbrev pub OpensWithoutCalls : Type 0
OpensWithoutCalls = (tag : Tag) (limit : ℕ) (kept : Option Kept) (statement : Statement) (out : Option Finish) → Answered tag limit kept statement [] out → IsOpen out kept

-- the first call reads the clock
abbrev pub ReadsClockFirst : Type 0
ReadsClockFirst = (tag : Tag) (limit : ℕ) (kept : Option Kept) (statement : Statement) (out : Option Finish) (e : JournalEntry) (es : Entries) → Answered tag limit kept statement (e ∷ es) out → e.call ≡ Now
