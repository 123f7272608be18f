-- What a script's run over a store does.
use Rattle.std.specs.Prelude.{ℕ, List, map, Option}
use Rattle.edge_api.specs.declared.call.JournalEntry.{JournalEntry}
use Rattle.op_types.specs.declared.statement.TableSpec.{TableSpec}
use Rattle.op_types.specs.declared.reply.Reply.{Reply}
use Rattle.script_text.specs.declared.script.Script.{Script}
use Rattle.script_text.specs.declared.script.Header.{Header}
use Rattle.script_text.specs.declared.script.Header.TheVariants.{Table}
use Rattle.session_runs.specs.Run.{Program, Runs, IsSerial}
use Rattle.session_runs.specs.Order.{FollowsItems}

-- the clock of a store in memory as a run begins, in milliseconds since 1970
abbrev pub start : ℕ
start = 1700000000000

-- the table of a header
abbrev pub table_in : Header → TableSpec
table_in (Table spec) = spec

-- what a script runs
abbrev pub program_of : Script → Program
program_of s = record { table = table_in s.header; sessions = map (λ x. x.statements) s.sessions; limit = s.attempts; items = s.items }

-- the names of a script's sessions
abbrev pub names_in : Script → List (List ℕ)
names_in s = map (λ x. x.name) s.sessions

-- the program ran with these replies: each by the statement's own calls, in the order of the schedule, and the journal lawful
pub record Ran (p : Program) (before after : Option (List JournalEntry)) (replies : List (List Reply)) : Type 0 where
  pub runs : Runs p before after replies
  pub follows : FollowsItems p before after replies
  pub serial : IsSerial p before after replies
