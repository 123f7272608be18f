-- What a script's run over a store does.
use Rattle.std.specs.Prelude.{◌≡◌, ◌⊎◌, ℕ, List, Option}
use Rattle.edge_api.specs.declared.call.JournalEntry.{JournalEntry}
use Rattle.op_types.specs.declared.reply.Reply.{Reply}
use Rattle.script_text.specs.declared.script.Script.{Script}
use Rattle.report.specs.Replies.{printed}
use Rattle.session_runs.specs.Run.{Program}
use Rattle.script_runs.specs.Running.{Ran, program_of, names_in}

-- the script ran, and the text is that of the replies
abbrev pub Plays : Script → Option (List JournalEntry) → Option (List JournalEntry) → List ℕ → Type 0
Plays s before after text = (replies : List (List Reply)) × Ran (program_of s) before after replies × (text ≡ printed (names_in s) replies)

-- no call was made, or the program ran
abbrev pub MayRun : Program → Option (List JournalEntry) → Option (List JournalEntry) → Type 0
MayRun p before after = (after ≡ before) ⊎ ((replies : List (List Reply)) × Ran p before after replies)
