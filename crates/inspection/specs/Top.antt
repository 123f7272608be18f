-- What each command does, by how it ends.
use Rattle.std.specs.Prelude.{◌≡◌, ◌⊎◌, ℕ, List, [], Some}
use Rattle.std.specs.Io.KnownBytes.{Appends}
use Rattle.edge_api.specs.declared.call.JournalEntry.{JournalEntry}
use Rattle.edge_api.specs.Streams.{GivesMore, GivesAtMost, AppendsPrefix}
use Rattle.edge_api.specs.World.{Rose}
use Rattle.op_types.specs.declared.reply.Reply.{Reply}
use Rattle.script_text.specs.declared.script.Script.{Script}
use Rattle.script_runs.specs.declared.status.Status.{Status}
use Rattle.script_runs.specs.declared.status.Status.TheVariants.{Done, NoScript, ReadFault, WriteFault, NoMemory, TooLong}
use Rattle.script_runs.specs.Status.{code_of, text_of}
use Rattle.script_runs.specs.Reading.{Stream, limit, ReadsScript, FailsToRead, Says}
use Rattle.script_runs.specs.Running.{Ran, program_of}
use Rattle.inspection.specs.Journal.{journal_text}
use Rattle.inspection.specs.Words.{folder_text}

-- the script's program ran over an empty store, and these are all the calls of the store
abbrev pub Leaves : Script → List JournalEntry → Type 0
Leaves s journal = (replies : List (List Reply)) × Ran (program_of s) (Some []) (Some journal) replies

-- the source was read to its end, and the script that its bytes spell ran with these calls of the store
abbrev pub Runs : Stream → Stream → List JournalEntry → Type 0
Runs before after journal = (s : Script) × ReadsScript before after s × Leaves s journal

-- by how `journal` ends: the source and the sink, before and after
abbrev pub ShowsAs : Status → Stream → Stream → Stream → Stream → Type 0
ShowsAs Done source source' sink sink' = (journal : List JournalEntry) × Runs source source' journal × Appends sink.bytes sink'.bytes (journal_text journal)
ShowsAs WriteFault source source' sink sink' = (journal : List JournalEntry) × Runs source source' journal × AppendsPrefix sink.bytes sink'.bytes (journal_text journal) × Rose sink.faults sink'.faults
ShowsAs NoMemory source source' sink sink' = sink'.bytes ≡ sink.bytes
ShowsAs (NoScript fault) source source' sink sink' = FailsToRead source source' fault × (sink'.bytes ≡ sink.bytes)
ShowsAs ReadFault source source' sink sink' = Rose source.faults source'.faults × GivesAtMost source.bytes source'.bytes limit × (sink'.bytes ≡ sink.bytes)
ShowsAs TooLong source source' sink sink' = GivesMore source.bytes source'.bytes limit × (sink'.bytes ≡ sink.bytes)

-- the exit status of `journal` is that of an end, what that end says holds, and its text was said to the errors sink
abbrev pub ShowsJournal : ℕ → Stream → Stream → Stream → Stream → Stream → Stream → Type 0
ShowsJournal code source source' sink sink' errors errors' = (s : Status) × (code ≡ code_of s) × ShowsAs s source source' sink sink' × Says errors errors' (text_of s)

-- by how `objects` ends, where the folder wasn't there; nothing is said of what a file gets
abbrev pub FillsAs : Status → Stream → Stream → Type 0
FillsAs Done source source' = (journal : List JournalEntry) × Runs source source' journal
FillsAs WriteFault source source' = (journal : List JournalEntry) × Runs source source' journal
FillsAs NoMemory source source' = Unit {0}
FillsAs (NoScript fault) source source' = FailsToRead source source' fault
FillsAs ReadFault source source' = Rose source.faults source'.faults × GivesAtMost source.bytes source'.bytes limit
FillsAs TooLong source source' = GivesMore source.bytes source'.bytes limit

-- the folder was there already, so that nothing was read; or the exit status of `objects` is that of an end, and what that end says holds
abbrev pub FillsFolder : ℕ → Stream → Stream → Stream → Stream → Type 0
FillsFolder code source source' errors errors' =
    ((code ≡ 8) × (source'.bytes ≡ source.bytes) × Says errors errors' folder_text)
    ⊎ ((s : Status) × (code ≡ code_of s) × FillsAs s source source' × Says errors errors' (text_of s))
