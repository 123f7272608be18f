-- What the whole run does, by how it ends.
use Rattle.std.specs.Prelude.{◌≡◌, ◌⊎◌, ℕ, List, Option}
use Rattle.std.specs.Io.KnownBytes.{Appends}
use Rattle.edge_api.specs.declared.call.JournalEntry.{JournalEntry}
use Rattle.edge_api.specs.Streams.{GivesMore, GivesAtMost, AppendsPrefix}
use Rattle.edge_api.specs.World.{Rose}
use Rattle.script_text.specs.declared.script.Script.{Script}
use Rattle.script_runs.specs.declared.status.Status.{Status}
use Rattle.script_runs.specs.declared.status.Status.TheVariants.{Done, NoScript, ReadFault, WriteFault, NoMemory, TooLong}
use Rattle.script_runs.specs.Reading.{Stream, limit, ReadsScript, FailsToRead}
use Rattle.script_runs.specs.Running.{program_of}
use Rattle.delta_run.specs.Play.{Plays, MayRun}

-- the journal of a store, where it is told
abbrev pub ToldJournal : Type 0
ToldJournal = Option (List JournalEntry)

-- what a run can change, at a moment: its source, the store's journal, and its sink
pub record Outside : Type 0 where
  pub source : Stream
  pub journal : ToldJournal
  pub sink : Stream

-- nothing was called, and nothing was written
abbrev pub IsIdle : Outside → Outside → Type 0
IsIdle before after = (after.journal ≡ before.journal) × (after.sink.bytes ≡ before.sink.bytes)

-- by how the run ends: what it found, and what it left
abbrev pub EndsAs : Status → Outside → Outside → Type 0
EndsAs Done before after =
    (s : Script) × (text : List ℕ) × ReadsScript before.source after.source s × Plays s before.journal after.journal text × Appends before.sink.bytes after.sink.bytes text
EndsAs WriteFault before after =
    (s : Script) × (text : List ℕ) × ReadsScript before.source after.source s × Plays s before.journal after.journal text
    × AppendsPrefix before.sink.bytes after.sink.bytes text × Rose before.sink.faults after.sink.faults
EndsAs NoMemory before after =
    ((after.journal ≡ before.journal) ⊎ ((s : Script) × ReadsScript before.source after.source s × MayRun (program_of s) before.journal after.journal)) × (after.sink.bytes ≡ before.sink.bytes)
EndsAs (NoScript fault) before after = FailsToRead before.source after.source fault × IsIdle before after
EndsAs ReadFault before after = Rose before.source.faults after.source.faults × GivesAtMost before.source.bytes after.source.bytes limit × IsIdle before after
EndsAs TooLong before after = GivesMore before.source.bytes after.source.bytes limit × IsIdle before after
