-- What a read of a script gives, by how it ends, and what is said of that.
use Rattle.std.specs.Prelude.{◌⊎◌, ◌≤◌, ℕ, List, length, Option}
use Rattle.std.specs.Io.KnownBytes.{Appends}
use Rattle.row_base.specs.declared.limits.TheConstants.{MAX_SCRIPT_BYTES}
use Rattle.edge_api.specs.Streams.{ReadsAll, GivesMore, GivesAtMost, AppendsPrefix}
use Rattle.edge_api.specs.World.{Rose}
use Rattle.script_text.specs.declared.script.Script.{Script}
use Rattle.script_text.specs.declared.script.ScriptFault.{ScriptFault}
use Rattle.script_text.specs.Scripts.{SpellsScript, FailsScript}
use Rattle.script_runs.specs.declared.status.Status.{Status}
use Rattle.script_runs.specs.declared.status.Status.TheVariants.{Done, NoScript, ReadFault, WriteFault, NoMemory, TooLong}

-- the greatest length of a script in bytes
abbrev pub limit : ℕ
limit = MAX_SCRIPT_BYTES

-- the bytes of a source or a sink, where they are told
abbrev pub ToldBytes : Type 0
ToldBytes = Option (List ℕ)

-- a source or a sink at a moment: the bytes that it has left, or that it has taken, and how often it has failed
pub record Stream : Type 0 where
  pub bytes : ToldBytes
  pub faults : ℕ

-- the source was read to its end, within the limit, and its bytes spell the script
abbrev pub ReadsScript : Stream → Stream → Script → Type 0
ReadsScript before after s = (bytes : List ℕ) × ReadsAll before.bytes after.bytes bytes × (length bytes ≤ limit) × SpellsScript bytes s

-- the source was read to its end, within the limit, and this is the least bad line of its bytes with its first kind
abbrev pub FailsToRead : Stream → Stream → ScriptFault → Type 0
FailsToRead before after fault = (bytes : List ℕ) × ReadsAll before.bytes after.bytes bytes × (length bytes ≤ limit) × FailsScript bytes fault.line fault.kind

-- why bytes were not taken for a script
abbrev pub FailsParsing : List ℕ → Status → Type 0
FailsParsing bytes (NoScript fault) = FailsScript bytes fault.line fault.kind
FailsParsing bytes NoMemory = Unit {0}
FailsParsing bytes ReadFault = ⊥
FailsParsing bytes TooLong = ⊥
FailsParsing bytes Done = ⊥
FailsParsing bytes WriteFault = ⊥

-- why a script was not read
abbrev pub FailsReading : Status → Stream → Stream → Type 0
FailsReading (NoScript fault) before after = FailsToRead before after fault
FailsReading ReadFault before after = Rose before.faults after.faults × GivesAtMost before.bytes after.bytes limit
FailsReading TooLong before after = GivesMore before.bytes after.bytes limit
FailsReading NoMemory before after = Unit {0}
FailsReading Done before after = ⊥
FailsReading WriteFault before after = ⊥

-- the text was said, or a first part of it where the sink failed
abbrev pub Says : Stream → Stream → List ℕ → Type 0
Says before after text = Appends before.bytes after.bytes text ⊎ (AppendsPrefix before.bytes after.bytes text × Rose before.faults after.faults)
