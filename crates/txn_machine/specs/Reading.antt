-- What is made of the bytes of an object.
use Rattle.std.specs.Prelude.{◌≡◌, Option, None, MatchOption}
use Rattle.op_types.specs.declared.refusal.ObjectFault.{ObjectFault}
use Rattle.op_types.specs.declared.refusal.ObjectFault.TheVariants.{Line}
use Rattle.op_types.specs.fault.LogFaultKind.TheVariants.{Shape}
use Rattle.line_texts.specs.declared.TextFault.{TextFault}
use Rattle.line_texts.specs.declared.TextFault.TheVariants as text
use Rattle.snapshot_replay.specs.Table.{Commit, Snapshot, applied}
use Rattle.call_phases.specs.declared.reader.Unread.{Unread}
use Rattle.call_phases.specs.declared.reader.Unread.TheVariants as unread

-- the fault of a text, as that of an object
abbrev pub unread_by : TextFault → Unread ObjectFault
unread_by (text.Line n) = unread.Bad (Line n Shape)
unread_by text.NoMemory = unread.NoMemory

-- the commit that was read is applied
abbrev pub Extends : Option Commit → Snapshot → Snapshot → Type 0
Extends read old new = MatchOption read ⊥ (λ t. new ≡ applied old t)

-- the fault is that of bytes that say nothing, or memory was wanting
abbrev pub IsUnread : {A : Type 0} → Option A → ObjectFault → Unread ObjectFault → Type 0
IsUnread read fault (unread.Bad f) = (read ≡ None) × (f ≡ fault)
IsUnread read fault unread.NoMemory = Unit {0}
