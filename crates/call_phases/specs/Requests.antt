-- The phases of one call.
use Rattle.std.specs.Prelude.{ℕ, List}
use Rattle.edge_api.specs.declared.call.Call.{Call}
use Rattle.edge_api.specs.declared.call.Call.TheVariants as call
use Rattle.edge_api.specs.declared.call.Listed.{Listed}
use Rattle.call_phases.specs.Phases.{Entries, AtNow, AtList, AtPut, AtWait}
use Rattle.call_phases.specs.Ending.{Ending}
use Rattle.call_phases.specs.declared.called.Reading.{Reading}
use Rattle.call_phases.specs.declared.called.Waiting.{Waiting}
use Rattle.call_phases.specs.declared.requests.Prefix.{Prefix}
use Rattle.call_phases.specs.declared.requests.Replacement.{Replacement}
use Rattle.call_phases.specs.declared.puts.File.{File}
use Rattle.call_phases.specs.declared.fault.CallFault.{CallFault}
use Rattle.call_phases.specs.declared.fault.CallFault.TheVariants as fault
use Rattle.call_phases.specs.Called.{called_now, called_list, called_replace, called_wait}
use Rattle.call_phases.specs.Endings.{IsOpenEnd, HasFailed, HasEnded}

-- the clock is read
abbrev pub ReadsClock : Entries → Ending CallFault ℕ → Type 0
ReadsClock es o = AtNow (IsOpenEnd fault.NoMemory o) (HasFailed o (fault.Fault called_now)) (HasEnded o) es

-- the names with the prefix are listed
abbrev pub ListsNames : List ℕ → Entries → Ending CallFault (List Listed) → Type 0
ListsNames prefix es o = AtList (IsOpenEnd fault.NoMemory o) prefix (HasFailed o (fault.Fault (called_list prefix))) (HasEnded o) es

-- the file is put, whether or not its name is free
abbrev pub Replaces : File → Entries → Ending CallFault (Unit {0}) → Type 0
Replaces file es o = AtPut (IsOpenEnd fault.NoMemory o) file.name file.body (HasFailed o (fault.Fault (called_replace file.name))) (HasEnded o tt) es

-- so many milliseconds are waited for
abbrev pub WaitsFor : ℕ → Entries → Ending CallFault (Unit {0}) → Type 0
WaitsFor time es o = AtWait (IsOpenEnd fault.NoMemory o) time (HasFailed o (fault.Fault called_wait)) (HasEnded o tt) es

-- the call of each

abbrev pub reading_call : Reading → Call
reading_call r = call.Now

abbrev pub prefix_call : Prefix → Call
prefix_call p = call.List p.name

abbrev pub replacement_call : Replacement → Call
replacement_call r = call.Put r.file.name r.file.body

abbrev pub waiting_call : Waiting → Call
waiting_call w = call.Wait w.time

-- what the entries of each have to be

abbrev pub ReadingRest : Reading → Entries → Ending CallFault ℕ → Type 0
ReadingRest r = ReadsClock

abbrev pub PrefixRest : Prefix → Entries → Ending CallFault (List Listed) → Type 0
PrefixRest p = ListsNames p.name

abbrev pub ReplacementRest : Replacement → Entries → Ending CallFault (Unit {0}) → Type 0
ReplacementRest r = Replaces r.file

abbrev pub WaitingRest : Waiting → Entries → Ending CallFault (Unit {0}) → Type 0
WaitingRest w = WaitsFor w.time
