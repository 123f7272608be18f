-- What a statement comes to: its reply, and what its session keeps for the next one. There is none while the statement is open.
use Rattle.std.specs.Prelude.{◌≡◌, ◌⊎◌, List, [], Option, Some, None}
use Rattle.op_types.specs.declared.refusal.Refusal.{Refusal}
use Rattle.op_types.specs.declared.refusal.Refusal.TheVariants as refusal
use Rattle.op_types.specs.declared.refusal.ObjectFault.{ObjectFault}
use Rattle.op_types.specs.declared.refusal.Clash.{Clash}
use Rattle.op_types.specs.declared.reply.Reply.{Reply}
use Rattle.op_types.specs.declared.reply.Reply.TheVariants.{Refused}
use Rattle.call_phases.specs.Phases.{Entries}
use Rattle.call_phases.specs.declared.fault.CallFault.{CallFault}
use Rattle.call_phases.specs.declared.fault.CallFault.TheVariants as of_call
use Rattle.call_phases.specs.declared.gets.GetFault.{GetFault}
use Rattle.call_phases.specs.declared.gets.GetFault.TheVariants as of_get
use Rattle.call_phases.specs.declared.puts.PutFault.{PutFault}
use Rattle.call_phases.specs.declared.puts.PutFault.TheVariants as of_put
use Rattle.committer.specs.declared.fault.AttemptFault.{AttemptFault}
use Rattle.committer.specs.declared.fault.AttemptFault.TheVariants as of_attempt
use Rattle.statement_calls.specs.declared.finish.Kept.{Kept}
use Rattle.statement_calls.specs.declared.finish.Finish.{Finish}

-- it is refused, and this is kept
abbrev pub refused : Option Kept → Refusal → Finish
refused kept r = record { reply = Refused r; kept = kept }

-- the refusal after a fault of a phase: of a reading of the clock or a listing,
abbrev pub refusal_of_call : CallFault → Refusal
refusal_of_call (of_call.Fault call) = refusal.Fault call
refusal_of_call of_call.NoMemory = refusal.NoMemory

-- of the gets of commits,
abbrev pub refusal_of_load : GetFault ObjectFault → Refusal
refusal_of_load (of_get.Fault call) = refusal.Fault call
refusal_of_load (of_get.Missing name) = refusal.LogGone name
refusal_of_load (of_get.Bad name fault) = refusal.BadObject name fault
refusal_of_load of_get.NoMemory = refusal.NoMemory

-- of the gets of data files,
abbrev pub refusal_of_scan : GetFault ObjectFault → Refusal
refusal_of_scan (of_get.Fault call) = refusal.Fault call
refusal_of_scan (of_get.Missing name) = refusal.FileGone name
refusal_of_scan (of_get.Bad name fault) = refusal.BadObject name fault
refusal_of_scan of_get.NoMemory = refusal.NoMemory

-- of the puts of data files,
abbrev pub refusal_of_put : PutFault → Refusal
refusal_of_put (of_put.Fault call) = refusal.Fault call
refusal_of_put (of_put.NameTaken name) = refusal.NameTaken name
refusal_of_put of_put.NoMemory = refusal.NoMemory

-- and of the attempts of the commit
abbrev pub refusal_of_attempt : AttemptFault Clash → Refusal
refusal_of_attempt (of_attempt.Conflict winner c) = refusal.Conflict winner c
refusal_of_attempt (of_attempt.TooManyAttempts lost) = refusal.TooManyAttempts lost
refusal_of_attempt (of_attempt.Outlasted start now) = refusal.Outlasted start now
refusal_of_attempt (of_attempt.Fault call) = refusal.Fault call
refusal_of_attempt (of_attempt.OutcomeUnknown version) = refusal.OutcomeUnknown version
refusal_of_attempt of_attempt.NoMemory = refusal.NoMemory
refusal_of_attempt (of_attempt.LogGone name) = refusal.LogGone name
refusal_of_attempt (of_attempt.TooLarge bytes) = refusal.TooLarge bytes

module _ (out : Option Finish) where
  -- the statement waits for a call, or memory was wanting for it, and this is kept
  abbrev pub IsOpen : Option Kept → Type 0
  IsOpen kept = (out ≡ None) ⊎ (out ≡ Some (refused kept refusal.NoMemory))

  -- it has its reply, this is kept, and nothing follows
  abbrev pub Replies : Option Kept → Reply → Entries → Type 0
  Replies kept reply es = (es ≡ []) × (out ≡ Some (record { reply = reply; kept = kept }))

  -- it is refused, this is kept, and nothing follows
  abbrev pub Ends : Option Kept → Refusal → Entries → Type 0
  Ends kept r es = Replies kept (Refused r) es
