-- A statement as an actor: what its calls and answers do to it.
use Rattle.std.specs.Prelude.{◌≡◌, ◌<◌, ◌∷◌, Option, Some, None, true}
use Rattle.edge_api.specs.declared.call.Call.{Call}
use Rattle.edge_api.specs.declared.call.Tag.{Tag}
use Rattle.edge_api.specs.Actor.{Event, Made, Refused as Wanting}
use Rattle.statement_types.specs.declared.reply.Reply.{Reply}
use Rattle.call_phases.specs.Phases.{Entries}
use Rattle.call_phases.specs.Machine.{Stops, LeftBy}
use Rattle.statement_steps.specs.declared.finish.Finish.{Finish}
use Rattle.statement_machine.specs.declared.stage.Stage.{Stage}
use Rattle.statement_machine.specs.declared.stage.Stage.TheVariants as stage
use Rattle.statement_machine.specs.declared.txn.Txn.{Txn}
use Rattle.statement_machine.specs.Machine.{Rest, call_of, left_of, is_settled}

-- the reply, where it is there
abbrev pub reply_of : Stage → Option Reply
reply_of (stage.Wait s w) = None
reply_of (stage.Clock s c) = None
reply_of (stage.List s l) = None
reply_of (stage.Load s l) = None
reply_of (stage.Scan s f) = None
reply_of (stage.Data s w) = None
reply_of (stage.Commit s a) = None
reply_of (stage.Done f) = Some f.reply

-- its next call is made ready, and it stands at a phase only while there is one
pub record IsReady (t : Txn) : Type 0 where
  pub call : t.pending ≡ call_of t.stage
  pub left : LeftBy (left_of t.stage) t.pending
  pub settled : is_settled t.stage ≡ true

-- it has asked and waits
pub record Asks (old : Txn) (tag : Tag) (call : Call) (new : Txn) : Type 0 where
  pub is_call : call_of old.stage ≡ Some call
  pub is_tag : tag ≡ old.tag
  pub same : new.tag ≡ old.tag
  pub stage : new.stage ≡ old.stage
  pub some : 0 < left_of old.stage

-- an event leads from one to the other; after want of memory nothing is called any more
abbrev pub Goes : Txn → Event → Txn → Type 0
Goes old (Made e) new = (new.tag ≡ old.tag) × (e.tag ≡ old.tag) × ((es : Entries) (out : Option Finish) → Rest new.stage es out → Rest old.stage (e ∷ es) out)
Goes old Wanting new = (new.tag ≡ old.tag) × (call_of new.stage ≡ None) × Stops Rest old.stage new.stage
