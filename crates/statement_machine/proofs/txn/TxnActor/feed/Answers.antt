use Rattle.std.proofs.Common.{◌<◌, refl, subst}
use Rattle.statement_machine.specs.declared.stage.Stage.{Stage}
use Rattle.statement_machine.specs.declared.txn.Txn.{Txn}
use Rattle.statement_machine.specs.Machine.{left_of}
use Rattle.statement_machine.specs.Txn.{IsReady}
use Rattle.statement_machine.proofs.Places.{fed_leads}
use Rattle.statement_machine.proofs.txn.TxnActor.feed.Goals as goal

pub returns-clause-fed : goal.returns-clause-fed
returns-clause-fed c old tag call asks =
    let self = c.args.self.now in
    let r = c.resume in
    let new : Txn = record { tag = self.tag; stage = r.new.stage; pending = r.new.pending } in
    let ready : IsReady new = record { call = r.ensures.ready; left = r.ensures.some; settled = r.ensures.settled } in
    let falls : left_of new.stage < left_of old.stage = subst (λ (s : Stage). left_of new.stage < left_of s) asks.stage r.ensures.falls in
    (fed_leads old self tag call c.args.answer new asks refl r.ensures.goes r.ensures.memory, falls, ready)
