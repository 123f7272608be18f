use Rattle.statement_sessions.specs.Session.{later_plans, plans_from}
use Rattle.statement_sessions.proofs.Sessions.{settled}
use Rattle.statement_sessions.proofs.session.Session.turn.Goals as goal

pub returns-clause-turns : goal.returns-clause-turns
returns-clause-turns c killed es all h =
    let self = c.args.self.now in
    settled killed c.args.done (later_plans self) (plans_from self.actor self.limit c.begin.new.next c.begin.new.later.items) c.begin.result self.replies.items c.add_reply.new.replies.items es all c.begin.ensures.begins c.add_reply.ensures.replied h
