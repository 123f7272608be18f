use Rattle.std.proofs.Common.{rules, ◌≡◌, ◌∙◌, ap, ℕ, ◌≤◌, ◌+◌, ◌*◌, length, Some, subst, arith}
use Rattle.edge_api.specs.declared.actor.Fed.TheVariants as fed
use Rattle.statement_steps.specs.Bounds.{most_calls}
use Rattle.statement_machine.specs.Machine.{left_of}
use Rattle.statement_sessions.specs.Session.{left, count_of, IsReadyNow}
use Rattle.statement_sessions.proofs.Sessions.{asked, event_goes, event_falls, has_calls}
use Rattle.statement_sessions.proofs.Stands.{event_counted, event_led, heard_not}
use Rattle.statement_sessions.proofs.session.SessionActor.feed.Goals as goal

pub settle-requires-clause-ready : goal.settle-requires-clause-ready
settle-requires-clause-ready c =
    let q = c.requires in
    let is : c.args.self.now.current ≡ Some c.in-Some.txn = search rules in
    let o = asked q.0 q.1 q.2 c.args.self.now c.in-Some.txn q.3 is in
    (c.feed.ensures.fed o.before q.1 q.2 o.asks).2

pub settle-requires-clause-counted : goal.settle-requires-clause-counted
settle-requires-clause-counted c =
    let q = c.requires in
    let is : c.args.self.now.current ≡ Some c.in-Some.txn = search rules in
    let o = asked q.0 q.1 q.2 c.args.self.now c.in-Some.txn q.3 is in
    let f = c.feed.ensures.fed o.before q.1 q.2 o.asks in
    event_counted q.0 q.1 q.2 c.args.self.now o.before c.feed.new.self _ q.3 o.is f.0 f.1

pub count-requires-clause-calls : goal.count-requires-clause-calls
count-requires-clause-calls c =
    let q = c.requires in
    let calls = has_calls q.0 q.1 q.2 c.args.self.now q.3 in
    search rules

pub returns-in-Some-clause-fed : goal.returns-in-Some-clause-fed
returns-in-Some-clause-fed c old tag call asks =
    let self = c.args.self.now in
    let new = c.settle.new.self in
    let t = c.feed.new.self in
    let is : self.current ≡ Some c.in-Some.txn = search rules in
    let o = asked old tag call self c.in-Some.txn asks is in
    let f = c.feed.ensures.fed o.before tag call o.asks in
    let most : left c.count.new.self ≤ length self.later.items * (1 + most_calls) + left_of t.stage = omega (arith, c.count.ensures.falls, c.settle.ensures.falls) in
    let actor : c.count.new.self.actor ≡ old.actor = c.count.ensures.actor ∙ c.settle.ensures.actor ∙ asks.actor in
    let ready : IsReadyNow c.count.new.self.current old.actor c.count.new.self.later.items = subst (λ (n : ℕ). IsReadyNow c.count.new.self.current n c.count.new.self.later.items) actor c.count.ensures.ready.settled.now in
    let kept : c.args.answer ≡ fed.NoMemory → (c.count.new.self.current ≡ new.current) × (c.count.new.self.replies.items ≡ new.replies.items) =
    λ memory. c.count.ensures.kept (heard_not c.is_answer-heard.result (c.is_answer-heard.ensures ∙ ap count_of memory)) in (
      record {
        led = event_led old tag call self o.before c.in-Some.txn t c.args.answer new c.count.new.self asks o.is o.asks f.0 f.1 ready c.count.ensures.ready.settled.counted c.settle.ensures.goes_on c.count.ensures.now kept;
        leads = λ es all h. event_goes old tag call self new o.before t c.args.answer _ es all asks o.is f.0 c.settle.ensures.kill c.is_answer-heard.ensures (λ killed rest. c.settle.ensures.settles killed es all rest) (c.count.ensures.remains es all h);
      },
      event_falls old tag call self c.count.new.self o.before t asks o.is f.1 most,
      c.count.ensures.ready,
    )

pub feed-requires : goal.feed-requires
feed-requires c =
    let q = c.requires in
    let is : c.args.self.now.current ≡ Some c.in-Some.txn = search rules in
    let o = asked q.0 q.1 q.2 c.args.self.now c.in-Some.txn q.3 is in
    (o.before, q.1, q.2, o.asks, q.4)
