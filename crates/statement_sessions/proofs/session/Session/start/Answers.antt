use Rattle.std.proofs.Common.{rules, ◌≡◌, ◌∙◌, ℕ, Option, Some, length, subst}
use Rattle.statement_machine.specs.declared.txn.Txn.{Txn}
use Rattle.statement_sessions.specs.Session.{later_plans, plans_from, Begins, Stops, IsReadyNow}
use Rattle.statement_sessions.proofs.Sessions.{first_answered}
use Rattle.statement_sessions.proofs.Stands.{next_is, outcome, fresh_now}
use Rattle.statement_sessions.proofs.session.Session.start.Goals as goal

pub returns-in-Some-clause-starts : goal.returns-in-Some-clause-starts
returns-in-Some-clause-starts c es all h =
    let m = c.check.ensures.remains es all h in
    let self = c.args.self.now in
    let plans = plans_from self.actor self.limit c.begin-first.new.next c.begin-first.new.later.items in
    let is : c.begin-first.result ≡ Some c.in-Some.txn = search rules in
    let begins = subst (λ (now : Option Txn). Begins (later_plans self) plans now) is c.begin-first.ensures.begins in
    let rest = c.settle.ensures.settles m.0 es all m.2 in
    (m.0, subst (λ (k : Option ℕ). Stops k (length es) m.0) c.settle.ensures.kill m.1, first_answered m.0 (later_plans self) plans (Some c.in-Some.txn) self.replies.items es all c.requires.replies begins rest)

pub returns-in-Some-clause-fresh : goal.returns-in-Some-clause-fresh
returns-in-Some-clause-fresh c =
    let self = c.args.self.now in
    let new = c.check.new.self in
    let txn = c.in-Some.txn in
    let is : c.begin-first.result ≡ Some txn = search rules in
    let actor : new.actor ≡ self.actor = c.check.ensures.actor ∙ c.settle.ensures.actor in
    let ready : IsReadyNow new.current self.actor new.later.items = subst (λ (n : ℕ). IsReadyNow new.current n new.later.items) actor c.check.ensures.ready.settled.now in
    let settled = c.settle.new.self in
    let on = outcome txn self.replies.items settled.replies.items new.replies.items settled.current new.current c.settle.ensures.goes_on c.check.ensures.now in
    fresh_now txn new.current self.replies.items new.replies.items self.actor self.next c.begin-first.new.next new.next new.later.items (next_is c.begin-first.result txn self.next c.begin-first.new.next is c.begin-first.ensures.fresh)
    on ready c.check.ensures.ready.settled.counted
