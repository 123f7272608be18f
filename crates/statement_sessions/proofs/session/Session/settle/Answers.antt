use Rattle.std.proofs.Common.{rules, inr, ◌≡◌, ◌≤◌, ◌+◌, length, Option, Some, None, sym, ◌∙◌, ap, subst, arith}
use Rattle.std.specs.Prelude.{vec_capacity, IfSome}
use Rattle.edge_api.specs.declared.actor.Stage.TheVariants as place
use Rattle.statement_machine.specs.Place.{place_of}
use Rattle.statement_machine.specs.declared.txn.Txn.{Txn}
use Rattle.statement_steps.specs.Bounds.{most_calls}
use Rattle.statement_machine.specs.Machine.{left_of}
use Rattle.statement_sessions.specs.Session.{later_plans, RestBy, count_now, left_now}
use Rattle.statement_sessions.proofs.Sessions.{begun_left}
use Rattle.statement_sessions.proofs.Stands.{next_is, ended_further, counted_further}
use Rattle.statement_sessions.proofs.session.Session.settle.Goals as goal

pub turns-preserved : goal.turns-preserved
turns-preserved c =
    let i = c.turns.invariant in
    let e = c.turn.ensures in
    let new = c.turn.new.self in
    let is : c.turn.result ≡ Some c.in-Some.next = search rules in
    let whole = begun_left (length new.later.items) (count_now c.turn.result) (length c.turns.self.later.items) (1 + most_calls) (left_now c.turn.result) (left_of c.turns.txn.stage) e.left e.fewer in
    let now : left_now c.turn.result ≡ left_of c.in-Some.next.stage = ap left_now is in
    let fresh = next_is c.turn.result c.in-Some.next c.turns.self.next new.next is e.fresh in
    record {
      ready = search rules;
      tag = search rules;
      actor = e.actor ∙ i.actor;
      limit = e.limit ∙ i.limit;
      kill = e.kill ∙ i.kill;
      current = e.current ∙ i.current;
      room = subst (λ (n : Option Txn). length new.replies.items + count_now n + length new.later.items ≤ vec_capacity new.replies) is e.room;
      numbers = e.numbers;
      counted = counted_further c.turns.txn c.in-Some.next c.turns.self.replies.items new.replies.items c.turns.self.next new.next i.counted e.replied fresh;
      goes_on = inr (ended_further c.args.txn c.turns.txn c.args.self.now.replies.items c.turns.self.replies.items new.replies.items i.goes_on e.replied, fresh.stands);
      left = omega (arith, whole, i.left, now);
      turns = λ killed es all h. i.turns killed es all (e.turns killed es all (subst (λ (n : Option Txn). RestBy killed new.replies.items n (later_plans new) es all) (sym is) h));
    }

pub returns-in-None-clause-settles : goal.returns-in-None-clause-settles
returns-in-None-clause-settles c killed es all h =
    let i = c.turns.invariant in
    let e = c.turn.ensures in
    let new = c.turn.new.self in
    let none : c.turn.result ≡ None = search rules in
    i.turns killed es all (e.turns killed es all (subst (λ (n : Option Txn). RestBy killed new.replies.items n (later_plans new) es all) (e.current ∙ i.current ∙ sym none) h))

pub returns-in-None-clause-goes_on : goal.returns-in-None-clause-goes_on
returns-in-None-clause-goes_on c =
    let i = c.turns.invariant in
    let e = c.turn.ensures in
    let new = c.turn.new.self in
    let none : new.current ≡ None = e.current ∙ i.current in
    inr (
      ended_further c.args.txn c.turns.txn c.args.self.now.replies.items c.turns.self.replies.items new.replies.items i.goes_on e.replied,
      subst (λ (n : Option Txn). IfSome n (λ t. place_of t.stage ≡ place.Between)) (sym none) tt,
    )
