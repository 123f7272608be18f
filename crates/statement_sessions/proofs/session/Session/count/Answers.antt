use Rattle.std.proofs.Common.{rules, ◌≡◌, ◌+◌, length, true, Bool, sym, subst}
use Rattle.std.specs.Prelude.{if◌then◌else◌}
use Rattle.statement_sessions.specs.Session.{Stops}
use Rattle.statement_sessions.proofs.session.Session.count.Goals as goal

pub returns-then-heard-clause-remains : goal.returns-then-heard-clause-remains
returns-then-heard-clause-remains c es all h =
    let m = c.check.ensures.remains es all h in
    let heard : c.args.heard ≡ true = search rules in
    let stops = c.after_answer-self.ensures (length es) m.0 m.1 in
    (m.0, subst (λ (b : Bool). Stops c.args.self.now.kill ((if b then 1 else 0) + length es) m.0) (sym heard) stops, m.2)
