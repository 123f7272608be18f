use Rattle.std.proofs.Common.{rules, ◌≡◌, List, subst}
use Rattle.statement_types.specs.declared.statement.Statement.{Statement}
use Rattle.statement_sessions.specs.Session.{AnsweredTo, plans_from}
use Rattle.statement_sessions.proofs.session.Session.new.Goals as goal

pub returns-clause-starts : goal.returns-clause-starts
returns-clause-starts c es all h =
    let a = c.args in
    let same : c.from_vec.result.items ≡ a.statements.items = search rules in
    subst (λ (ss : List Statement). AnsweredTo a.kill (plans_from a.actor a.limit 1 ss) es all) same (c.start.ensures.starts es all h)
