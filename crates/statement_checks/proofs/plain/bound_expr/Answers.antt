use Rattle.std.proofs.Common.{length}
use Rattle.statement_checks.proofs.Narrow.{plain_needs_none}
use Rattle.statement_checks.proofs.plain.bound_expr.Goals as goal

pub returns-clause-plain : goal.returns-clause-plain
returns-clause-plain c = λ plain. plain_needs_none (length c.args.schema.now.columns) c.args.schema.now.columns c.args.kind c.args.name.now c.args.expr.now c.in_ok-bound.bound c.in_ok-bound.ensures.read plain c.in_ok-bound.ensures.bound
