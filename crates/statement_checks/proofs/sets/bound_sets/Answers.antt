use Rattle.std.proofs.Common.{length, []}
use Rattle.statement_checks.proofs.Narrow.{plain_sets_need_none}
use Rattle.statement_checks.proofs.sets.bound_sets.Goals as goal

pub returns-clause-plain : goal.returns-clause-plain
returns-clause-plain c = λ plain. plain_sets_need_none (length c.args.schema.now.columns) c.args.schema.now.columns [] c.args.sets.now c.in_ok-bound.bound c.in_ok-bound.ensures.read plain c.in_ok-bound.ensures.bound
