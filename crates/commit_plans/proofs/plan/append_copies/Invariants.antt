use Rattle.std.proofs.Common.{◌≡◌, ◌++◌, drop}
use Rattle.commit_plans.proofs.plan.append_copies.Given as goal

abbrev pub invariant-loop-action : goal.invariant-loop-action
invariant-loop-action l = l.out.items ++ drop l.action-index l.actions ≡ l.fn.out.items ++ l.actions
