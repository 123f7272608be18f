use Rattle.std.proofs.Common.{◌≡◌, ◌++◌, map}
use Rattle.log_actions.specs.declared.action.Action.TheVariants as actions
use Rattle.commit_plans.proofs.plan.append_adds.Given as goal

abbrev pub invariant-loop-file : goal.invariant-loop-file
invariant-loop-file l = l.out.items ++ map actions.Add l.file-iterator.rest.items ≡ l.fn.out.items ++ map actions.Add l.fn.files.items
