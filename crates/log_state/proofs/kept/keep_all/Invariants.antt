use Rattle.log_state.proofs.Steps.{Goes}
use Rattle.log_state.proofs.kept.keep_all.Given as goal

abbrev pub invariant-loop-keyed : goal.invariant-loop-keyed
invariant-loop-keyed l = Goes l.fn.kept l.fn.actions.items l.keyed-iterator.rest.items l.kept
