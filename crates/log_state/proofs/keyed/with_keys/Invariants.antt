use Rattle.std.proofs.Common.{◌≡◌, ◌++◌, map}
use Rattle.log_state.specs.Keys as spec
use Rattle.log_state.proofs.keyed.with_keys.Given as goal

abbrev pub invariant-loop-action : goal.invariant-loop-action
invariant-loop-action l = l.keyed.items ++ map spec.with_key l.action-iterator.rest.items ≡ map spec.with_key l.fn.actions.items
