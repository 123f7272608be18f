use Rattle.std.proofs.Common.{◌≡◌, drop}
use Rattle.log_state.specs.Stamps.{first_info}
use Rattle.log_state.proofs.stamp.first_info.Given as goal

abbrev pub invariant-loop-action : goal.invariant-loop-action
invariant-loop-action l = first_info (drop l.action-index l.actions) ≡ first_info l.actions
