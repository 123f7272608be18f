use Rattle.log_state.proofs.Owns.{same_state}
use Rattle.log_state.proofs.state.State.copy.Goals as goal

pub invariant_of-result : goal.invariant_of-result
invariant_of-result c = let s = c.self.inside in same_state s.version s.stamp s.kept c.in_ok-copy.field-0 c.self.invariant c.in_ok-copy.ensures
