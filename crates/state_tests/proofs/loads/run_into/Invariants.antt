use Rattle.snapshot_load.specs.Machine.{IsReady, left_of}
use Rattle.state_tests.proofs.loads.run_into.Given as goal

abbrev pub invariant-loop-call : goal.invariant-loop-call
invariant-loop-call l = IsReady l.load

abbrev pub decreases-loop-call : goal.decreases-loop-call
decreases-loop-call l = left_of l.load
