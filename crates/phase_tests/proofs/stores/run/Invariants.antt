use Rattle.phase_tests.proofs.stores.run.Given as goal

abbrev pub invariant-loop-call : goal.invariant-loop-call
invariant-loop-call g l = g.P.Phase.ready l.phase

abbrev pub decreases-loop-call : goal.decreases-loop-call
decreases-loop-call g l = g.P.Phase.left l.phase
