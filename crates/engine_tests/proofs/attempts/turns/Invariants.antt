use Rattle.committer.specs.Machine.{IsReady}
use Rattle.engine_tests.proofs.attempts.turns.Given as goal

abbrev pub invariant-loop-say : goal.invariant-loop-say
invariant-loop-say l = IsReady l.attempts
