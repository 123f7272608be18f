use Rattle.std.proofs.Common.{◌≡◌, drop}
use Rattle.edge_api.specs.Flaky.{failure_of}
use Rattle.edge_api.proofs.flaky.failure_in.Given as goal

abbrev pub invariant-loop-trouble : goal.invariant-loop-trouble
invariant-loop-trouble l = failure_of (drop l.trouble-index l.plan) l.tag l.kind ≡ failure_of l.plan l.tag l.kind
