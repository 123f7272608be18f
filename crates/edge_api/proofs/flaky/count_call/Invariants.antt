use Rattle.std.proofs.Common.{◌≡◌, ◌++◌, take, drop}
use Rattle.edge_api.specs.Flaky.{plan_after}
use Rattle.edge_api.proofs.flaky.count_call.Given as goal

abbrev pub invariant-loop-trouble : goal.invariant-loop-trouble
invariant-loop-trouble l = take l.trouble-index l.plan ++ plan_after (drop l.trouble-index l.plan) l.tag l.kind ≡ plan_after l.initial.plan l.tag l.kind
