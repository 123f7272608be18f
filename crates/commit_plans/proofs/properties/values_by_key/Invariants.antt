use Rattle.std.proofs.Common.{◌≡◌, drop}
use Rattle.commit_plans.specs.Properties.{values_by_key}
use Rattle.commit_plans.proofs.properties.values_by_key.Given as goal

abbrev pub invariant-loop-i : goal.invariant-loop-i
invariant-loop-i l = l.values.entries ≡ values_by_key (drop l.i l.properties)
