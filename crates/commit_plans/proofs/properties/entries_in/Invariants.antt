use Rattle.std.proofs.Common.{◌≡◌, ◌++◌, map}
use Rattle.commit_plans.specs.Properties.{entry_in}
use Rattle.commit_plans.proofs.properties.entries_in.Given as goal

abbrev pub invariant-loop-name : goal.invariant-loop-name
invariant-loop-name l = l.entries.items ++ map entry_in l.name-iterator ≡ map entry_in l.fn.values.entries
