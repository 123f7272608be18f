-- The properties that are left have each key once where all do.
use Rattle.std.proofs.Common.{◌≡◌, length}
use Rattle.script_forms.specs.Limits.{are_keys}
use Rattle.script_forms.proofs.limits.are_keys.Given as goal

abbrev pub invariant-loop-rest : goal.invariant-loop-rest
invariant-loop-rest l = are_keys l.rest ≡ are_keys l.properties

abbrev pub decreases-loop-rest : goal.decreases-loop-rest
decreases-loop-rest l = length l.rest
