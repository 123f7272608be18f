-- Those that are left decide.
use Rattle.std.proofs.Common.{◌≡◌, drop}
use Rattle.statement_checks.specs.Properties.{properties_in}
use Rattle.statement_checks.proofs.property.check_properties.Given as goal

abbrev pub invariant-loop-property : goal.invariant-loop-property
invariant-loop-property l = properties_in (drop l.property-index l.properties) ≡ properties_in l.properties
