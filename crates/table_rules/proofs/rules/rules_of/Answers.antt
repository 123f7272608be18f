use Rattle.table_rules.specs.Properties.{configuration_of}
use Rattle.table_rules.proofs.Properties.{none_bad, least_bad}
use Rattle.table_rules.proofs.rules.rules_of.Goals as goal

pub returns-clause-none_bad : goal.returns-clause-none_bad
returns-clause-none_bad c = none_bad (configuration_of c.args.meta.now) c.rules_set.result c.rules_set.ensures

pub returns-clause-least_bad : goal.returns-clause-least_bad
returns-clause-least_bad c = least_bad (configuration_of c.args.meta.now) c.rules_set.result c.rules_set.ensures
