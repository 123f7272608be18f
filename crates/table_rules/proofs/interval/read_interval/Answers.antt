use Rattle.std.proofs.Common.{◌∙◌, ap}
use Rattle.table_rules.specs.Intervals.{interval_in}
use Rattle.table_rules.proofs.Intervals.{interval_found, no_interval}
use Rattle.table_rules.proofs.interval.read_interval.Goals as goal

pub returns-clause-found : goal.returns-clause-found
returns-clause-found c = interval_found c.interval_in.result c.args.text.now (c.interval_in.ensures ∙ ap interval_in c.as_str.ensures.text)

pub returns-clause-none : goal.returns-clause-none
returns-clause-none c = no_interval c.interval_in.result c.args.text.now (c.interval_in.ensures ∙ ap interval_in c.as_str.ensures.text)
