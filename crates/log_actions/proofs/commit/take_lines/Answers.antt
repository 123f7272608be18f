use Rattle.std.proofs.Common.{sym, ap, ◌∙◌, []}
use Rattle.log_actions.specs.Commit.{actions_from}
use Rattle.log_actions.proofs.commit.take_lines.Goals as goal

pub returns : goal.returns
unfolding actions_from
returns c = sym c.lines.invariant.reads ∙ ap (actions_from c.lines.number c.lines.actions.items) c.in_default.ensures.none ∙ c.in_ok-take_line-2.ensures.goes_on []
