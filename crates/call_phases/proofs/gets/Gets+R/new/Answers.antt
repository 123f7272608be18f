use Rattle.std.proofs.Common.{rules, ◌≡◌, subst}
use Rattle.std.specs.Prelude.{None}
use Rattle.call_phases.specs.GetsAt.{RestAt}
use Rattle.call_phases.proofs.FollowLists.{read_all}
use Rattle.call_phases.proofs.gets.Gets+R.new.Goals as goal

pub returns-in-Ok-None-clause-begins : goal.returns-in-Ok-None-clause-begins
returns-in-Ok-None-clause-begins g c es o h =
    let is : g.R.Reader.wants c.args.reader ≡ None = search rules in
    read_all g.R.Reader.wants g.R.Reader.after c.args.reader es o is
    (subst (λ a. RestAt g.R.Reader.wants g.R.Reader.after a.stage es o) c.no_call-in-Ok-None.ensures h)
