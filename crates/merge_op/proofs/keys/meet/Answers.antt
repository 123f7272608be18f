use Rattle.std.proofs.Common.{rules, true}
use Rattle.merge_op.proofs.Meeting.{met_there, met_nowhere}
use Rattle.merge_op.specs.declared.keys.Found.{Found}
use Rattle.merge_op.proofs.keys.meet.Goals as goal

pub returns-in-Some-clause-met : goal.returns-in-Some-clause-met
returns-in-Some-clause-met c =
    let w : Found = record { row = c.in-Some.found.now.row; several = c.in-Some.found.now.several; met = true } in
    met_there c.args.keyed.now (c.get_mut.follows.lender w) c.args.key.now c.in-Some.found.now (search rules) ((c.get_mut.follows.holds w).3 (search rules)).0

pub returns-in-None-clause-met : goal.returns-in-None-clause-met
returns-in-None-clause-met c = met_nowhere c.args.keyed.now c.get_mut.follows.lender-at-none c.args.key.now (search rules) c.get_mut.follows.holds-at-none
