use Rattle.snapshot_load.proofs.Loads.{begun}
use Rattle.snapshot_load.proofs.load.Load.begin.Goals as goal

pub returns-clause-begins : goal.returns-clause-begins
returns-clause-begins c es o h =
    let b = c.args.base in
    begun c.args.listing b.spare o h.0 h.2 b.commits es (c.new.ensures.begins es h.0 h.1)
