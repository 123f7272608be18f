use Rattle.scan.proofs.Ends.{begun}
use Rattle.scan.proofs.scan.Scan.begin.Goals as goal

pub returns-clause-begins : goal.returns-clause-begins
returns-clause-begins c es o h = begun c.args.live o h.0 h.2 c.args.reader es (c.new.ensures.begins es h.0 h.1)
