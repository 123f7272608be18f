use Rattle.prune.proofs.FileRows.{facts_hold}
use Rattle.prune.proofs.laws.facts_hold.Goals as goal

pub returns : goal.returns
returns c = facts_hold
