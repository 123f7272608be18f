use Rattle.snapshot_replay.proofs.Newest.{newest_decides}
use Rattle.snapshot_replay.proofs.laws.newest_action_decides.Goals as goal

pub returns : goal.returns
returns c = newest_decides
