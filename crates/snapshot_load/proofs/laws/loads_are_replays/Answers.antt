use Rattle.snapshot_load.proofs.Replays.{all_replays}
use Rattle.snapshot_load.proofs.laws.loads_are_replays.Goals as goal

pub returns : goal.returns
returns c = all_replays
