use Rattle.std.proofs.Common.{rules}
use Rattle.snapshot_replay.proofs.Files.{paths-files_of}
use Rattle.snapshot_replay.proofs.state.copy_paths.Goals as goal

pub returns : goal.returns
returns c = let t = paths-files_of c.args.files.now.keys in search rules
