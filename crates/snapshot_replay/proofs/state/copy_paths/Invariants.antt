use Rattle.std.proofs.Common.{◌≡◌, ◌++◌}
use Rattle.snapshot_replay.proofs.state.copy_paths.Given as goal

abbrev pub invariant-loop-path : goal.invariant-loop-path
invariant-loop-path l = l.paths.items ++ l.path-iterator ≡ l.files.keys
