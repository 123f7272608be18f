use Rattle.std.proofs.Common.{rules, ◌∙◌, sym}
use Rattle.snapshot_replay.proofs.Files.{length-files_of}
use Rattle.snapshot_replay.proofs.state.count_of.Goals as goal

pub returns : goal.returns
returns c = c.len.ensures.len ∙ sym (length-files_of c.args.files.now.keys)
