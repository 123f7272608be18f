use Rattle.std.proofs.Common.{rules, arith}
use Rattle.snapshot_replay.proofs.Files.{placed_key, put_more}
use Rattle.snapshot_replay.proofs.state.put_path.Goals as goal

pub returns-clause-ok : goal.returns-clause-ok
returns-clause-ok c = let t = placed_key c.args.files.now.keys c.args.path c.len-count.ensures.ordered in search rules

pub returns-clause-more : goal.returns-clause-more
returns-clause-more c = put_more c.insert.result c.args.files.now.keys c.insert.new.self.keys c.args.path c.insert.ensures.keys c.insert.ensures.err
