use Rattle.std.proofs.Common.{refl}
use Rattle.log_actions.specs.Actions.{protocol_of}
use Rattle.log_actions.proofs.read.read_protocol.Goals as goal

pub returns : goal.returns
unfolding protocol_of
returns c = rw (c.in_ok-min_reader_version.ensures, c.in_ok-min_writer_version.ensures, c.in_ok-reader_features.ensures, c.in_ok-writer_features.ensures) refl
