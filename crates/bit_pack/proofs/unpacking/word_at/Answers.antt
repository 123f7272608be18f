use Rattle.std.proofs.Common.{◌∙◌}
use Rattle.bit_pack.proofs.Wholes.{word_is, bytes_fit}
use Rattle.bit_pack.proofs.unpacking.word_at.Goals as goal

pub returns : goal.returns
returns c = c.from_le_bytes.ensures ∙ word_is c.args.bytes.now c.args.at (bytes_fit c.args.bytes.now c.type_inv.bytes)
