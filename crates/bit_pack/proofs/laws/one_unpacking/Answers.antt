use Rattle.bit_pack.proofs.OneReading.{one_packed}
use Rattle.bit_pack.proofs.laws.one_unpacking.Goals as goal

pub returns : goal.returns
returns c = one_packed
