use Rattle.std.proofs.Common.{arith}
use Rattle.std.proofs.lemmas.Nat.{one_shl}
use Rattle.format_kernels.proofs.States.{low_bits, whole_bits}
use Rattle.format_kernels.proofs.kernels.cut.Goals as goal

pub returns-then-width-lt32 : goal.returns-then-width-lt32
returns-then-width-lt32 c = rw (one_shl c.args.width 64 (omega arith)) (low_bits c.args.state c.args.width (omega arith))

pub returns-else-width-lt32 : goal.returns-else-width-lt32
returns-else-width-lt32 c = whole_bits c.args.state c.args.width (omega arith)
