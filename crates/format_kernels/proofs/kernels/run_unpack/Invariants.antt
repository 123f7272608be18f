use Rattle.std.proofs.Common.{◌≡◌}
use Rattle.format_kernels.specs.Kernels.{checksum_of}
use Rattle.format_kernels.proofs.kernels.run_unpack.Given as goal

abbrev pub invariant-loop-turn : goal.invariant-loop-turn
invariant-loop-turn l = l.sum ≡ checksum_of l.values.items l.turn
