use Rattle.std.proofs.Common.{◌≡◌}
use Rattle.format_kernels.specs.Kernels.{checksum_of, packed}
use Rattle.format_kernels.proofs.kernels.run_pack.Given as goal

abbrev pub invariant-loop-turn : goal.invariant-loop-turn
invariant-loop-turn l = l.sum ≡ checksum_of (packed l.width l.values.items) l.turn
