use Rattle.std.proofs.Common.{◌≡◌, ℕ, ◌<◌, ◌*◌, ◌^◌, ◌++◌}
use Rattle.bit_pack.specs.Hybrid.{varint_of}
use Rattle.bit_pack.proofs.hybrid.push_varint.Given as goal

-- what is written and the varint of what is left are the whole
abbrev pub invariant-loop-rest : goal.invariant-loop-rest
invariant-loop-rest l = (most : ℕ) × (0 < most) × (l.rest < 2 ^ (7 * most))
    × (l.out.items ++ varint_of most l.rest ≡ l.fn.out.items ++ varint_of 5 l.number)

abbrev pub decreases-loop-rest : goal.decreases-loop-rest
decreases-loop-rest l = l.rest
