use Rattle.std.proofs.Common.{◌≡◌, ◌<◌, length, refl, ◌+◌, ◌-◌, below_more, arith}
use Rattle.bit_pack.specs.Hybrid.{varint_number}
use Rattle.bit_pack.proofs.PieceLemmas.{header_step}
use Rattle.bit_pack.proofs.hybrid.read_header.Goals as goal

pub loop-i-init : goal.loop-i-init
unfolding varint_number
loop-i-init c = record { seen = omega arith; goes_on = λ k lt. absurd (omega arith); means = refl }

pub returns-then-byte-lt128-clause-ok : goal.returns-then-byte-lt128-clause-ok
returns-then-byte-lt128-clause-ok c =
    let within : c.loop-i.i < length c.args.bytes.now = omega (arith, c.loop-i.invariant.seen) in
    let here : c.loop-i.i + 1 - 1 ≡ c.loop-i.i = omega arith in
    record {
      some = omega arith;
      few = omega arith;
      within = omega arith;
      goes_on = λ k lt. c.loop-i.invariant.goes_on k (omega arith);
      ends = rw here (omega arith);
      means = rw (c.from.ensures, c.loop-i.invariant.means) (header_step c.args.bytes.now c.loop-i.i within (omega arith));
    }

pub loop-i-preserved : goal.loop-i-preserved
loop-i-preserved c =
    let within : c.loop-i.i < length c.args.bytes.now = omega (arith, c.loop-i.invariant.seen) in
    record {
      seen = omega arith;
      goes_on = below_more _ _ c.loop-i.invariant.goes_on (omega arith);
      means = rw (c.from.ensures, c.loop-i.invariant.means) (header_step c.args.bytes.now c.loop-i.i within (omega arith));
    }
