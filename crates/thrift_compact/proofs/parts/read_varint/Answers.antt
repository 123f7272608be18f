use Rattle.std.proofs.Common.{◌≡◌, ◌<◌, ◌+◌, ◌*◌, ◌%◌, ◌^◌, length, drop, get_or, arith, sym, ap, ◌∙◌}
use Rattle.thrift_compact.specs.Varints.{varint}
use Rattle.thrift_compact.specs.Values.{varint_here, varint_at}
use Rattle.thrift_compact.proofs.VarintLemmas.{after_none, varint_step, varint_last, varint_ends, varint_long, digit_above}
use Rattle.thrift_compact.proofs.parts.read_varint.Goals as goal

pub loop-i-init : goal.loop-i-init
loop-i-init c =
    let here : c.args.at + 0 ≡ c.args.at = omega arith in
    record { seen = omega arith; below = omega arith; means = rw here (after_none (varint 10 (drop c.args.at c.args.bytes.now))) }

pub loop-i-preserved : goal.loop-i-preserved
loop-i-preserved c =
    let bytes = c.args.bytes.now in
    let i = c.loop-i.i in
    let within : c.args.at + i < length bytes = omega (arith, c.loop-i.invariant.seen) in
    let few : i < 10 = omega arith in
    let digit = digit_above c.loop-i.number (get_or bytes (c.args.at + i) 0) i c.loop-i.invariant.below few in
    record {
      seen = omega arith;
      below = rw (c.from.ensures, digit.0) digit.1;
      means = rw (c.from.ensures, digit.0) (varint_step bytes c.args.at i c.loop-i.number (varint 10 (drop c.args.at bytes)) within few (omega arith) c.loop-i.invariant.means);
    }

pub returns-then-at-i-clause-value : goal.returns-then-at-i-clause-value
unfolding varint_at
returns-then-at-i-clause-value c =
    let bytes = c.args.bytes.now in
    sym (ap (λ v. varint_here bytes c.args.at v)
    (varint_ends bytes c.args.at c.loop-i.i c.loop-i.number (varint 10 (drop c.args.at bytes)) (omega arith) (omega arith) c.loop-i.invariant.means))

pub returns-then-byte-lt128-clause-value : goal.returns-then-byte-lt128-clause-value
unfolding varint_at
returns-then-byte-lt128-clause-value c =
    let bytes = c.args.bytes.now in
    let at = c.args.at in
    let i = c.loop-i.i in
    let byte = get_or bytes (at + i) 0 in
    let within : at + i < length bytes = omega (arith, c.loop-i.invariant.seen) in
    let few : i < 10 = omega arith in
    let digit = digit_above c.loop-i.number byte i c.loop-i.invariant.below few in
    let value = c.loop-i.number + byte % 128 * 2 ^ (7 * i) in
    let end : at + i + 1 ≡ at + (i + 1) = omega arith in
    (rw (c.from.ensures, digit.0, end) at c.short_number.ensures.value)
    ∙ sym (ap (λ v. varint_here bytes at v)
    (varint_last bytes at i c.loop-i.number (varint 10 (drop at bytes)) within few (omega arith) c.loop-i.invariant.means))

pub returns-clause-value : goal.returns-clause-value
unfolding varint_at
returns-clause-value c =
    let bytes = c.args.bytes.now in
    sym (ap (λ v. varint_here bytes c.args.at v)
    (varint_long bytes c.args.at c.loop-i.i c.loop-i.number (varint 10 (drop c.args.at bytes)) (omega arith) c.loop-i.invariant.means))
