use Rattle.std.proofs.Common.{arith, length-set, ◌∙◌}
use Rattle.table_rules.proofs.Numerals.{padded_more, padded_all}
use Rattle.table_rules.proofs.digits.padded_digits.Goals as goal

pub loop-place-preserved : goal.loop-place-preserved
loop-place-preserved g c = record {
  within = omega arith;
  written = padded_more c.loop-place.place c.loop-place.rest c.loop-place.digits _ c.loop-place-test.true (omega (arith, c.loop-place.invariant.long)) c.loop-place.invariant.written;
  long = length-set c.loop-place.digits _ _ ∙ c.loop-place.invariant.long;
}

pub returns : goal.returns
returns g c = padded_all c.loop-place.place c.loop-place.rest c.loop-place.digits _ c.loop-place-test.false c.loop-place.invariant.written
