use Rattle.std.proofs.Common.{ap, sym, ◌∙◌, arith, subst, length, ◌≡◌}
use Rattle.parquet_pages.specs.Written.{bits_of}
use Rattle.parquet_pages.proofs.Bits.{AllBits, bits_few, bits_fit}
use Rattle.parquet_pages.proofs.plain.append_booleans.Goals as goal

pub append_bits-requires-clause-few : goal.append_bits-requires-clause-few
append_bits-requires-clause-few c =
    let same : c.as_slice.result.now ≡ bits_of c.args.values.now = c.as_slice.ensures.value ∙ c.in_ok-bits.ensures in
    omega (arith, ap length same, bits_few c.args.values.now)

pub append_bits-requires-clause-fit : goal.append_bits-requires-clause-fit
append_bits-requires-clause-fit c =
    subst AllBits (sym (c.as_slice.ensures.value ∙ c.in_ok-bits.ensures)) (bits_fit c.args.values.now)
