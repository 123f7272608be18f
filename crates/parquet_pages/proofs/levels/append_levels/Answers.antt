use Rattle.std.proofs.Common.{ap, sym, ◌∙◌, arith, subst, length, ◌≡◌}
use Rattle.parquet_pages.specs.Written.{levels_of}
use Rattle.parquet_pages.proofs.Bits.{AllBits, length-levels_of, levels_fit}
use Rattle.parquet_pages.proofs.levels.append_levels.Goals as goal

pub hybrid_text-requires-clause-few : goal.hybrid_text-requires-clause-few
hybrid_text-requires-clause-few c =
    let same : c.as_slice.result.now ≡ levels_of c.args.values.now = c.as_slice.ensures.value ∙ c.in_ok-levels.ensures in
    omega (arith, ap length same, length-levels_of c.args.values.now)

pub hybrid_text-requires-clause-fit : goal.hybrid_text-requires-clause-fit
hybrid_text-requires-clause-fit c =
    subst AllBits (sym (c.as_slice.ensures.value ∙ c.in_ok-levels.ensures)) (levels_fit c.args.values.now)
