use Rattle.std.proofs.Common.{sym, ◌∙◌, arith}
use Rattle.parquet_pages.specs.Places.{index_width}
use Rattle.parquet_pages.proofs.Widths.{width_more, width_narrow, width_is}
use Rattle.parquet_pages.proofs.dictionary.index_width.Goals as goal

pub loop-width-preserved : goal.loop-width-preserved
loop-width-preserved c = record {
  rest = sym (width_more c.loop-width.width c.args.count c.loop-width.invariant.narrow c.loop-width-test.true) ∙ c.loop-width.invariant.rest;
  from = omega arith;
  narrow = width_narrow c.loop-width.width c.args.count c.loop-width.invariant.narrow c.requires c.loop-width-test.true;
}

pub returns-clause-value : goal.returns-clause-value
unfolding index_width
returns-clause-value c = sym (width_is c.loop-width.width c.args.count c.loop-width.invariant.narrow c.loop-width-test.false) ∙ c.loop-width.invariant.rest
