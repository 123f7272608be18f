use Rattle.std.proofs.Common.{◌∙◌, sym, arith, List, ap}
use Rattle.std.specs.Borrow.{Bor}
use Rattle.std.specs.Ordering.{is_eq}
use Rattle.row_base.specs.declared.row.Datum.{Datum}
use Rattle.write_files.specs.Pieces.{has_values}
use Rattle.write_files.proofs.Cuts as cuts
use Rattle.write_files.proofs.Lengths.{group_more, group_stop}
use Rattle.write_files.proofs.pieces.group_len.Goals as goal

pub loop-count-init : goal.loop-count-init
loop-count-init c = record {
  some = omega arith;
  few = omega (arith, c.requires);
  cut = cuts.begins (λ (r : Bor (List Datum)). r.now) (has_values c.args.schema.now) c.args.rows.now c.requires;
}

pub loop-count-preserved : goal.loop-count-preserved
loop-count-preserved c = record {
  some = omega arith;
  few = omega (arith, c.loop-count-test.true);
  cut = group_more c.args.schema.now c.args.rows.now c.loop-count.count c.index-rows-0.result c.index-rows-count.result c.loop-count.invariant.some c.loop-count-test.true c.index-rows-0.is c.index-rows-count.is
      (ap is_eq (sym c.cmp_values.ensures) ∙ sym c.is_eq.ensures ∙ c.if-is_eq.true)
      ∙ c.loop-count.invariant.cut;
}

pub returns-else-is_eq-clause-cut : goal.returns-else-is_eq-clause-cut
returns-else-is_eq-clause-cut c =
    sym c.loop-count.invariant.cut
    ∙ group_stop c.args.schema.now c.args.rows.now c.loop-count.count c.index-rows-0.result c.index-rows-count.result c.loop-count.invariant.some c.loop-count-test.true c.index-rows-0.is c.index-rows-count.is
    (ap is_eq (sym c.cmp_values.ensures) ∙ sym c.is_eq.ensures ∙ c.if-is_eq.false)

pub returns-after-loop-count-clause-cut : goal.returns-after-loop-count-clause-cut
returns-after-loop-count-clause-cut c =
    sym c.loop-count.invariant.cut
    ∙ cuts.ends (λ (r : Bor (List Datum)). r.now) (has_values c.args.schema.now) c.args.rows.now c.loop-count.count c.loop-count-test.false
