use Rattle.std.proofs.Common.{◌∙◌, ap, length, arith}
use Rattle.parquet_meta.specs.Pieces.{Piece}
use Rattle.std.proofs.lemmas.Result.{err_from_is_err_and}
use Rattle.parquet_meta.specs.Values.{elements_from}
use Rattle.parquet_meta.proofs.Loops.{element_fault, element_next}
use Rattle.parquet_meta.proofs.fields.read_elements.Goals as goal

pub returns-in_err-read : goal.returns-in_err-read
returns-in_err-read g c =
    let p = err_from_is_err_and c.from_residual.result c.from_residual.ensures.1 in
    rw (p.1, p.2)
    (element_fault g.E.Element.element c.args.reader.now.piece c.loop.reader.piece c.args.place c.args.count c.loop.counter c.loop.reader.at c.loop.elements.items
    (elements_from (g.E.Element.element c.args.reader.now.piece c.args.place) c.args.count c.args.reader.now.at) c.in_err-read.field-0.0
    c.loop.invariant.same c.loop-test.true c.loop.invariant.rest c.in_err-read.ensures)

pub loop-preserved : goal.loop-preserved
loop-preserved g c = record {
  same = c.in_ok-read.ensures.1 ∙ c.loop.invariant.same;
  behind = omega (arith, c.loop.invariant.behind, c.in_ok-read.ensures.2);
  within = omega (arith, c.in_ok-read.ensures.3, ap (λ (p : Piece). length p.bytes) c.loop.invariant.same);
  rest = rw c.in_ok-push.ensures.items
      (element_next g.E.Element.element c.args.reader.now.piece c.loop.reader.piece c.args.place c.args.count c.loop.counter c.loop.reader.at c.read.new.reader.at c.loop.elements.items c.in_ok-read.field-0
      (elements_from (g.E.Element.element c.args.reader.now.piece c.args.place) c.args.count c.args.reader.now.at)
      c.loop.invariant.same c.loop-test.true c.loop.invariant.rest c.in_ok-read.ensures.0);
}
