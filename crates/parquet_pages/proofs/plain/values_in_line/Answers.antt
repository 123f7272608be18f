use Rattle.std.proofs.Common.{arith}
use Rattle.std.proofs.lemmas.Result.{err_from_is_err_and}
use Rattle.parquet_pages.proofs.InLine.{value_more, value_fails, value_end}
use Rattle.parquet_pages.proofs.plain.values_in_line.Goals as goal

pub returns-in_err-value : goal.returns-in_err-value
returns-in_err-value c =
    let p = err_from_is_err_and c.from_residual-in_err-value.result c.from_residual-in_err-value.ensures.1 in
    rw (p.1, p.2) (value_fails _ c.args.kind c.args.count c.loop-i.i c.loop-i.rest.now c.loop-i.values.items _ (omega arith) c.in_err-value.ensures c.loop-i.invariant)

pub loop-i-preserved : goal.loop-i-preserved
loop-i-preserved c =
    value_more c.args.kind c.args.count c.loop-i.i c.loop-i.rest.now c.in_ok-value.behind.now c.loop-i.values.items _ c.in_ok-value.value _ (omega arith)
    c.in_ok-value.ensures c.loop-i.invariant c.in_ok-push.ensures.items

pub returns : goal.returns
returns c = value_end c.args.kind c.args.count c.loop-i.i c.loop-i.rest.now c.loop-i.values.items _ (omega arith) (omega arith) c.loop-i.invariant
