use Rattle.std.proofs.Common.{sym}
use Rattle.std.proofs.lemmas.Result.{err_from_is_err_and}
use Rattle.script_grammar.specs.Shape.{read}
use Rattle.script_forms.specs.Lines.{row}
use Rattle.script_grammar.proofs.Laws.{not_longer}
use Rattle.script_grammar.proofs.Loop.{begins, goes_on, ends, ends_first, is_done, shorter}
use Rattle.script_forms.proofs.line.rows.Goals as goal

pub returns-in_err-data : goal.returns-in_err-data
returns-in_err-data c =
    let p = err_from_is_err_and c.from_residual.result c.from_residual.ensures.1 in
    rw (p.1, p.2) (ends_first (read row) (not_longer row) c.in_err-data.field-0.0 c.args.tokens.now c.in_err-data.ensures)

pub loop-tail-init : goal.loop-tail-init
loop-tail-init c = record {
  led = rw (c.in_ok-push_from.ensures.ok, c.new-all.ensures) (begins (read row) (not_longer row) c.args.tokens.now c.in_ok-data.data.items c.in_ok-data.rest.now c.in_ok-data.ensures);
  empty = c.in_ok-push_from.ensures.empty;
}

pub returns-in_err-next : goal.returns-in_err-next
returns-in_err-next c =
    let p = err_from_is_err_and c.from_residual-in_err-next.result c.from_residual-in_err-next.ensures.1 in
    rw (p.1, p.2) (ends (read row) (not_longer row) c.in_err-next.field-0.0 c.args.tokens.now c.loop-tail.all c.loop-tail.rest.now c.in-Some.tail.now (sym c.in-Some.ensures) c.in_err-next.ensures c.loop-tail.invariant.led)

pub loop-tail-smaller : goal.loop-tail-smaller
loop-tail-smaller c = shorter (read row) (not_longer row) c.loop-tail.rest.now c.in-Some.tail.now c.in_ok-next.next.items c.in_ok-next.after.now (sym c.in-Some.ensures) c.in_ok-next.ensures

pub loop-tail-preserved : goal.loop-tail-preserved
loop-tail-preserved c = record {
  led = rw c.in_ok-push_from-2.ensures.ok (goes_on (read row) (not_longer row) c.args.tokens.now c.loop-tail.all c.loop-tail.rest.now c.in-Some.tail.now c.in_ok-next.next.items c.in_ok-next.after.now (sym c.in-Some.ensures) c.in_ok-next.ensures c.loop-tail.invariant.led);
  empty = c.in_ok-push_from-2.ensures.empty;
}

pub returns : goal.returns
returns c = is_done (read row) (not_longer row) c.args.tokens.now c.loop-tail.all c.loop-tail.rest.now (sym c.in_default.ensures) c.loop-tail.invariant.led
