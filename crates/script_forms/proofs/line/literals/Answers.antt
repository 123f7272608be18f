use Rattle.std.proofs.Common.{sym}
use Rattle.std.proofs.lemmas.Result.{err_from_is_err_and}
use Rattle.script_grammar.specs.Shape.{read, a_datum}
use Rattle.script_grammar.proofs.Laws.{not_longer}
use Rattle.script_grammar.proofs.Loop.{begins, goes_on, ends, ends_first, is_done, shorter}
use Rattle.script_forms.proofs.line.literals.Goals as goal

pub returns-in_err-first : goal.returns-in_err-first
returns-in_err-first c =
    let p = err_from_is_err_and c.from_residual.result c.from_residual.ensures.1 in
    rw (p.1, p.2) (ends_first (read a_datum) (not_longer a_datum) c.in_err-first.field-0.0 c.args.tokens.now c.in_err-first.ensures)

pub loop-tail-init : goal.loop-tail-init
loop-tail-init c = rw (c.in_ok-push.ensures.items, c.requires) (begins (read a_datum) (not_longer a_datum) c.args.tokens.now c.in_ok-first.first c.in_ok-first.rest.now c.in_ok-first.ensures)

pub returns-in_err-next : goal.returns-in_err-next
returns-in_err-next c =
    let p = err_from_is_err_and c.from_residual-in_err-next.result c.from_residual-in_err-next.ensures.1 in
    rw (p.1, p.2) (ends (read a_datum) (not_longer a_datum) c.in_err-next.field-0.0 c.args.tokens.now c.loop-tail.all.items c.loop-tail.rest.now c.in-Some.tail.now (sym c.in-Some.ensures) c.in_err-next.ensures c.loop-tail.invariant)

pub loop-tail-smaller : goal.loop-tail-smaller
loop-tail-smaller c = shorter (read a_datum) (not_longer a_datum) c.loop-tail.rest.now c.in-Some.tail.now c.in_ok-next.next c.in_ok-next.after.now (sym c.in-Some.ensures) c.in_ok-next.ensures

pub loop-tail-preserved : goal.loop-tail-preserved
loop-tail-preserved c = rw c.in_ok-push-2.ensures.items (goes_on (read a_datum) (not_longer a_datum) c.args.tokens.now c.loop-tail.all.items c.loop-tail.rest.now c.in-Some.tail.now c.in_ok-next.next c.in_ok-next.after.now (sym c.in-Some.ensures) c.in_ok-next.ensures c.loop-tail.invariant)

pub returns : goal.returns
returns c = is_done (read a_datum) (not_longer a_datum) c.args.tokens.now c.loop-tail.all.items c.loop-tail.rest.now (sym c.in_default.ensures) c.loop-tail.invariant
