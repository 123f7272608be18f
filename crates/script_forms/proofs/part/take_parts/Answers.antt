use Rattle.std.proofs.Common.{sym, map}
use Rattle.std.proofs.lemmas.Result.{err_from_is_err_and}
use Rattle.std.proofs.lemmas.List.{map-append}
use Rattle.script_grammar.specs.Shape.{read}
use Rattle.script_grammar.proofs.Laws.{not_longer}
use Rattle.script_grammar.proofs.Loop.{begins, goes_on, ends, ends_first, is_done, shorter}
use Rattle.script_forms.proofs.part.take_parts.Goals as goal

pub returns-in_err-first : goal.returns-in_err-first
returns-in_err-first g c =
    let shape = g.P.Part.shape in
    let p = err_from_is_err_and c.from_residual.result c.from_residual.ensures.1 in
    rw (p.1, p.2) (ends_first (read shape) (not_longer shape) c.in_err-first.field-0.0 c.args.tokens.now c.in_err-first.ensures)

pub loop-tail-init : goal.loop-tail-init
loop-tail-init g c =
    let shape = g.P.Part.shape in
    rw (c.in_ok-push.ensures.items, c.new-all.ensures.items) (begins (read shape) (not_longer shape) c.args.tokens.now (g.P.Part.value c.in_ok-first.first) c.in_ok-first.rest.now c.in_ok-first.ensures)

pub returns-in_err-next : goal.returns-in_err-next
returns-in_err-next g c =
    let shape = g.P.Part.shape in
    let p = err_from_is_err_and c.from_residual-in_err-next.result c.from_residual-in_err-next.ensures.1 in
    rw (p.1, p.2) (ends (read shape) (not_longer shape) c.in_err-next.field-0.0 c.args.tokens.now (map g.P.Part.value c.loop-tail.all.items) c.loop-tail.rest.now c.in-Some.tail.now (sym c.in-Some.ensures) c.in_err-next.ensures c.loop-tail.invariant)

pub loop-tail-smaller : goal.loop-tail-smaller
loop-tail-smaller g c =
    let shape = g.P.Part.shape in
    shorter (read shape) (not_longer shape) c.loop-tail.rest.now c.in-Some.tail.now (g.P.Part.value c.in_ok-next.next) c.in_ok-next.after.now (sym c.in-Some.ensures) c.in_ok-next.ensures

pub loop-tail-preserved : goal.loop-tail-preserved
loop-tail-preserved g c =
    let shape = g.P.Part.shape in
    rw (c.in_ok-push-2.ensures.items, map-append g.P.Part.value c.loop-tail.all.items _) (goes_on (read shape) (not_longer shape) c.args.tokens.now (map g.P.Part.value c.loop-tail.all.items) c.loop-tail.rest.now c.in-Some.tail.now (g.P.Part.value c.in_ok-next.next) c.in_ok-next.after.now (sym c.in-Some.ensures) c.in_ok-next.ensures c.loop-tail.invariant)

pub returns : goal.returns
returns g c =
    let shape = g.P.Part.shape in
    rw c.from_vec.ensures (is_done (read shape) (not_longer shape) c.args.tokens.now (map g.P.Part.value c.loop-tail.all.items) c.loop-tail.rest.now (sym c.in_default.ensures) c.loop-tail.invariant)
