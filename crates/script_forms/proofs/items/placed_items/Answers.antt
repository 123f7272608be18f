use Rattle.std.proofs.Common.{sym}
use Rattle.std.proofs.lemmas.Bool.{eqb-true}
use Rattle.script_forms.proofs.ItemLines.{is_done}
use Rattle.script_forms.proofs.items.placed_items.Goals as goal

pub returns : goal.returns
returns c = rw c.from_vec.ensures (is_done c.args.sessions.now c.args.line.now c.loop-rest.all.items c.loop-rest.rest.now (eqb-true _ _ (sym c.loop-rest-test.ensures)) c.loop-rest.invariant)
