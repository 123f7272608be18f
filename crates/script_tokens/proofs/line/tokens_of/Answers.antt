use Rattle.std.proofs.Common.{sym}
use Rattle.std.proofs.lemmas.Bool.{eqb-true}
use Rattle.script_tokens.proofs.Lines.{is_done}
use Rattle.script_tokens.proofs.line.tokens_of.Goals as goal

pub returns : goal.returns
returns c = is_done c.args.line.now c.loop-rest.value c.loop-rest.all.items c.loop-rest.rest.now (eqb-true _ _ (sym c.loop-rest-test.ensures)) c.loop-rest.invariant
