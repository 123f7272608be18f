use Rattle.std.proofs.Common.{sym, ap, subst, ◌∙◌}
use Rattle.std.proofs.lemmas.Bool.{eqb-true}
use Rattle.script_forms.specs.Scripts.{script_from, GivesScript}
use Rattle.script_forms.proofs.Pieces.{no_pieces}
use Rattle.script_forms.proofs.Scripts.{at_end}
use Rattle.script_forms.proofs.parse.read_script.Goals as goal

pub returns : goal.returns
returns c =
    let done = no_pieces c.loop-rest.rest.now (eqb-true _ _ (sym c.loop-rest-test.ensures)) in
    subst (GivesScript c.finish.result) (sym (at_end c.loop-rest.number c.loop-rest.place) ∙ ap (script_from c.loop-rest.number c.loop-rest.place) (sym done) ∙ c.loop-rest.invariant.led) c.finish.ensures
