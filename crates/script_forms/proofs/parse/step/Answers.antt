use Rattle.script_forms.proofs.Scripts.{step_ok, step_err}
use Rattle.script_forms.proofs.parse.step.Goals as goal

pub returns-in-Ok-clause-ok : goal.returns-in-Ok-clause-ok
returns-in-Ok-clause-ok c = step_ok c.args.number c.args.place c.args.line.now c.in-Ok.next c.in-Ok.ensures.gives

pub returns-in-Err-clause-err : goal.returns-in-Err-clause-err
returns-in-Err-clause-err c = step_err c.args.number c.args.place c.args.line.now c.in-Err.kind c.in-Err.ensures.gives
