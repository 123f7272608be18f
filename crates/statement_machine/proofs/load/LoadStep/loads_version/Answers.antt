use Rattle.std.proofs.Common.{◌≡◌, ◌∙◌, ap}
use Rattle.std.specs.Prelude.{Some}
use Rattle.statement_types.specs.declared.refusal.Refusal.{Refusal}
use Rattle.statement_steps.specs.Outcome.{refused, refusal_of_load}
use Rattle.statement_machine.proofs.Chain.{no_load}
use Rattle.statement_machine.proofs.Stages.{ended_goes}
use Rattle.statement_machine.proofs.load.LoadStep.loads_version.Goals as goal

pub returns-in-Err : goal.returns-in-Err
returns-in-Err c =
    let a = c.args in
    let f = c.in-Err.failed in
    ended_goes _ _ _ _ c.refused.ensures (λ es out h.
    let is : out ≡ Some (refused f.kept (refusal_of_load f.fault)) = h.1 ∙ ap (λ (r : Refusal). Some (refused f.kept r)) c.refusal_of_load.ensures in
    no_load a.plan.tag a.plan.limit out a.statement a.start a.listing a.kept a.read.version f es c.in-Err.ensures.begins h.0 is)
