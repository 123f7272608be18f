use Rattle.std.proofs.Common.{rules, ◌≡◌, inr, ◌∙◌, ap, subst}
use Rattle.std.specs.Prelude.{Option, Some}
use Rattle.log_state.specs.Table.{Table}
use Rattle.statement_types.specs.declared.refusal.Refusal.{Refusal}
use Rattle.statement_steps.specs.Outcome.{refused, refusal_of_scan}
use Rattle.statement_steps.specs.Answered.{kept_after, Selects}
use Rattle.statement_machine.proofs.Chain.{no_scan}
use Rattle.statement_machine.proofs.Stages.{ended_goes}
use Rattle.statement_machine.proofs.select.ScanStep.begin.Goals as goal

pub returns-in-Ok : goal.returns-in-Ok
returns-in-Ok c =
    let on = c.args.on in
    let go = c.go.ensures in
    record {
      ready = go.ready;
      settled = go.settled;
      left = search rules;
      some = go.some;
      may = λ es out h.
          let s = go.may es out h in
          inr (subst (λ (k : Option Table). Selects on.plan.tag on.plan.limit out on.read.version c.args.definition.now on.state k es) c.into_kept-kept.ensures (s.0, c.in-Ok.ensures.begins es s.0 s.1, s.2));
    }

pub returns-in-Err : goal.returns-in-Err
returns-in-Err c =
    let on = c.args.on in
    ended_goes _ _ _ _ c.refused.ensures (λ es out h.
    let is : out ≡ Some (refused (Some (kept_after on.spare on.state)) (refusal_of_scan c.in-Err.fault)) =
    h.1 ∙ ap (λ (k : Option Table). Some (refused k c.refusal_of_scan.result)) c.into_kept.ensures ∙ ap (λ (r : Refusal). Some (refused (Some (kept_after on.spare on.state)) r)) c.refusal_of_scan.ensures in
    inr (no_scan on.plan.tag on.plan.limit out on.read.version c.args.definition.now on.state (Some (kept_after on.spare on.state)) c.in-Err.fault es c.in-Err.ensures.begins h.0 is))
