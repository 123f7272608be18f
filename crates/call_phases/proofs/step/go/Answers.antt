use Rattle.std.proofs.Common.{refl, sym, subst}
use Rattle.call_phases.specs.Ending.{Failed, Ended}
use Rattle.call_phases.specs.Endings.{EndsAs}
use Rattle.call_phases.proofs.Chain.{no_result}
use Rattle.call_phases.proofs.step.go.Goals as goal

pub returns-in-Some-clause-may : goal.returns-in-Some-clause-may
returns-in-Some-clause-may g c es reply h = let s = c.stand.ensures.may es reply h in (s.0, c.next.ensures.covers es s.0 s.1, s.2)

pub returns-in-Ok-clause-may : goal.returns-in-Ok-clause-may
returns-in-Ok-clause-may g c es reply h =
    (Ended c.in-Ok.done es, c.next.ensures.covers es (Ended c.in-Ok.done es) (c.finish.ensures es (Ended c.in-Ok.done es) (subst (λ r. EndsAs r es (Ended c.in-Ok.done es)) (sym c.in-Ok.is) refl)), c.done.ensures.may es reply h)

pub returns-in-Err-clause-may : goal.returns-in-Err-clause-may
returns-in-Err-clause-may g c es reply h =
    let f = c.failed.ensures.may es reply h in
    (Failed c.in-Err.fault, c.next.ensures.covers es (Failed c.in-Err.fault) (c.finish.ensures es (Failed c.in-Err.fault) (subst (λ r. EndsAs r es (Failed c.in-Err.fault)) (sym c.in-Err.is) (f.0, refl))), f.1)

pub returns-in-Ok-clause-stops : goal.returns-in-Ok-clause-stops
returns-in-Ok-clause-stops g c none stopped =
    no_result _ c.in-Ok.done stopped (λ es o e. c.next.ensures.covers es o (c.finish.ensures es o (subst (λ r. EndsAs r es o) (sym c.in-Ok.is) e)))
