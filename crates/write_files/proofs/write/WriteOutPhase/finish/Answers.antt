use Rattle.std.proofs.Common.{sym, subst}
use Rattle.call_phases.specs.Endings.{EndsAs}
use Rattle.call_phases.specs.Puts as puts
use Rattle.call_phases.proofs.Maps.{maps_done, maps_failed}
use Rattle.write_files.proofs.write.WriteOutPhase.finish.Goals as goal

pub returns-in-Ok : goal.returns-in-Ok
returns-in-Ok c es o h =
    let w = c.args.self in
    maps_done (λ f. f) (λ stored. w.adds) (puts.RestAt w.puts.stage) tt es o
    (λ es o e. c.finish.ensures es o (subst (λ r. EndsAs r es o) (sym c.in-Ok.is) e)) h

pub returns-in-Err : goal.returns-in-Err
returns-in-Err c es o h =
    let w = c.args.self in
    maps_failed (λ f. f) (λ stored. w.adds) (puts.RestAt w.puts.stage) c.in-Err.fault es o
    (λ es o e. c.finish.ensures es o (subst (λ r. EndsAs r es o) (sym c.in-Err.is) e)) h
