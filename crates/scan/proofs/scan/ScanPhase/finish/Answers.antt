use Rattle.std.proofs.Common.{sym, subst}
use Rattle.call_phases.specs.Endings.{EndsAs, HasFailed}
use Rattle.call_phases.specs.GetsAt as gets
use Rattle.call_phases.proofs.Maps.{maps_done, maps_failed}
use Rattle.scan.specs.Faults.{of_get}
use Rattle.scan.specs.Machine.{scanned_after}
use Rattle.scan.specs.Reader.{wanted_name, after_body}
use Rattle.scan.proofs.scan.ScanPhase.finish.Goals as goal

pub returns-in-Ok : goal.returns-in-Ok
returns-in-Ok c es o h =
    let s = c.args.self in
    maps_done of_get (scanned_after s.live) (gets.RestAt wanted_name after_body s.gets.stage) c.in-Ok.reader es o
    (λ es o e. c.finish.ensures es o (subst (λ r. EndsAs r es o) (sym c.in-Ok.is) e)) h

pub returns-in-Err : goal.returns-in-Err
returns-in-Err c es o h =
    let s = c.args.self in
    maps_failed of_get (scanned_after s.live) (gets.RestAt wanted_name after_body s.gets.stage) c.in-Err.fault es o
    (λ es o e. c.finish.ensures es o (subst (λ r. EndsAs r es o) (sym c.in-Err.is) e)) (subst (λ f. HasFailed o f es) c.of_get.ensures h)
