use Rattle.std.proofs.Common.{sym, subst}
use Rattle.call_phases.specs.Endings.{EndsAs, HasFailed}
use Rattle.call_phases.specs.GetsAt as gets
use Rattle.call_phases.proofs.Maps.{maps_done, maps_failed}
use Rattle.snapshot_load.specs.Loads.{failed_by}
use Rattle.snapshot_load.specs.Machine.{failed_after, loaded_after}
use Rattle.snapshot_load.specs.Readers.{wanted_commit, commits_after}
use Rattle.snapshot_load.proofs.load.LoadPhase.finish.Goals as goal

pub returns-in-Ok : goal.returns-in-Ok
returns-in-Ok c es o h =
    let l = c.args.self in
    maps_done (failed_after l.kept) (loaded_after l.kept l.listing) (gets.RestAt wanted_commit commits_after l.gets.stage) c.in-Ok.commits es o
    (λ es o e. c.finish.ensures es o (subst (λ r. EndsAs r es o) (sym c.in-Ok.is) e)) h

pub returns-in-Err : goal.returns-in-Err
returns-in-Err c es o h =
    let l = c.args.self in
    maps_failed (failed_after l.kept) (loaded_after l.kept l.listing) (gets.RestAt wanted_commit commits_after l.gets.stage) c.in-Err.fault es o
    (λ es o e. c.finish.ensures es o (subst (λ r. EndsAs r es o) (sym c.in-Err.is) e)) (subst (λ f. HasFailed o (failed_by f l.kept) es) c.of_gets.ensures h)
