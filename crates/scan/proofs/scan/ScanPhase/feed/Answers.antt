use Rattle.call_phases.specs.GetsAt as gets
use Rattle.call_phases.proofs.Maps.{maps_goes}
use Rattle.scan.specs.Faults.{of_get}
use Rattle.scan.specs.Machine.{scanned_after, call_of, RestOf}
use Rattle.scan.specs.Reader.{wanted_name, after_body}
use Rattle.scan.proofs.scan.ScanPhase.feed.Goals as goal

pub returns-clause-goes : goal.returns-clause-goes
returns-clause-goes c =
    let old = c.args.self.now in
    maps_goes of_get (scanned_after old.live) (λ p. gets.RestAt wanted_name after_body p.stage) RestOf old.gets c.feed.new.self old (record old { gets = c.feed.new.self }) (call_of old)
    c.args.input c.feed.ensures.goes (λ es o h. h) (λ es o h. h)

pub returns-clause-memory : goal.returns-clause-memory
returns-clause-memory c is = let m = c.feed.ensures.memory is in (m.0, λ es o h. m.1 es h.0 h.1)
