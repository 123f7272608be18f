use Rattle.call_phases.specs.GetsAt as gets
use Rattle.call_phases.proofs.Maps.{maps_goes}
use Rattle.snapshot_load.specs.Machine.{failed_after, loaded_after, call_of, RestOf}
use Rattle.snapshot_load.specs.Readers.{wanted_commit, commits_after}
use Rattle.snapshot_load.proofs.load.LoadPhase.feed.Goals as goal

pub returns-clause-goes : goal.returns-clause-goes
returns-clause-goes c =
    let old = c.args.self.now in
    maps_goes (failed_after old.kept) (loaded_after old.kept old.listing) (λ p. gets.RestAt wanted_commit commits_after p.stage) RestOf old.gets c.feed.new.self old (record old { gets = c.feed.new.self }) (call_of old)
    c.args.input c.feed.ensures.goes (λ es o h. h) (λ es o h. h)

pub returns-clause-memory : goal.returns-clause-memory
returns-clause-memory c is = let m = c.feed.ensures.memory is in (m.0, λ es o h. m.1 es h.0 h.1)
