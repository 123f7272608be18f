use Rattle.call_phases.specs.Puts as puts
use Rattle.call_phases.proofs.Maps.{maps_goes}
use Rattle.write_files.specs.Phase.{call_of, RestOf}
use Rattle.write_files.proofs.write.WriteOutPhase.feed.Goals as goal

pub returns-clause-goes : goal.returns-clause-goes
returns-clause-goes c =
    let old = c.args.self.now in
    maps_goes (λ f. f) (λ stored. old.adds) (λ p. puts.RestAt p.stage) RestOf old.puts c.feed.new.self old (record old { puts = c.feed.new.self }) (call_of old)
    c.args.input c.feed.ensures.goes (λ es o h. h) (λ es o h. h)

pub returns-clause-memory : goal.returns-clause-memory
returns-clause-memory c is = let m = c.feed.ensures.memory is in (m.0, λ es o h. m.1 es h.0 h.1)
