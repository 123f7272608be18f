use Rattle.call_phases.proofs.Fed.{steps_goes}
use Rattle.call_phases.proofs.step.feed.Goals as goal

pub returns-clause-goes : goal.returns-clause-goes
returns-clause-goes g c = steps_goes _ _ _ _ _ _ _ c.args.input c.feed.ensures.goes c.go.ensures.may

pub returns-clause-memory : goal.returns-clause-memory
returns-clause-memory g c is = let m = c.feed.ensures.memory is in c.go.ensures.stops m.0 m.1
