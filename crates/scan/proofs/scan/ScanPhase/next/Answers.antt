use Rattle.std.proofs.Common.{refl}
use Rattle.call_phases.specs.Ending.{Open}
use Rattle.scan.proofs.scan.ScanPhase.next.Goals as goal

pub returns-clause-covers : goal.returns-clause-covers
returns-clause-covers c es o h = (h.0, c.next.ensures.covers es h.0 h.1, h.2)

pub returns-clause-open : goal.returns-clause-open
returns-clause-open c some = (Open, c.next.ensures.open some, refl)
