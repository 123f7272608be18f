use Rattle.statement_machine.proofs.Chain.{no_clock}
use Rattle.statement_machine.proofs.Stages.{ended_starts}
use Rattle.statement_machine.proofs.stage.Stage.begin_clock.Goals as goal

pub returns-in-None : goal.returns-in-None
returns-in-None c =
    let a = c.args in
    ended_starts _ _ _ c.refused.ensures (λ es out h. no_clock a.plan.tag a.plan.limit out a.kept es h a.statement)
