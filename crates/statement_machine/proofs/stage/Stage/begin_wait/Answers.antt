use Rattle.statement_machine.proofs.Chain.{no_wait}
use Rattle.statement_machine.proofs.Stages.{ended_starts}
use Rattle.statement_machine.proofs.stage.Stage.begin_wait.Goals as goal

pub returns-in-None : goal.returns-in-None
returns-in-None c =
    let a = c.args in
    ended_starts _ _ _ c.refused.ensures (λ es out h. no_wait a.plan.tag a.plan.limit out a.kept es h a.time)
