use Rattle.std.proofs.Common.{rules, ◌≡◌, []}
use Rattle.std.specs.Prelude.{Some}
use Rattle.statement_types.specs.declared.refusal.Refusal.TheVariants as refusal
use Rattle.statement_steps.specs.Outcome.{refused}
use Rattle.statement_machine.proofs.Chain.{no_list}
use Rattle.statement_machine.proofs.begin.ClockStepStep.done.Goals as goal

pub returns-in-Err-clause-may : goal.returns-in-Err-clause-may
returns-in-Err-clause-may c es out h =
    let self = c.args.self in
    let none : (es ≡ []) × (out ≡ Some (refused self.kept refusal.NoMemory)) = search rules in
    no_list self.plan.tag self.plan.limit out self.kept es none self.statement c.args.start
