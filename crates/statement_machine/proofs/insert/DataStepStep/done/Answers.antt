use Rattle.std.proofs.Common.{rules}
use Rattle.std.specs.Prelude.{Some}
use Rattle.commit_attempts.specs.Machine.{first_after}
use Rattle.statement_types.specs.declared.refusal.Refusal.TheVariants as refusal
use Rattle.statement_steps.specs.Outcome.{Ends}
use Rattle.statement_machine.specs.Machine.{kept_of, landed_after}
use Rattle.statement_machine.proofs.Chain.{no_commit}
use Rattle.statement_machine.proofs.insert.DataStepStep.done.Goals as goal

pub returns-in-Err-clause-may : goal.returns-in-Err-clause-may
returns-in-Err-clause-may c es out h =
    let on = c.args.self.on in
    let ends : Ends out (kept_of on) refusal.NoMemory es = search rules in
    no_commit on.plan.tag on.plan.limit out (kept_of on) (record { start = on.start; retention = c.args.self.rules.retention; first = first_after (Some on.read.version) }) _ (landed_after (Some on.read.version)) es on.plan.some ends
