use Rattle.std.proofs.Common.{rules, ◌≡◌, ℕ, List, true, subst}
use Rattle.op_types.specs.declared.reply.Reply.TheVariants.{Created}
use Rattle.op_types.specs.declared.refusal.Refusal.TheVariants as refusal
use Rattle.line_texts.specs.Texts.{text_of_columns}
use Rattle.statement_calls.specs.Bounds.{most_attempts}
use Rattle.statement_calls.specs.Outcome.{Ends}
use Rattle.statement_calls.specs.Answered.{names_of, AtCommit}
use Rattle.txn_machine.specs.Machine.{GoesOn}
use Rattle.txn_machine.proofs.Chain.{no_commit}
use Rattle.txn_machine.proofs.Stages.{ended_goes}
use Rattle.txn_machine.proofs.table.commits.Goals as goal

pub returns-in-Ok : goal.returns-in-Ok
returns-in-Ok c =
    let a = c.args in
    let is : c.in-Ok.text ≡ text_of_columns (names_of a.spec.now.columns) = search rules in
    subst (λ (t : List ℕ). GoesOn most_attempts (λ out. AtCommit a.plan.tag a.plan.limit out a.kept a.start 0 (record { text = t; makes_table = true }) (λ l. Created)) c.begin.result) is c.begin.ensures

pub returns-in-Err : goal.returns-in-Err
returns-in-Err c =
    let a = c.args in
    ended_goes _ _ _ _ c.refused.ensures (λ es out h.
    let ends : Ends out a.kept refusal.NoMemory es = search rules in
    no_commit a.plan.tag a.plan.limit out a.kept a.start 0 _ (λ l. Created) es a.plan.some ends)
