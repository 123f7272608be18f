use Rattle.std.proofs.Common.{inr, true, subst}
use Rattle.table_rules.specs.Properties.{rules_of}
use Rattle.commit_plans.specs.declared.plan.CommitPlan.{CommitPlan}
use Rattle.statement_types.specs.declared.reply.Reply.TheVariants.{Created}
use Rattle.statement_steps.specs.Answered.{metadata_of, making_terms, AtCommit}
use Rattle.statement_machine.proofs.Chain.{match_ok}
use Rattle.statement_machine.proofs.Stages.{goes_by}
use Rattle.statement_machine.proofs.table.makes_schema.Goals as goal

pub returns-in-Ok : goal.returns-in-Ok
returns-in-Ok c =
    let a = c.args in
    let rules = c.in-Ok.field-0.rules in
    let made = c.in-Ok.ensures in
    goes_by _ _ _ _ c.begin.ensures (λ es out h.
    inr (match_ok (rules_of (metadata_of a.plan.tag a.start a.spec.now a.schema.now)) rules _ _ made.rules
    (made.reads, subst (λ (p : CommitPlan). AtCommit a.plan.tag a.plan.limit out a.kept (making_terms a.start rules) (record { plan = p; makes_table = true }) (λ l. Created) es) made.commit h)))
