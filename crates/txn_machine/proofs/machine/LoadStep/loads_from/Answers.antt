use Rattle.std.proofs.Common.{rules, ◌≡◌, inr}
use Rattle.std.specs.Prelude.{Some, None}
use Rattle.op_types.specs.declared.refusal.Refusal.TheVariants as refusal
use Rattle.table_rules.specs.Names.{commit_text}
use Rattle.statement_calls.specs.Outcome.{Ends}
use Rattle.txn_machine.specs.Readers.{missing_for}
use Rattle.txn_machine.proofs.Chain.{match_none, map_gone, no_log}
use Rattle.txn_machine.proofs.Stages.{goes_by, ended_goes}
use Rattle.txn_machine.proofs.machine.LoadStep.loads_from.Goals as goal

pub returns-in-Ok-None : goal.returns-in-Ok-None
returns-in-Ok-None c =
    let a = c.args in
    let none : missing_for a.kept a.read.version a.listing.now ≡ None = search rules in
    goes_by _ _ _ _ c.begin.ensures (λ es out h. inr (match_none (missing_for a.kept a.read.version a.listing.now) _ _ none h))

pub returns-in-Ok-Some : goal.returns-in-Ok-Some
returns-in-Ok-Some c =
    let a = c.args in
    let version = c.in-Ok-Some.version in
    let some : missing_for a.kept a.read.version a.listing.now ≡ Some version = search rules in
    ended_goes _ _ _ _ c.refused.ensures (λ es out h.
    let ends : Ends out a.kept c.log_gone.result es = search rules in
    map_gone (missing_for a.kept a.read.version a.listing.now) version _ _ _ some (no_log a.plan.tag a.plan.limit out a.kept c.log_gone.result (refusal.LogGone (commit_text version)) es c.log_gone.ensures ends))
