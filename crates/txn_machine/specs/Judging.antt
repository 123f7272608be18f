-- The judge of a statement's commit, told of the plan that it stands for.
use Rattle.std.specs.Prelude.{ℕ, List, Result}
use Rattle.op_types.specs.declared.refusal.Clash.{Clash}
use Rattle.committer.specs.declared.judge.BodyFault.{BodyFault}
use Rattle.committer.specs.declared.judge.Verdict.{Verdict}
use Rattle.statement_calls.specs.Judging.{CommitPlan, Bodies, Judges}
use Rattle.txn_machine.specs.declared.judge.CommitJudge.{CommitJudge}

abbrev pub plan_of : CommitJudge → CommitPlan
plan_of j = record { text = j.text; makes_table = j.makes_table }

abbrev pub Makes : CommitJudge → ℕ → Result (List ℕ) BodyFault → CommitJudge → Type 0
Makes j now made new = Bodies (plan_of j) now made (plan_of new)

abbrev pub Says : CommitJudge → List ℕ → Verdict Clash → CommitJudge → Type 0
Says j winner v new = Judges (plan_of j) winner v (plan_of new)
