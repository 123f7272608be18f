-- The judge of a statement's commit, told of the commit that it stands for.
use Rattle.std.specs.Prelude.{ℕ, List, Result}
use Rattle.log_actions.specs.declared.action.Action.{Action}
use Rattle.statement_types.specs.declared.refusal.Clash.{Clash}
use Rattle.commit_attempts.specs.declared.judge.BodyFault.{BodyFault}
use Rattle.commit_attempts.specs.declared.judge.JudgeFault.{JudgeFault}
use Rattle.commit_attempts.specs.declared.judge.Verdict.{Verdict}
use Rattle.statement_steps.specs.Judging.{Commit, Bodies, Judges}
use Rattle.statement_steps.specs.declared.judge.CommitJudge.{CommitJudge}

abbrev pub commit_of : CommitJudge → Commit
commit_of j = record { plan = j.plan; makes_table = j.makes_table }

abbrev pub Makes : CommitJudge → ℕ → Result (List ℕ) BodyFault → CommitJudge → Type 0
Makes j now made new = Bodies (commit_of j) now made (commit_of new)

abbrev pub Says : CommitJudge → List Action → Result (Verdict Clash) JudgeFault → CommitJudge → Type 0
Says j winner said new = Judges (commit_of j) winner said (commit_of new)
