-- What a statement says of its commit and of the commits that won over it.
use Rattle.std.specs.Prelude.{◌≡◌, ℕ, Bool, true, false, List, Result, Ok, Err, MatchResult}
use Rattle.log_actions.specs.declared.action.Action.{Action}
use Rattle.commit_plans.specs.declared.plan.CommitPlan.{CommitPlan}
use Rattle.commit_plans.specs.Plans.{actions_at, behind}
use Rattle.commit_plans.specs.Texts.{Writes, IsTooLong}
use Rattle.statement_types.specs.declared.refusal.Clash.{Clash}
use Rattle.statement_types.specs.declared.refusal.Clash.TheVariants as clash
use Rattle.commit_attempts.specs.declared.judge.BodyFault.{BodyFault}
use Rattle.commit_attempts.specs.declared.judge.BodyFault.TheVariants as body_fault
use Rattle.commit_attempts.specs.declared.judge.JudgeFault.{JudgeFault}
use Rattle.commit_attempts.specs.declared.judge.JudgeFault.TheVariants as judge_fault
use Rattle.commit_attempts.specs.declared.judge.Verdict.{Verdict}
use Rattle.commit_attempts.specs.declared.judge.Verdict.TheVariants as verdict

-- what a statement knows of its commit: its plan, and whether it makes the table
pub record Commit : Type 0 where
  pub plan : CommitPlan
  pub makes_table : Bool

-- there is no text of these actions: it would be too long, or memory was wanting
abbrev pub HasNoBody : BodyFault → List Action → Type 0
HasNoBody (body_fault.TooLarge bytes) all = IsTooLong bytes all
HasNoBody body_fault.NoMemory all = Unit {0}

-- the text of an attempt is that of the plan's actions at the reading of the clock
abbrev pub Bodies : Commit → ℕ → Result (List ℕ) BodyFault → Commit → Type 0
Bodies c now made new = (new ≡ c) × MatchResult made (λ text. Writes text (actions_at c.plan now)) (λ f. HasNoBody f (actions_at c.plan now))

-- a commit behind a winner
abbrev pub follows : Commit → List Action → Commit
follows c winner = record { plan = behind c.plan winner; makes_table = c.makes_table }

-- for want of memory alone there is no verdict
abbrev pub IsWanting : JudgeFault → Type 0
IsWanting (judge_fault.Value name) = ⊥
IsWanting judge_fault.NoMemory = Unit {0}

-- a table's making clashes with every winner, and any other commit follows it
abbrev pub JudgesBy : Commit → List Action → Verdict Clash → Commit → Type 0
JudgesBy c winner (verdict.Clear held) new = (c.makes_table ≡ false) × (new ≡ follows c winner)
JudgesBy c winner (verdict.Clash said) new = (c.makes_table ≡ true) × (said ≡ clash.Protocol)

abbrev pub Judges : Commit → List Action → Result (Verdict Clash) JudgeFault → Commit → Type 0
Judges c winner (Ok v) new = JudgesBy c winner v new
Judges c winner (Err f) new = IsWanting f
