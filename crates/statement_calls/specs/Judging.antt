-- What a statement says of its commit and of the commits that won over it.
use Rattle.std.specs.Prelude.{◌≡◌, ℕ, Bool, if◌then◌else◌, List, Result}
use Rattle.op_types.specs.declared.refusal.Clash.{Clash}
use Rattle.op_types.specs.declared.refusal.Clash.TheVariants as clash
use Rattle.committer.specs.declared.judge.BodyFault.{BodyFault}
use Rattle.committer.specs.declared.judge.Verdict.{Verdict}
use Rattle.committer.specs.declared.judge.Verdict.TheVariants as verdict
use Rattle.committer.specs.Attempts.{OnBody}

-- a commit with one text: a table's making, or an append
pub record CommitPlan : Type 0 where
  pub text : List ℕ
  pub makes_table : Bool

-- a plan makes the text that it holds, and stays as it is
abbrev pub Bodies : CommitPlan → ℕ → Result (List ℕ) BodyFault → CommitPlan → Type 0
Bodies p now made new = (new ≡ p) × OnBody made (Unit {0}) (λ bytes. ⊥) (λ text. text ≡ p.text)

-- a table's making clashes with every winner, and an append with none
abbrev pub verdict_of : CommitPlan → List ℕ → Verdict Clash
verdict_of p winner = if p.makes_table then verdict.Clash clash.Protocol else verdict.Clear winner

-- a plan says its verdict, and stays as it is
abbrev pub Judges : CommitPlan → List ℕ → Verdict Clash → CommitPlan → Type 0
Judges p winner v new = (new ≡ p) × (v ≡ verdict_of p winner)
