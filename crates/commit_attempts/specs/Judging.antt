-- What a judge hands back.
use Rattle.std.specs.Prelude.{◌≡◌, List, Result, Ok, Err}
use Rattle.log_actions.specs.declared.action.Action.{Action}
use Rattle.commit_attempts.specs.declared.judge.JudgeFault.{JudgeFault}
use Rattle.commit_attempts.specs.declared.judge.Verdict.{Verdict}
use Rattle.commit_attempts.specs.declared.judge.Verdict.TheVariants as verdict

-- a clear verdict holds the winner that was judged
abbrev pub ClearHolds : {C : Type 0} → List Action → Result (Verdict C) JudgeFault → Type 0
ClearHolds winner (Ok (verdict.Clear held)) = held ≡ winner
ClearHolds winner (Ok (verdict.Clash c)) = Unit {0}
ClearHolds winner (Err f) = Unit {0}
