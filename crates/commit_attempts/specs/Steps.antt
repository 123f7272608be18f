-- The steps from one stage to the next.
use Rattle.std.specs.Prelude.{ℕ, suc, ◌+◌, List, Result, Ok, Err}
use Rattle.row_base.specs.declared.memory.NoMemory.{NoMemory}
use Rattle.log_actions.specs.declared.action.Action.{Action}
use Rattle.call_phases.specs.Phases.{Entries}
use Rattle.call_phases.specs.Ending.{Ending}
use Rattle.commit_attempts.specs.Attempts.{InTime, Judged, JudgeSays, AtCommitPut, IsOpenAt, FailsBy, LandsBy, AttemptsEnd}
use Rattle.commit_attempts.specs.Machine.{terms_of, call_at, EndAfter, EndLanded}
use Rattle.commit_attempts.specs.declared.judge.BodyFault.{BodyFault}
use Rattle.commit_attempts.specs.declared.judge.JudgeFault.{JudgeFault}
use Rattle.commit_attempts.specs.declared.judge.Verdict.{Verdict}
use Rattle.commit_attempts.specs.declared.fault.AttemptFault.{AttemptFault}
use Rattle.commit_attempts.specs.declared.fault.AttemptFault.TheVariants as fault
use Rattle.commit_attempts.specs.declared.fault.Landed.{Landed}
use Rattle.commit_attempts.specs.declared.fault.Lost.{Lost}
use Rattle.commit_attempts.specs.declared.fault.Won.{Won}
use Rattle.commit_attempts.specs.declared.stage.Stage.{Stage}
use Rattle.commit_attempts.specs.declared.stage.Stage.TheVariants as stage
use Rattle.call_phases.specs.declared.phase.Ready.{Ready}
use Rattle.commit_attempts.specs.declared.attempts.Attempts.{Attempts}

-- a stage with its call made ready
abbrev pub ahead_of : {C : Type 0} → Stage C → Ready (Stage C)
ahead_of s = record { stage = s; call = call_at s }

-- what was made, or the end for want of memory
abbrev pub or_no_memory : {C : Type 0} → Result (Ready (Stage C)) NoMemory → Ready (Stage C)
or_no_memory (Ok ahead) = ahead
or_no_memory (Err e) = ahead_of (stage.Failed fault.NoMemory)

-- the result of an ended stage, by the number of puts and the commits that won
abbrev pub result_of : {C : Type 0} → Stage C → ℕ → List (List Action) → Result Landed (AttemptFault C)
result_of (stage.Landed version now) attempts winners = Ok (record { version = version; attempts = attempts; now = now; winners = winners })
result_of (stage.Failed f) attempts winners = Err f
result_of (stage.Clock r) attempts winners = Err fault.NoMemory
result_of (stage.Put put) attempts winners = Err fault.NoMemory
result_of (stage.ReadBack put) attempts winners = Err fault.NoMemory
result_of (stage.Winner c) attempts winners = Err fault.NoMemory

module _ {J C : Type 0} (bodies : J → ℕ → Result (List ℕ) BodyFault → J → Type 0) (judges : J → List Action → Result (Verdict C) JudgeFault → J → Type 0) where
  -- an attempt comes
  abbrev pub ClockBy : Attempts J C → Entries → Ending (Lost J C) (Won J) → Type 0
  ClockBy a es o = AttemptsEnd bodies judges (terms_of a.progress) (suc a.progress.left) a.progress.lost a.winners.items a.judge es o

  -- the clock was read
  abbrev pub InTimeBy : Attempts J C → ℕ → Entries → Ending (Lost J C) (Won J) → Type 0
  InTimeBy a now es o =
      InTime bodies judges (terms_of a.progress) (IsOpenAt o) (FailsBy o) (LandsBy o) (a.progress.first + a.progress.lost) now a.judge
      (λ new rest. EndLanded a.progress a.winners.items (a.progress.first + a.progress.lost) now o new rest) (EndAfter bodies judges a.progress a.winners.items o) es

  -- the commit is put
  abbrev pub PutBy : Attempts J C → ℕ → List ℕ → Entries → Ending (Lost J C) (Won J) → Type 0
  PutBy a now text es o =
      AtCommitPut bodies judges (terms_of a.progress) (IsOpenAt o) (FailsBy o) (LandsBy o) (a.progress.first + a.progress.lost) a.judge text
      (λ rest. EndLanded a.progress a.winners.items (a.progress.first + a.progress.lost) now o a.judge rest) (EndAfter bodies judges a.progress a.winners.items o) es

  -- a winner is judged
  abbrev pub JudgeSaysBy : Attempts J C → ℕ → List Action → Entries → Ending (Lost J C) (Won J) → Type 0
  JudgeSaysBy a version winner es o =
      JudgeSays bodies judges (terms_of a.progress) (IsOpenAt o) (FailsBy o) (LandsBy o) version a.judge winner (EndAfter bodies judges a.progress a.winners.items o winner) es

  -- a winner is read and judged
  abbrev pub JudgedBy : Attempts J C → ℕ → List ℕ → Entries → Ending (Lost J C) (Won J) → Type 0
  JudgedBy a version body es o =
      Judged bodies judges (terms_of a.progress) (IsOpenAt o) (FailsBy o) (LandsBy o) version a.judge body (EndAfter bodies judges a.progress a.winners.items o) es
