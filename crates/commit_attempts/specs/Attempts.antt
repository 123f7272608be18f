-- The attempts of a commit: optimistic concurrency on a log with put-if-absent. Each attempt is at the version after the one before.
use Rattle.std.specs.Prelude.{◌⊎◌, ℕ, zero, suc, ◌+◌, ◌*◌, ◌-◌, nat_lt, Bool, List, [], ◌∷◌, ◌++◌, Result, Ok, Err, MatchBool, MatchResult}
use Rattle.std.specs.Str.{bytes_eq}
use Rattle.table_rules.specs.Names.{commit_text}
use Rattle.log_actions.specs.declared.action.Action.{Action}
use Rattle.log_actions.specs.Commit.{actions_of}
use Rattle.call_phases.specs.Phases.{Entries, AtNow, AtGet, AtPutNew}
use Rattle.call_phases.specs.Ending.{Ending}
use Rattle.call_phases.specs.Endings.{IsOpenEnd, HasFailed, HasEnded}
use Rattle.call_phases.specs.Called.{called_now, called_put, called_get}
use Rattle.commit_attempts.specs.declared.judge.BodyFault.{BodyFault}
use Rattle.commit_attempts.specs.declared.judge.BodyFault.TheVariants as body_fault
use Rattle.commit_attempts.specs.declared.judge.JudgeFault.{JudgeFault}
use Rattle.commit_attempts.specs.declared.judge.Verdict.{Verdict}
use Rattle.commit_attempts.specs.declared.judge.Verdict.TheVariants as verdict
use Rattle.commit_attempts.specs.declared.fault.AttemptFault.{AttemptFault}
use Rattle.commit_attempts.specs.declared.fault.AttemptFault.TheVariants as fault
use Rattle.commit_attempts.specs.declared.fault.Landed.{Landed}
use Rattle.commit_attempts.specs.declared.fault.Lost.{Lost}
use Rattle.commit_attempts.specs.declared.fault.Won.{Won}
use Rattle.commit_attempts.specs.Faults.{fault_of_commit, fault_of_judge}

-- what attempts are told: the start of the statement, the table's retention, both in milliseconds, and the version of the first attempt
pub record Terms : Type 0 where
  pub start : ℕ
  pub retention : ℕ
  pub first : ℕ

-- whether twice the time since the start exceeds the retention
abbrev pub outlasts : Terms → ℕ → Bool
outlasts terms now = nat_lt terms.retention (2 * (now - terms.start))

-- by a judge's text: want of memory, too many bytes, or the text
abbrev pub OnBody : Result (List ℕ) BodyFault → Type 0 → (ℕ → Type 0) → (List ℕ → Type 0) → Type 0
OnBody (Ok text) memory large made = made text
OnBody (Err body_fault.NoMemory) memory large made = memory
OnBody (Err (body_fault.TooLarge bytes)) memory large made = large bytes

-- by a judge's verdict on a winner: clear, or a clash
abbrev pub OnVerdict : {C : Type 0} → Verdict C → Type 0 → (C → Type 0) → Type 0
OnVerdict (verdict.Clear winner) clear clash = clear
OnVerdict (verdict.Clash c) clear clash = clash c

-- J: what a judge knows, and C: its clashes. `bodies old now text new` and `judges old winner answer new` are what its calls meet
module _ {J C : Type 0} (bodies : J → ℕ → Result (List ℕ) BodyFault → J → Type 0) (judges : J → List Action → Result (Verdict C) JudgeFault → J → Type 0) (terms : Terms)
    (open_end : J → Type 0) (fails : J → AttemptFault C → Entries → Type 0) (lands : J → Landed → Entries → Type 0) where
  -- by what the judge says of a winner: without a clash the next attempt may come
  abbrev pub JudgeSays : ℕ → J → List Action → (J → Entries → Type 0) → Entries → Type 0
  JudgeSays version j winner again es =
      (r : Result (Verdict C) JudgeFault) × (new : J) × judges j winner r new
      × MatchResult r (λ v. OnVerdict v (again new es) (λ clash. fails new (fault.Conflict version clash) es)) (λ f. fails new (fault_of_judge (commit_text version) f) es)

  -- the commit of a winner is read, where memory is there, and its actions are judged
  abbrev pub Judged : ℕ → J → List ℕ → (List Action → J → Entries → Type 0) → Entries → Type 0
  Judged version j body again es =
      fails j fault.NoMemory es
      ⊎ MatchResult (actions_of body) (λ winner. JudgeSays version j winner (again winner) es) (λ f. fails j (fault_of_commit (commit_text version) f) es)

  -- the name was taken: the winner is got and judged
  abbrev pub AtWinner : ℕ → J → (List Action → J → Entries → Type 0) → Entries → Type 0
  AtWinner version j again es =
      AtGet (open_end j) (commit_text version) (λ rest. fails j (fault.Fault (called_get (commit_text version))) rest) (λ rest. fails j (fault.LogGone (commit_text version)) rest)
      (λ body rest. Judged version j body again rest) es

  -- the reply was lost: the commit is read back. The same bytes are the statement's own commit, other bytes are a winner
  abbrev pub AtReadBack : ℕ → J → List ℕ → (Entries → Type 0) → (List Action → J → Entries → Type 0) → Entries → Type 0
  AtReadBack version j text landed again es =
      AtGet (open_end j) (commit_text version) (λ rest. fails j (fault.OutcomeUnknown version) rest) (λ rest. fails j (fault.Fault (called_put (commit_text version))) rest)
      (λ found rest. MatchBool (bytes_eq found text) (landed rest) (Judged version j found again rest)) es

  -- the put of the commit
  abbrev pub AtCommitPut : ℕ → J → List ℕ → (Entries → Type 0) → (List Action → J → Entries → Type 0) → Entries → Type 0
  AtCommitPut version j text landed again es =
      AtPutNew (open_end j) (commit_text version) text (λ rest. AtReadBack version j text landed again rest) landed (λ rest. AtWinner version j again rest) es

  -- the judge makes the text for this reading of the clock, and it is put
  abbrev pub Puts : ℕ → ℕ → J → (J → Entries → Type 0) → (List Action → J → Entries → Type 0) → Entries → Type 0
  Puts version now j landed again es =
      (made : Result (List ℕ) BodyFault) × (new : J) × bodies j now made new
      × OnBody made (fails new fault.NoMemory es) (λ bytes. fails new (fault.TooLarge bytes) es) (λ text. AtCommitPut version new text (landed new) again es)

  -- after a reading of the clock: an attempt that comes too late isn't made
  abbrev pub InTime : ℕ → ℕ → J → (J → Entries → Type 0) → (List Action → J → Entries → Type 0) → Entries → Type 0
  InTime version now j landed again es = MatchBool (outlasts terms now) (fails j (fault.Outlasted terms.start now) es) (Puts version now j landed again es)

  -- so many attempts at most, where so many were lost already to these winners
  abbrev pub AtAttempt : ℕ → ℕ → List (List Action) → J → Entries → Type 0
  AtAttempt zero lost winners j es = fails j (fault.TooManyAttempts lost) es
  AtAttempt (suc left) lost winners j es =
      AtNow (open_end j) (λ rest. fails j (fault.Fault called_now) rest)
      (λ now rest. InTime (terms.first + lost) now j
      (λ new. lands new (record { version = terms.first + lost; attempts = suc lost; now = now; winners = winners }))
      (λ winner new. AtAttempt left (suc lost) (winners ++ winner ∷ []) new) rest) es

-- how they end, by the judge and the fault, or the commit that landed
abbrev pub lost_by : {J C : Type 0} → J → AttemptFault C → Lost J C
lost_by j f = record { judge = j; fault = f }

abbrev pub won_by : {J : Type 0} → J → Landed → Won J
won_by j l = record { judge = j; landed = l }

abbrev pub IsOpenAt : {J C : Type 0} → Ending (Lost J C) (Won J) → J → Type 0
IsOpenAt o j = IsOpenEnd (lost_by j fault.NoMemory) o

abbrev pub FailsBy : {J C : Type 0} → Ending (Lost J C) (Won J) → J → AttemptFault C → Entries → Type 0
FailsBy o j f es = HasFailed o (lost_by j f) es

abbrev pub LandsBy : {J C : Type 0} → Ending (Lost J C) (Won J) → J → Landed → Entries → Type 0
LandsBy o j l es = HasEnded o (won_by j l) es

module _ {J C : Type 0} (bodies : J → ℕ → Result (List ℕ) BodyFault → J → Type 0) (judges : J → List Action → Result (Verdict C) JudgeFault → J → Type 0) (terms : Terms) where
  abbrev pub AttemptsEnd : ℕ → ℕ → List (List Action) → J → Entries → Ending (Lost J C) (Won J) → Type 0
  AttemptsEnd left lost winners j es o = AtAttempt bodies judges terms (IsOpenAt o) (FailsBy o) (LandsBy o) left lost winners j es
