-- Attempts in a chain, told by what may follow them.
use Rattle.std.proofs.Common.{inl, inr, ℕ, List, [], Result, sym, subst}
use Rattle.log_actions.specs.declared.action.Action.{Action}
use Rattle.call_phases.specs.Phases.{Entries}
use Rattle.call_phases.specs.Ending.{ThenBy}
use Rattle.call_phases.specs.Endings.{Then}
use Rattle.commit_attempts.specs.declared.judge.BodyFault.{BodyFault}
use Rattle.commit_attempts.specs.declared.judge.JudgeFault.{JudgeFault}
use Rattle.commit_attempts.specs.declared.judge.Verdict.{Verdict}
use Rattle.commit_attempts.specs.declared.fault.AttemptFault.{AttemptFault}
use Rattle.commit_attempts.specs.declared.fault.AttemptFault.TheVariants as fault
use Rattle.commit_attempts.specs.declared.fault.Landed.{Landed}
use Rattle.commit_attempts.specs.declared.fault.Lost.{Lost}
use Rattle.commit_attempts.specs.declared.fault.Won.{Won}
use Rattle.commit_attempts.specs.Attempts.{Terms, AtAttempt, lost_by, won_by, IsOpenAt, FailsBy, LandsBy, AttemptsEnd}
use Rattle.commit_attempts.proofs.Views.{attempts_view}

-- by a judge, and told of what it stands for
pub then_attempts_view : {J K C : Type 0} (view : J → K) (bodies : J → ℕ → Result (List ℕ) BodyFault → J → Type 0) (judges : J → List Action → Result (Verdict C) JudgeFault → J → Type 0) (told_bodies : K → ℕ → Result (List ℕ) BodyFault → K → Type 0) (told_judges : K → List Action → Result (Verdict C) JudgeFault → K → Type 0)
    (makes : (j : J) (now : ℕ) (made : Result (List ℕ) BodyFault) (new : J) → bodies j now made new → told_bodies (view j) now made (view new)) (says : (j : J) (winner : List Action) (r : Result (Verdict C) JudgeFault) (new : J) → judges j winner r new → told_judges (view j) winner r (view new)) (terms : Terms)
    (A : Type 0) (B : Lost J C → Type 0) (O : K → Type 0) (fails : K → AttemptFault C → Entries → Type 0) (lands : K → Landed → Entries → Type 0) (es : Entries)
    (a : (k : K) → A → O k) (b : (l : Lost J C) → B l → fails (view l.judge) l.fault []) (m : (j : J) → B (lost_by j fault.NoMemory) → O (view j))
    (next : Won J → Entries → Type 0) (n : (new : J) (l : Landed) (rest : Entries) → next (won_by new l) rest → lands (view new) l rest) (left lost : ℕ) (winners : List (List Action)) (j : J)
    → Then (AttemptsEnd bodies judges terms left lost winners j) A B next es → AtAttempt told_bodies told_judges terms O fails lands left lost winners (view j) es
then_attempts_view view bodies judges told_bodies told_judges makes says terms A B O fails lands es a b m next n left lost winners j h =
    attempts_view view bodies judges told_bodies told_judges makes says terms (IsOpenAt h.0) O (FailsBy h.0) fails (LandsBy h.0) lands
    (λ j e. elim e as (λ x. O (view j)) [ inl q ↦ a (view j) (subst (ThenBy A B next) q h.2) | inr q ↦ m j (subst (ThenBy A B next) q h.2) ])
    (λ j f rest e. subst (λ r. fails (view j) f r) (sym e.0) (b (lost_by j f) (subst (ThenBy A B next) e.1 h.2)))
    (λ j l rest e. n j l rest (subst (ThenBy A B next) e h.2)) left lost winners j es h.1

pub then_attempts : {J C : Type 0} (bodies : J → ℕ → Result (List ℕ) BodyFault → J → Type 0) (judges : J → List Action → Result (Verdict C) JudgeFault → J → Type 0) (terms : Terms) (A : Type 0) (B : Lost J C → Type 0) (O : J → Type 0) (fails : J → AttemptFault C → Entries → Type 0) (es : Entries)
    (a : (j : J) → A → O j) (b : (l : Lost J C) → B l → fails l.judge l.fault []) (m : (j : J) → B (lost_by j fault.NoMemory) → O j) (next : Won J → Entries → Type 0) (left lost : ℕ) (winners : List (List Action)) (j : J)
    → Then (AttemptsEnd bodies judges terms left lost winners j) A B next es → AtAttempt bodies judges terms O fails (λ j l rest. next (won_by j l) rest) left lost winners j es
then_attempts bodies judges terms A B O fails es a b m next left lost winners j h =
    then_attempts_view (λ j. j) bodies judges bodies judges (λ j now made new e. e) (λ j winner r new e. e) terms A B O fails (λ j l rest. next (won_by j l) rest) es a b m next (λ j l rest e. e) left lost winners j h
