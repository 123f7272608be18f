-- The attempts that follow, by equal numbers and winners.
use Rattle.std.proofs.Common.{◌≡◌, ℕ, List, Result, IfSome, subst, sym}
use Rattle.edge_api.specs.declared.call.Answer.{Answer}
use Rattle.log_actions.specs.declared.action.Action.{Action}
use Rattle.call_phases.specs.Phases.{Entries}
use Rattle.call_phases.specs.Ending.{Ending}
use Rattle.commit_attempts.specs.declared.judge.BodyFault.{BodyFault}
use Rattle.commit_attempts.specs.declared.judge.JudgeFault.{JudgeFault}
use Rattle.commit_attempts.specs.declared.judge.Verdict.{Verdict}
use Rattle.commit_attempts.specs.declared.fault.Lost.{Lost}
use Rattle.commit_attempts.specs.declared.fault.Won.{Won}
use Rattle.commit_attempts.specs.declared.stage.Stage.{Stage}
use Rattle.commit_attempts.specs.declared.attempts.Attempts.{Attempts}
use Rattle.commit_attempts.specs.Machine.{call_at, Leads}
use Rattle.commit_attempts.specs.Attempts.{Terms, AttemptsEnd}

module _ {J C : Type 0} (bodies : J → ℕ → Result (List ℕ) BodyFault → J → Type 0) (judges : J → List Action → Result (Verdict C) JudgeFault → J → Type 0) where
  pub same_attempts : (terms : Terms) (m n lost more : ℕ) (ws vs : List (List Action)) (j : J) (es : Entries) (o : Ending (Lost J C) (Won J)) → m ≡ n → lost ≡ more → ws ≡ vs
      → AttemptsEnd bodies judges terms m lost ws j es o → AttemptsEnd bodies judges terms n more vs j es o
  same_attempts terms m n lost more ws vs j es o p q r h =
      subst (λ x. AttemptsEnd bodies judges terms x more vs j es o) p (subst (λ x. AttemptsEnd bodies judges terms m x vs j es o) q (subst (λ x. AttemptsEnd bodies judges terms m lost x j es o) r h))

  pub same_terms : (before after : Terms) (m : ℕ) (j : J) (ws : List (List Action)) (es : Entries) (o : Ending (Lost J C) (Won J)) → before ≡ after
      → AttemptsEnd bodies judges before m 0 ws j es o → AttemptsEnd bodies judges after m 0 ws j es o
  same_terms before after m j ws es o p h = subst (λ t. AttemptsEnd bodies judges t m 0 ws j es o) p h

  -- the stage that an answer is for
  pub leads_at : (old : Attempts J C) (s t : Stage C) (answer : Answer) (new : Attempts J C) (u : Stage C) → s ≡ t
      → IfSome (call_at t) (λ call. Leads bodies judges old t call answer new u) → IfSome (call_at s) (λ call. Leads bodies judges old s call answer new u)
  leads_at old s t answer new u p h = subst (λ x. IfSome (call_at x) (λ call. Leads bodies judges old x call answer new u)) (sym p) h
