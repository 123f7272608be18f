-- How a statement goes on at a stage.
use Rattle.std.proofs.Common.{◌≡◌, ℕ, [], ◌∷◌, refl, sym, subst, arith, rules}
use Rattle.std.specs.Prelude.{Option, Some, None, IfSome}
use Rattle.edge_api.specs.declared.call.Call.{Call}
use Rattle.edge_api.specs.declared.call.Answer.{Answer}
use Rattle.call_phases.specs.Machine.{Leads}
use Rattle.call_phases.specs.Step.{Steps}
use Rattle.call_phases.specs.Phases.{Entries}
use Rattle.call_phases.specs.Ending.{Ending, Failed}
use Rattle.call_phases.specs.Endings.{Then, HasFailed}
use Rattle.call_phases.specs.declared.phase.Ready.{Ready}
use Rattle.statement_steps.specs.declared.finish.Finish.{Finish}
use Rattle.statement_machine.specs.declared.stage.Stage.{Stage}
use Rattle.statement_machine.specs.declared.stage.Stage.TheVariants as stage
use Rattle.statement_machine.specs.Machine.{call_of, Rest, GoesOn}
use Rattle.statement_machine.specs.Starting.{StartsAs}

-- it goes on with what is still to come as it went on with what came of it
pub goes_by : (most : ℕ) (before next : Option Finish → Entries → Type 0) (r : Ready Stage)
    → GoesOn most before r → ((es : Entries) (out : Option Finish) → before out es → next out es) → GoesOn most next r
goes_by most before next r g f =
    record { ready = g.ready; settled = g.settled; left = g.left; some = g.some; may = λ es out h. f es out (g.may es out h) }

-- it has ended
pub ended_goes : (most : ℕ) (next : Option Finish → Entries → Type 0) (r : Ready Stage) (f : Finish)
    → r ≡ record { stage = stage.Done f; call = None } → ((es : Entries) (out : Option Finish) → (es ≡ []) × (out ≡ Some f) → next out es) → GoesOn most next r
ended_goes most next r f is may =
    subst (λ (s : Ready Stage). GoesOn most next s) (sym is) (record { ready = refl; settled = refl; left = omega arith; some = search rules; may = may })

module _ {F X : Type 0} (P Q : Entries → Ending F X → Type 0) (A : Type 0) (B : F → Type 0) (next : X → Entries → Type 0) (es : Entries) where
  -- a phase that comes where another may come
  pub leads_on : ((es : Entries) (o : Ending F X) → P es o → Q es o) → Then P A B next es → Then Q A B next es
  leads_on f h = (h.0, f es h.0 h.1, h.2)

-- a phase that has failed at once
pub fails_at : {F X : Type 0} (P : Entries → Ending F X → Type 0) (A : Type 0) (B : F → Type 0) (next : X → Entries → Type 0) (f : F) (es : Entries)
    → ((es : Entries) (o : Ending F X) → HasFailed o f es → P es o) → es ≡ [] → B f → Then P A B next es
fails_at P A B next f es begins none fails = (Failed f, begins es (Failed f) (none, refl), fails)

-- it has its reply before its first call
pub ended_starts : (next : Option Finish → Entries → Type 0) (r : Ready Stage) (f : Finish)
    → r ≡ record { stage = stage.Done f; call = None } → ((es : Entries) (out : Option Finish) → (es ≡ []) × (out ≡ Some f) → next out es) → StartsAs next r
ended_starts next r f is may =
    subst (λ (s : Ready Stage). StartsAs next s) (sym is) (record { ready = refl; settled = refl; left = omega arith; some = search rules; first = search rules; may = may })

-- a phase goes on with an answer, and so does its stage
module _ {P F X : Type 0} (rest : P → Entries → Ending F X → Type 0) (fails : Option Finish → F → Type 0) (next : Option Finish → X → Entries → Type 0) (at : P → Stage)
    (from : (p : P) (es : Entries) (out : Option Finish) → Rest (at p) es out → Steps (rest p) fails next es out) (to : (p : P) (es : Entries) (out : Option Finish) → Steps (rest p) fails next es out → Rest (at p) es out) where
  pub stage_leads : (self : Stage) (answer : Answer) (old new : P) → self ≡ at old → IfSome (call_of (at old)) (λ call. Leads rest old call answer new) → IfSome (call_of self) (λ call. Leads Rest self call answer (at new))
  stage_leads self answer old new is leads = subst (λ (s : Stage). IfSome (call_of s) (λ call. Leads Rest s call answer (at new))) (sym is) (by (call_of (at old)) leads)
    where
      by : (o : Option Call) → IfSome o (λ call. Leads rest old call answer new) → IfSome o (λ call. Leads Rest (at old) call answer (at new))
      by None h = tt
      by (Some call) h = λ tag es out r. let s = from new es out r in to old (record { tag = tag; call = call; answer = answer } ∷ es) out (s.0, h tag es s.0 s.1, s.2)
