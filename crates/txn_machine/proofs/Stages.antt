-- How a statement goes on at a stage.
use Rattle.std.proofs.Common.{◌≡◌, ℕ, [], refl, sym, subst, arith, rules}
use Rattle.std.specs.Prelude.{Option, Some, None}
use Rattle.call_phases.specs.Phases.{Entries}
use Rattle.call_phases.specs.declared.phase.Ready.{Ready}
use Rattle.statement_calls.specs.declared.finish.Finish.{Finish}
use Rattle.txn_machine.specs.declared.stage.Stage.{Stage}
use Rattle.txn_machine.specs.declared.stage.Stage.TheVariants as stage
use Rattle.txn_machine.specs.Machine.{GoesOn}

-- it goes on with what is still to come as it went on with what came of it
pub goes_by : (most : ℕ) (before next : Option Finish → Entries → Type 0) (r : Ready Stage)
    → GoesOn most before r → ((es : Entries) (out : Option Finish) → before out es → next out es) → GoesOn most next r
goes_by most before next r g f =
    record { ready = g.ready; settled = g.settled; left = g.left; some = g.some; may = λ es out h. f es out (g.may es out h) }

-- it has ended
pub ended_goes : (most : ℕ) (next : Option Finish → Entries → Type 0) (r : Ready Stage) (f : Finish)
    → r ≡ record { stage = stage.Done f; call = None } → ((es : Entries) (out : Option Finish) → (es ≡ []) × (out ≡ Some f) → next out es) → GoesOn most next r
ended_goes most next r f is may =
    subst (λ (s : Ready Stage). GoesOn most next s) (sym is) (record { ready = refl; settled = refl; left = omega arith; some = search rules; may = may })
