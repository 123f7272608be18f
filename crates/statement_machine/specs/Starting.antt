-- How a statement begins.
use Rattle.std.specs.Prelude.{◌≡◌, ◌≤◌, true, Option, IfSome}
use Rattle.edge_api.specs.declared.actor.Stage.TheVariants as place
use Rattle.call_phases.specs.Phases.{Entries}
use Rattle.call_phases.specs.Machine.{LeftBy}
use Rattle.call_phases.specs.declared.phase.Ready.{Ready}
use Rattle.statement_steps.specs.declared.finish.Finish.{Finish}
use Rattle.statement_steps.specs.Bounds.{most_calls}
use Rattle.statement_machine.specs.declared.stage.Stage.{Stage}
use Rattle.statement_machine.specs.Machine.{call_of, left_of, is_settled, Rest}
use Rattle.statement_machine.specs.Place.{place_of}

-- it stands at its first stage, whose call is made ready: with as many answers as any statement may have, and with what may come
pub record StartsAs (next : Option Finish → Entries → Type 0) (r : Ready Stage) : Type 0 where
  pub ready : r.call ≡ call_of r.stage
  pub settled : is_settled r.stage ≡ true
  pub left : left_of r.stage ≤ most_calls
  pub some : LeftBy (left_of r.stage) r.call
  pub first : IfSome r.call (λ call. place_of r.stage ≡ place.Between)
  pub may : (es : Entries) (out : Option Finish) → Rest r.stage es out → next out es
