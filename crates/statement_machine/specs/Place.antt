-- Where the actor of a statement stands: before its first call, or by its next call.
use Rattle.std.specs.Prelude.{Bool, true, false}
use Rattle.edge_api.specs.declared.actor.Stage.{Stage as Place}
use Rattle.edge_api.specs.declared.actor.Stage.TheVariants as place
use Rattle.statement_steps.specs.Place.{place_at}
use Rattle.statement_machine.specs.declared.stage.Stage.{Stage}
use Rattle.statement_machine.specs.declared.stage.Stage.TheVariants as stage
use Rattle.statement_machine.specs.Machine.{call_of}

-- whether it is the first stage
abbrev pub is_first : Stage → Bool
is_first (stage.Wait s w) = true
is_first (stage.Clock s c) = true
is_first (stage.List s l) = false
is_first (stage.Load s l) = false
is_first (stage.Scan s f) = false
is_first (stage.Data s w) = false
is_first (stage.Commit s a) = false
is_first (stage.Done f) = false

abbrev pub place_of : Stage → Place
place_of s = place_at (is_first s) (call_of s)

-- after the first call of a statement and before its end
abbrev pub IsWithin : Place → Type 0
IsWithin place.Between = ⊥
IsWithin place.Running = Unit {0}
IsWithin place.Attempt = Unit {0}
IsWithin place.Done = ⊥
