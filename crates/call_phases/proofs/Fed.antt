-- A step that was fed.
use Rattle.std.specs.Prelude.{Option, Some, None, IfSome}
use Rattle.edge_api.specs.declared.call.Call.{Call}
use Rattle.edge_api.specs.declared.actor.Fed.{Fed}
use Rattle.edge_api.specs.declared.actor.Fed.TheVariants as fed
use Rattle.call_phases.specs.Phases.{Entries}
use Rattle.call_phases.specs.Ending.{Ending}
use Rattle.call_phases.specs.Machine.{Goes}
use Rattle.call_phases.specs.Step.{Steps, FedBy}

pub steps_goes : {P F X Y : Type 0} (rest : P → Entries → Ending F X → Type 0) (fails : Option Y → F → Type 0) (next : Option Y → X → Entries → Type 0) (may : Entries → Option Y → Type 0) (old new : P) (oc : Option Call) (input : Fed)
    → IfSome oc (λ c. Goes rest old c input new) → ((es : Entries) (reply : Option Y) → may es reply → Steps (rest new) fails next es reply) → IfSome oc (λ c. FedBy (Steps (rest old) fails next) c input may)
steps_goes rest fails next may old new None input goes on = tt
steps_goes rest fails next may old new (Some c) (fed.Answer answer) goes on = λ tag es reply h. let s = on es reply h in (s.0, goes tag es s.0 s.1, s.2)
steps_goes rest fails next may old new (Some c) fed.NoMemory goes on = λ es reply h.
    let s = on es reply h in
    let e = goes es s.0 s.1 in
    (e.0, (s.0, e.1, s.2))

-- what may come before it, at the stage of the step
pub stage_goes : {S Y : Type 0} (may : S → Entries → Option Y → Type 0) (before : Entries → Option Y → Type 0) (old new : S) (oc : Option Call) (input : Fed)
    → ((es : Entries) (reply : Option Y) → before es reply → may old es reply) → IfSome oc (λ c. FedBy before c input (may new)) → IfSome oc (λ c. Goes may old c input new)
stage_goes may before old new None input is goes = tt
stage_goes may before old new (Some c) (fed.Answer answer) is goes = λ tag es reply h. is _ reply (goes tag es reply h)
stage_goes may before old new (Some c) fed.NoMemory is goes = λ es reply h. let e = goes es reply h in (e.0, is es reply e.1)
