-- How statements begin.
use Rattle.std.proofs.Common.{◌≡◌, inl, inr, ℕ, [], ◌∷◌, subst}
use Rattle.std.specs.Prelude.{Option, Some, None}
use Rattle.edge_api.specs.declared.call.Tag.{Tag}
use Rattle.edge_api.specs.declared.call.JournalEntry.{JournalEntry}
use Rattle.log_state.specs.Table.{Table}
use Rattle.statement_types.specs.declared.statement.Statement.{Statement}
use Rattle.statement_types.specs.declared.statement.Statement.TheVariants as statement
use Rattle.call_phases.specs.Phases.{Entries}
use Rattle.call_phases.specs.Ending.{Ending, ThenBy}
use Rattle.call_phases.specs.Endings.{IsOpenEnd}
use Rattle.call_phases.specs.declared.fault.CallFault.{CallFault}
use Rattle.call_phases.specs.declared.fault.CallFault.TheVariants as fault
use Rattle.statement_steps.specs.declared.finish.Finish.{Finish}
use Rattle.statement_steps.specs.Outcome.{refused, refusal_of_call, IsOpen}
use Rattle.statement_steps.specs.Answered.{Answered}
use Rattle.statement_steps.specs.Place.{IsFirstCall}

-- a phase of one call that hasn't been made
opens : {X : Type 0} (out : Option Finish) (kept : Option Table) (next : X → Entries → Type 0) (o : Ending CallFault X)
    → IsOpenEnd fault.NoMemory o → ThenBy (out ≡ None) (λ f. out ≡ Some (refused kept (refusal_of_call f))) next o → IsOpen out kept
opens out kept next o (inl e) h = inl (subst (ThenBy (out ≡ None) (λ f. out ≡ Some (refused kept (refusal_of_call f))) next) e h)
opens out kept next o (inr e) h = inr (subst (ThenBy (out ≡ None) (λ f. out ≡ Some (refused kept (refusal_of_call f))) next) e h)

pub opens_without_calls : (tag : Tag) (limit : ℕ) (kept : Option Table) (s : Statement) (out : Option Finish) → Answered tag limit kept s [] out → IsOpen out kept
opens_without_calls tag limit kept (statement.Table spec) out h = opens out kept _ h.0 h.1 h.2
opens_without_calls tag limit kept (statement.Insert rows) out h = opens out kept _ h.0 h.1 h.2
opens_without_calls tag limit kept statement.Select out h = opens out kept _ h.0 h.1 h.2
opens_without_calls tag limit kept (statement.Wait time) out h = opens out kept _ h.0 h.1 h.2

pub begins_first : (tag : Tag) (limit : ℕ) (kept : Option Table) (s : Statement) (out : Option Finish) (e : JournalEntry) (es : Entries) → Answered tag limit kept s (e ∷ es) out → IsFirstCall e.call
begins_first tag limit kept (statement.Table spec) out e es h = inl h.1.0
begins_first tag limit kept (statement.Insert rows) out e es h = inl h.1.0
begins_first tag limit kept statement.Select out e es h = inl h.1.0
begins_first tag limit kept (statement.Wait time) out e es h = inr (time, h.1.0)
