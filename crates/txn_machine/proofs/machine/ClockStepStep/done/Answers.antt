use Rattle.std.proofs.Common.{rules, ◌≡◌, ℕ, List, inl, inr, refl, subst}
use Rattle.std.specs.Prelude.{None}
use Rattle.table_rules.specs.Names.{log_prefix}
use Rattle.call_phases.specs.Phases.{AtList}
use Rattle.call_phases.specs.Called.{called_list}
use Rattle.call_phases.proofs.Chain.{then_list}
use Rattle.op_types.specs.declared.refusal.Refusal.TheVariants as refusal
use Rattle.statement_calls.specs.Outcome.{refusal_of_call, IsOpen, Ends}
use Rattle.statement_calls.specs.Answered.{AfterList}
use Rattle.txn_machine.specs.Machine.{ByCall}
use Rattle.txn_machine.proofs.machine.ClockStepStep.done.Goals as goal

pub returns-in-Ok-clause-may : goal.returns-in-Ok-clause-may
returns-in-Ok-clause-may c es out h =
    let self = c.args.self in
    let s = c.go.ensures.may es out h in
    let is : c.in-Ok.prefix ≡ log_prefix = search rules in
    let next = AfterList self.plan.tag self.plan.limit out self.statement self.kept c.args.start in
    subst (λ (p : List ℕ). AtList (IsOpen out self.kept) p (λ rest. Ends out self.kept (refusal.Fault (called_list p)) rest) next es) is
    (then_list (out ≡ None) (ByCall self.kept out) (IsOpen out self.kept) (λ f rest. Ends out self.kept (refusal_of_call f) rest) es inl (λ f q. (refl, q)) inr c.in-Ok.prefix next (s.0, c.new-names.ensures.begins es s.0 s.1, s.2))
