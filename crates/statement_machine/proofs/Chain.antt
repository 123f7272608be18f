-- The arrows of a statement: a phase, and what follows it, told of what the judge stands for.
use Rattle.std.proofs.Common.{◌≡◌, inl, inr, ℕ, zero, suc, ◌<◌, List, [], refl, sym, subst, arith, Bool, true, false}
use Rattle.std.specs.Prelude.{Option, Some, None, MatchBool, MatchResult, IfSome, IsSome, Result, Ok, Err}
use Rattle.edge_api.specs.declared.call.Tag.{Tag}
use Rattle.edge_api.specs.declared.actor.Fed.TheVariants.{NoMemory}
use Rattle.edge_api.specs.declared.call.Listed.{Listed}
use Rattle.log_state.specs.Table.{Table}
use Rattle.predicates.specs.declared.pred.Pred.TheVariants.{Always}
use Rattle.scan.specs.Scans.{ScansAll}
use Rattle.scan.specs.declared.scan.Scanned.{Scanned}
use Rattle.scan.specs.declared.fault.ScanFault.{ScanFault}
use Rattle.snapshot_load.specs.Loads.{LoadsAll}
use Rattle.snapshot_load.specs.declared.loaded.Asked.TheVariants.{Newest}
use Rattle.snapshot_load.specs.declared.loaded.Loaded.{Loaded}
use Rattle.snapshot_load.specs.declared.fault.LoadFailed.{LoadFailed}
use Rattle.table_definition.specs.declared.definition.Definition.{Definition}
use Rattle.statement_steps.specs.declared.statement.LoadedStatement.{LoadedStatement}
use Rattle.statement_types.specs.declared.refusal.Refusal.TheVariants as refusal
use Rattle.statement_types.specs.declared.reply.Reply.{Reply}
use Rattle.call_phases.specs.Phases.{Entries}
use Rattle.call_phases.specs.Ending.{Ending, Failed}
use Rattle.call_phases.specs.Endings.{Then, HasFailed}
use Rattle.call_phases.specs.Requests.{ReadsClock, ListsNames, WaitsFor}
use Rattle.call_phases.specs.declared.fault.CallFault.TheVariants as fault
use Rattle.table_rules.specs.Names.{log_prefix}
use Rattle.call_phases.specs.Machine.{Stops}
use Rattle.call_phases.specs.Step.{FedBy}
use Rattle.commit_attempts.specs.Attempts.{Terms, AttemptsEnd}
use Rattle.commit_attempts.specs.declared.fault.Landed.{Landed}
use Rattle.commit_attempts.specs.declared.fault.Won.{Won}
use Rattle.commit_attempts.proofs.Endings.{then_attempts_view}
use Rattle.statement_steps.specs.declared.finish.Finish.{Finish}
use Rattle.statement_steps.specs.declared.judge.CommitJudge.{CommitJudge}
use Rattle.statement_steps.specs.Judging.{Commit, Bodies, Judges}
use Rattle.statement_steps.specs.Judged.{commit_of, Makes, Says}
use Rattle.statement_steps.specs.declared.statement.OverTable.{OverTable}
use Rattle.statement_steps.specs.Outcome.{refused, refusal_of_scan, refusal_of_load, refusal_of_attempt, IsOpen, Ends, Replies}
use Rattle.statement_steps.specs.Answered.{AtCommit, Selects, LoadsVersion, AfterClock, Begins, Waits}
use Rattle.statement_machine.specs.declared.stage.Stage.{Stage}
use Rattle.statement_machine.specs.Machine.{ByAttempt, call_of, Rest}

pub match_true : (b : Bool) (P Q : Type 0) → b ≡ true → P → MatchBool b P Q
match_true true P Q is h = h
match_true false P Q is h = cc

pub match_ok : {A E : Type 0} (r : Result A E) (x : A) (P : A → Type 0) (Q : E → Type 0) → r ≡ Ok x → P x → MatchResult r P Q
match_ok (Ok y) x P Q is h = let same : y ≡ x = cc in subst P (sym same) h
match_ok (Err e) x P Q is h = cc

pub match_err : {A E : Type 0} (r : Result A E) (e : E) (P : A → Type 0) (Q : E → Type 0) → r ≡ Err e → Q e → MatchResult r P Q
match_err (Ok y) e P Q is h = cc
match_err (Err d) e P Q is h = let same : d ≡ e = cc in subst Q (sym same) h

module _ (tag : Tag) (limit : ℕ) (out : Option Finish) where
  -- the commit is attempted, and the reply follows
  pub then_commit : (kept : Option Table) (terms : Terms) (j : CommitJudge) (landed : Landed → Reply) (es : Entries)
      → Then (AttemptsEnd Makes Says terms limit 0 [] j) (out ≡ None) (ByAttempt kept out) (λ (w : Won CommitJudge) rest. Replies out kept (landed w.landed) rest) es
      → AtCommit tag limit out kept terms (commit_of j) landed es
  then_commit kept terms j landed es h =
      then_attempts_view commit_of Makes Says Bodies Judges (λ j now made new b. b) (λ j winner v new b. b) terms (out ≡ None) (ByAttempt kept out)
      (λ c. IsOpen out kept) (λ c f rest. Ends out kept (refusal_of_attempt f) rest) (λ c l rest. Replies out kept (landed l) rest) es (λ k e. inl e) (λ l e. (refl, e)) (λ j e. inr e)
      (λ (w : Won CommitJudge) rest. Replies out kept (landed w.landed) rest) (λ j l rest e. e) limit 0 [] j h

  -- memory was wanting before the first attempt
  pub no_commit : (kept : Option Table) (terms : Terms) (c : Commit) (landed : Landed → Reply) (es : Entries) → 0 < limit → Ends out kept refusal.NoMemory es → AtCommit tag limit out kept terms c landed es
  no_commit kept terms c landed es some h = by limit some
    where
      by : (n : ℕ) → 0 < n → AtCommit tag n out kept terms c landed es
      by zero some = absurd (omega (arith, some))
      by (suc n) some = subst (AtCommit tag (suc n) out kept terms c landed) (sym h.0) (inr h.1)

-- a phase that failed at once: its fault is the refusal
module _ (tag : Tag) (limit : ℕ) (out : Option Finish) where
  pub no_scan : (read : ℕ) (d : Definition) (t : Table) (kept : Option Table) (f : ScanFault) (es : Entries) → ((es : Entries) (o : Ending ScanFault Scanned) → HasFailed o f es → ScansAll d.schema Always t es o)
      → es ≡ [] → out ≡ Some (refused kept (refusal_of_scan f)) → Selects tag limit out read d t kept es
  no_scan read d t kept f es begins none is = (Failed f, begins es (Failed f) (none, refl), is)

  pub no_load : (s : LoadedStatement) (start : ℕ) (l : List Listed) (kept : Option Table) (read : ℕ) (f : LoadFailed) (es : Entries)
      → ((es : Entries) (o : Ending LoadFailed Loaded) → HasFailed o f es → LoadsAll Newest l kept es o) → es ≡ [] → out ≡ Some (refused f.kept (refusal_of_load f.fault)) → LoadsVersion tag limit out s start l kept read es
  no_load s start l kept read f es begins none is = (Failed f, begins es (Failed f) (none, refl), is)

-- memory was wanting before the first call
module _ (tag : Tag) (limit : ℕ) (out : Option Finish) (kept : Option Table) (es : Entries) (h : (es ≡ []) × (out ≡ Some (refused kept refusal.NoMemory))) where
  pub no_clock : (s : OverTable) → Begins tag limit out s kept es
  no_clock s = (Failed fault.NoMemory, subst (λ (l : Entries). ReadsClock l (Failed fault.NoMemory)) (sym h.0) (inr refl), h.1)

  pub no_list : (s : OverTable) (start : ℕ) → AfterClock tag limit out s kept start es
  no_list s start = (Failed fault.NoMemory, subst (λ (l : Entries). ListsNames log_prefix l (Failed fault.NoMemory)) (sym h.0) (inr refl), h.1)

  pub no_wait : (time : ℕ) → Waits tag limit out time kept es
  no_wait time = (Failed fault.NoMemory, subst (λ (l : Entries). WaitsFor time l (Failed fault.NoMemory)) (sym h.0) (inr refl), h.1)

-- memory was wanting for the call of a phase: nothing follows
if_some : {A : Type 0} (o : Option A) (P : Type 0) → IsSome o → IfSome o (λ a. P) → P
if_some None P some h = cc
if_some (Some a) P some h = h

pub unfed_at : (self old new : Stage) → self ≡ old → IsSome (call_of self) → IfSome (call_of old) (λ call. FedBy (Rest old) call NoMemory (Rest new)) → Stops Rest self new
unfed_at self old new is some goes = subst (λ (s : Stage). Stops Rest s new) (sym is) (if_some (call_of old) (Stops Rest old new) (subst (λ (s : Stage). IsSome (call_of s)) is some) goes)
