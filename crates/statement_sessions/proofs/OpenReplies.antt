-- A statement that still has a call to make has no other reply than want of memory.
use Rattle.std.proofs.Common.{◌≡◌, inl, inr, ℕ, List, [], ap, ◌∙◌, subst}
use Rattle.std.specs.Prelude.{Option, Some, None, MatchOption, Result}
use Rattle.edge_api.specs.declared.call.Call.{Call}
use Rattle.statement_types.specs.declared.refusal.Refusal.TheVariants as refusal
use Rattle.statement_types.specs.declared.reply.Reply.TheVariants.{Refused}
use Rattle.call_phases.specs.Phases.{Entries}
use Rattle.call_phases.specs.Ending.{Ending, ThenBy}
use Rattle.call_phases.specs.Endings.{IsOpenEnd, Maps, map_ending}
use Rattle.call_phases.specs.Step.{Steps}
use Rattle.call_phases.specs.Request as request
use Rattle.call_phases.specs.Requests.{reading_call, prefix_call, waiting_call, ReadingRest, PrefixRest, WaitingRest}
use Rattle.call_phases.specs.GetsAt as gets
use Rattle.call_phases.specs.Puts as puts
use Rattle.call_phases.specs.declared.fault.CallFault.{CallFault}
use Rattle.call_phases.specs.declared.fault.CallFault.TheVariants as of_call
use Rattle.call_phases.specs.declared.request.RequestStage.{RequestStage}
use Rattle.call_phases.specs.declared.request.RequestStage.TheVariants as at_request
use Rattle.call_phases.specs.declared.gets.GetFault.{GetFault}
use Rattle.call_phases.specs.declared.gets.GetFault.TheVariants as of_get
use Rattle.call_phases.specs.declared.gets.GetsStage.{GetsStage}
use Rattle.call_phases.specs.declared.gets.GetsStage.TheVariants as at_get
use Rattle.call_phases.specs.declared.puts.PutFault.{PutFault}
use Rattle.call_phases.specs.declared.puts.PutFault.TheVariants as of_put
use Rattle.call_phases.specs.declared.puts.PutsStage.{PutsStage}
use Rattle.call_phases.specs.declared.puts.PutsStage.TheVariants as at_put
use Rattle.call_phases.specs.declared.reader.Reader.{Ghosts}
use Rattle.commit_attempts.specs.declared.fault.AttemptFault.TheVariants as of_attempt
use Rattle.commit_attempts.specs.declared.fault.Lost.{Lost}
use Rattle.commit_attempts.specs.declared.fault.Won.{Won}
use Rattle.commit_attempts.specs.declared.progress.Progress.{Progress}
use Rattle.commit_attempts.specs.declared.stage.Stage.{Stage as Attempt}
use Rattle.commit_attempts.specs.declared.stage.Stage.TheVariants as attempt
use Rattle.commit_attempts.specs.Attempts.{lost_by, IsOpenAt}
use Rattle.commit_attempts.specs.Machine as attempts
use Rattle.commit_attempts.specs.declared.judge.BodyFault.{BodyFault}
use Rattle.commit_attempts.specs.declared.judge.JudgeFault.{JudgeFault}
use Rattle.commit_attempts.specs.declared.judge.Verdict.{Verdict}
use Rattle.log_actions.specs.declared.action.Action.{Action}
use Rattle.actor_core.proofs.Lists.{some_same}
use Rattle.log_state.specs.Table.{Table}
use Rattle.statement_steps.specs.declared.finish.Finish.{Finish}
use Rattle.statement_steps.specs.Outcome.{refused}
use Rattle.statement_machine.specs.declared.stage.Stage.{Stage}
use Rattle.statement_machine.specs.declared.stage.Stage.TheVariants as stage
use Rattle.statement_steps.specs.Judged.{Makes, Says}
use Rattle.statement_machine.specs.Machine.{kept_of, Rest, call_of, ByCall, ByLoad, ByScan, ByPut, ByAttempt, NextWait, NextClock, NextList, NextLoad, NextScan, NextData, NextCommit}
use Rattle.snapshot_load.specs.Machine.{failed_after, loaded_after}
use Rattle.snapshot_load.specs.Machine as load
use Rattle.snapshot_load.specs.Readers.{wanted_commit, commits_after}
use Rattle.scan.specs.Faults.{of_get as scan_fault}
use Rattle.scan.specs.Machine.{scanned_after}
use Rattle.scan.specs.Machine as scan
use Rattle.scan.specs.Reader.{wanted_name, after_body}
use Rattle.write_files.specs.Phase as write

-- Phases: each is open at a call, where no entries follow

request_open : {Q V : Type 0} (asks : Q → Call) (rest : Q → Entries → Ending CallFault V → Type 0) (s : RequestStage Q V) (c : Call) (o : Ending CallFault V) → ((q : Q) → rest q [] o → IsOpenEnd of_call.NoMemory o)
    → request.call_at asks s ≡ Some c → request.RestAt rest s [] o → IsOpenEnd of_call.NoMemory o
request_open asks rest (at_request.Asking q) c o waits is h = waits q h
request_open asks rest (at_request.Answered v) c o waits is h = cc
request_open asks rest (at_request.Failed f) c o waits is h = cc

match_some : {A : Type 0} (o : Option A) (P Q : Type 0) (a : A) → o ≡ Some a → MatchOption o P (λ x. Q) → Q
match_some None P Q a is h = cc
match_some (Some x) P Q a is h = h

gets_open : {R F : Type 0} {g : Ghosts R F} (wants : R → Option (List ℕ)) (after : R → List ℕ → Result R F) (s : GetsStage R F g) (c : Call) (o : Ending (GetFault F) R) → ((r : R) (name : List ℕ) → g.wants r ≡ Some name → wants r ≡ Some name)
    → gets.call_at s ≡ Some c → gets.RestAt wants after s [] o → IsOpenEnd of_get.NoMemory o
gets_open wants after (at_get.Getting w) c o same is h = match_some (wants w.reader) _ _ w.name (same w.reader w.name w.is) h
gets_open wants after (at_get.Read r) c o same is h = cc
gets_open wants after (at_get.Failed f) c o same is h = cc

puts_open : (s : PutsStage) (c : Call) (o : Ending PutFault (Unit {0})) → puts.call_at s ≡ Some c → puts.RestAt s [] o → IsOpenEnd of_put.NoMemory o
puts_open (at_put.Putting file left) c o is h = h
puts_open at_put.Stored c o is h = cc
puts_open (at_put.Failed f) c o is h = cc

attempts_open : {J C : Type 0} (bodies : J → ℕ → Result (List ℕ) BodyFault → J → Type 0) (judges : J → List Action → Result (Verdict C) JudgeFault → J → Type 0) (p : Progress) (winners : List (List Action)) (j : J) (s : Attempt C) (c : Call) (o : Ending (Lost J C) (Won J)) → attempts.call_at s ≡ Some c
    → attempts.RestAt bodies judges p winners j s [] o → IsOpenAt o j
attempts_open bodies judges p winners j (attempt.Clock r) c o is h = h
attempts_open bodies judges p winners j (attempt.Put put) c o is h = h
attempts_open bodies judges p winners j (attempt.ReadBack put) c o is h = h
attempts_open bodies judges p winners j (attempt.Winner w) c o is h = h
attempts_open bodies judges p winners j (attempt.Landed version now) c o is h = cc
attempts_open bodies judges p winners j (attempt.Failed f) c o is h = cc

-- one whose fault and result are made into others is open where the first is
maps_open : {F F' X X' : Type 0} (f : F → F') (g : X → X') (phase : Entries → Ending F X → Type 0) (memory : F) (o : Ending F' X') → ((i : Ending F X) → phase [] i → IsOpenEnd memory i) → Maps f g phase [] o → IsOpenEnd (f memory) o
maps_open {F} {F'} {X} {X'} f g phase memory o is_open h = by h.0 (is_open h.0 h.1) h.2
  where
    by : (i : Ending F X) → IsOpenEnd memory i → o ≡ map_ending f g i → IsOpenEnd (f memory) o
    by i (inl is) same = inl (same ∙ ap (λ (x : Ending F X). map_ending f g x) is)
    by i (inr is) same = inr (same ∙ ap (λ (x : Ending F X). map_ending f g x) is)

-- what a phase comes to that is open
open_steps : {F X : Type 0} (phase : Entries → Ending F X → Type 0) (memory : F) (fails : Option Finish → F → Type 0) (next : Option Finish → X → Entries → Type 0) (f : Finish) → ((o : Ending F X) → phase [] o → IsOpenEnd memory o)
    → (fails (Some f) memory → f.reply ≡ Refused refusal.NoMemory) → Steps phase fails next [] (Some f) → f.reply ≡ Refused refusal.NoMemory
open_steps {F} {X} phase memory fails next f is_open wanting h = by h.0 (is_open h.0 h.1) h.2
  where
    by : (o : Ending F X) → IsOpenEnd memory o → ThenBy (Some f ≡ None) (fails (Some f)) (next (Some f)) o → f.reply ≡ Refused refusal.NoMemory
    by o (inl is) after = let none : Some f ≡ None = subst (ThenBy (Some f ≡ None) (fails (Some f)) (next (Some f))) is after in cc
    by o (inr is) after = wanting (subst (ThenBy (Some f ≡ None) (fails (Some f)) (next (Some f))) is after)

refused_is : (f : Finish) (kept : Option Table) → Some f ≡ Some (refused kept refusal.NoMemory) → f.reply ≡ Refused refusal.NoMemory
refused_is f kept is = ap (λ (x : Finish). x.reply) (some_same f (refused kept refusal.NoMemory) is)

pub open_reply : (s : Stage) (c : Call) (f : Finish) → call_of s ≡ Some c → Rest s [] (Some f) → f.reply ≡ Refused refusal.NoMemory
open_reply (stage.Wait s w) c f is h = open_steps (request.RestAt WaitingRest w.wait.stage) of_call.NoMemory (ByCall s.kept) (NextWait s) f (λ o. request_open waiting_call WaitingRest w.wait.stage c o (λ q h. h) is) (refused_is f s.kept) h
open_reply (stage.Clock s k) c f is h = open_steps (request.RestAt ReadingRest k.stage) of_call.NoMemory (ByCall s.kept) (NextClock s) f (λ o. request_open reading_call ReadingRest k.stage c o (λ q h. h) is) (refused_is f s.kept) h
open_reply (stage.List s l) c f is h = open_steps (request.RestAt PrefixRest l.names.stage) of_call.NoMemory (ByCall s.kept) (NextList s) f (λ o. request_open prefix_call PrefixRest l.names.stage c o (λ q h. h) is) (refused_is f s.kept) h
open_reply (stage.Load s l) c f is h =
    open_steps (load.RestOf l) (failed_after l.kept of_get.NoMemory) ByLoad (NextLoad s) f
    (λ o. maps_open (failed_after l.kept) (loaded_after l.kept l.listing) (gets.RestAt wanted_commit commits_after l.gets.stage) of_get.NoMemory o (λ i. gets_open wanted_commit commits_after l.gets.stage c i (λ r name e. e) is)) (refused_is f l.kept) h
open_reply (stage.Scan s g) c f is h =
    open_steps (scan.RestOf g) (scan_fault of_get.NoMemory) (ByScan s.kept) (NextScan s) f
    (λ o. maps_open scan_fault (scanned_after g.live) (gets.RestAt wanted_name after_body g.gets.stage) of_get.NoMemory o (λ i. gets_open wanted_name after_body g.gets.stage c i (λ r name e. e) is)) (refused_is f s.kept) h
open_reply (stage.Data s w) c f is h =
    open_steps (write.RestOf w) of_put.NoMemory (ByPut s.on) (NextData s) f (λ o. maps_open (λ x. x) (λ stored. w.adds) (puts.RestAt w.puts.stage) of_put.NoMemory o (λ i. puts_open w.puts.stage c i is)) (refused_is f (kept_of s.on)) h
open_reply (stage.Commit s a) c f is h =
    open_steps (attempts.RestOf Makes Says a) (lost_by a.judge of_attempt.NoMemory) (ByAttempt s.kept) (NextCommit s) f (λ o. attempts_open Makes Says a.progress a.winners.items a.judge a.stage c o is) (refused_is f s.kept) h
open_reply (stage.Done d) c f is h = cc
