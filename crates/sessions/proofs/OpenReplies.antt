-- A statement that still has a call to make has no other reply than want of memory.
use Rattle.std.proofs.Common.{◌≡◌, inl, inr, ℕ, List, [], ap, subst}
use Rattle.std.specs.Prelude.{Option, Some, None, MatchOption, Result}
use Rattle.edge_api.specs.declared.call.Call.{Call}
use Rattle.op_types.specs.declared.refusal.Refusal.TheVariants as refusal
use Rattle.op_types.specs.declared.reply.Reply.TheVariants.{Refused}
use Rattle.call_phases.specs.Phases.{Entries}
use Rattle.call_phases.specs.Ending.{Ending, ThenBy}
use Rattle.call_phases.specs.Endings.{IsOpenEnd}
use Rattle.call_phases.specs.Step.{Steps}
use Rattle.call_phases.specs.Request as request
use Rattle.call_phases.specs.Requests.{reading_call, prefix_call, ReadingRest, PrefixRest}
use Rattle.call_phases.specs.GetsAt as gets
use Rattle.call_phases.specs.Puts as puts
use Rattle.call_phases.specs.declared.fault.CallFault.{CallFault}
use Rattle.call_phases.specs.declared.fault.CallFault.TheVariants as of_call
use Rattle.call_phases.specs.declared.request.RequestStage.{RequestStage}
use Rattle.call_phases.specs.declared.request.RequestStage.TheVariants as at_request
use Rattle.call_phases.specs.declared.gets.GetFault.{GetFault}
use Rattle.call_phases.specs.declared.gets.GetFault.TheVariants as of_get
use Rattle.call_phases.specs.declared.gets.GetsStage.{GetsStage}
use Rattle.call_phases.specs.declared.gets.GetsStage.TheVariants as at_get
use Rattle.call_phases.specs.declared.puts.PutFault.{PutFault}
use Rattle.call_phases.specs.declared.puts.PutFault.TheVariants as of_put
use Rattle.call_phases.specs.declared.puts.PutsStage.{PutsStage}
use Rattle.call_phases.specs.declared.puts.PutsStage.TheVariants as at_put
use Rattle.call_phases.specs.declared.reader.Reader.{Ghosts}
use Rattle.committer.specs.declared.fault.AttemptFault.TheVariants as of_attempt
use Rattle.committer.specs.declared.fault.Lost.{Lost}
use Rattle.committer.specs.declared.fault.Won.{Won}
use Rattle.committer.specs.declared.progress.Progress.{Progress}
use Rattle.committer.specs.declared.stage.Stage.{Stage as Attempt}
use Rattle.committer.specs.declared.stage.Stage.TheVariants as attempt
use Rattle.committer.specs.Attempts.{lost_by, IsOpenAt}
use Rattle.committer.specs.Machine as attempts
use Rattle.committer.specs.declared.judge.BodyFault.{BodyFault}
use Rattle.committer.specs.declared.judge.Verdict.{Verdict}
use Rattle.actor_core.proofs.Lists.{some_same}
use Rattle.statement_calls.specs.declared.finish.Kept.{Kept}
use Rattle.statement_calls.specs.declared.finish.Finish.{Finish}
use Rattle.statement_calls.specs.Outcome.{refused}
use Rattle.txn_machine.specs.declared.stage.Stage.{Stage}
use Rattle.txn_machine.specs.declared.stage.Stage.TheVariants as stage
use Rattle.txn_machine.specs.Judging.{Makes, Says}
use Rattle.txn_machine.specs.Machine.{Rest, call_of, ByCall, ByLoad, ByScan, ByPut, ByAttempt, NextClock, NextList, NextLoad, NextScan, NextData, NextCommit}
use Rattle.txn_machine.specs.Readers.{wanted_commit, commits_after, wanted_file, files_after}

-- Phases: each is open at a call, where no entries follow

request_open : {Q V : Type 0} (asks : Q → Call) (rest : Q → Entries → Ending CallFault V → Type 0) (s : RequestStage Q V) (c : Call) (o : Ending CallFault V) → ((q : Q) → rest q [] o → IsOpenEnd of_call.NoMemory o)
    → request.call_at asks s ≡ Some c → request.RestAt rest s [] o → IsOpenEnd of_call.NoMemory o
request_open asks rest (at_request.Asking q) c o waits is h = waits q h
request_open asks rest (at_request.Answered v) c o waits is h = cc
request_open asks rest (at_request.Failed f) c o waits is h = cc

match_some : {A : Type 0} (o : Option A) (P Q : Type 0) (a : A) → o ≡ Some a → MatchOption o P (λ x. Q) → Q
match_some None P Q a is h = cc
match_some (Some x) P Q a is h = h

gets_open : {R F : Type 0} {g : Ghosts R F} (wants : R → Option (List ℕ)) (after : R → List ℕ → Result R F) (s : GetsStage R F g) (c : Call) (o : Ending (GetFault F) R) → ((r : R) (name : List ℕ) → g.wants r ≡ Some name → wants r ≡ Some name)
    → gets.call_at s ≡ Some c → gets.RestAt wants after s [] o → IsOpenEnd of_get.NoMemory o
gets_open wants after (at_get.Getting w) c o same is h = match_some (wants w.reader) _ _ w.name (same w.reader w.name w.is) h
gets_open wants after (at_get.Read r) c o same is h = cc
gets_open wants after (at_get.Failed f) c o same is h = cc

puts_open : (s : PutsStage) (c : Call) (o : Ending PutFault (Unit {0})) → puts.call_at s ≡ Some c → puts.RestAt s [] o → IsOpenEnd of_put.NoMemory o
puts_open (at_put.Putting file left) c o is h = h
puts_open at_put.Stored c o is h = cc
puts_open (at_put.Failed f) c o is h = cc

attempts_open : {J C : Type 0} (bodies : J → ℕ → Result (List ℕ) BodyFault → J → Type 0) (judges : J → List ℕ → Verdict C → J → Type 0) (p : Progress) (winners : List (List ℕ)) (j : J) (s : Attempt C) (c : Call) (o : Ending (Lost J C) (Won J)) → attempts.call_at s ≡ Some c
    → attempts.RestAt bodies judges p winners j s [] o → IsOpenAt o j
attempts_open bodies judges p winners j (attempt.Clock r) c o is h = h
attempts_open bodies judges p winners j (attempt.Put put) c o is h = h
attempts_open bodies judges p winners j (attempt.ReadBack put) c o is h = h
attempts_open bodies judges p winners j (attempt.Winner w) c o is h = h
attempts_open bodies judges p winners j (attempt.Landed version now) c o is h = cc
attempts_open bodies judges p winners j (attempt.Failed f) c o is h = cc

-- what a phase comes to that is open
open_steps : {F X : Type 0} (phase : Entries → Ending F X → Type 0) (memory : F) (fails : Option Finish → F → Type 0) (next : Option Finish → X → Entries → Type 0) (f : Finish) → ((o : Ending F X) → phase [] o → IsOpenEnd memory o)
    → (fails (Some f) memory → f.reply ≡ Refused refusal.NoMemory) → Steps phase fails next [] (Some f) → f.reply ≡ Refused refusal.NoMemory
open_steps {F} {X} phase memory fails next f is_open wanting h = by h.0 (is_open h.0 h.1) h.2
  where
    by : (o : Ending F X) → IsOpenEnd memory o → ThenBy (Some f ≡ None) (fails (Some f)) (next (Some f)) o → f.reply ≡ Refused refusal.NoMemory
    by o (inl is) after = let none : Some f ≡ None = subst (ThenBy (Some f ≡ None) (fails (Some f)) (next (Some f))) is after in cc
    by o (inr is) after = wanting (subst (ThenBy (Some f ≡ None) (fails (Some f)) (next (Some f))) is after)

refused_is : (f : Finish) (kept : Option Kept) → Some f ≡ Some (refused kept refusal.NoMemory) → f.reply ≡ Refused refusal.NoMemory
refused_is f kept is = ap (λ (x : Finish). x.reply) (some_same f (refused kept refusal.NoMemory) is)

pub open_reply : (s : Stage) (c : Call) (f : Finish) → call_of s ≡ Some c → Rest s [] (Some f) → f.reply ≡ Refused refusal.NoMemory
open_reply (stage.Clock s k) c f is h = open_steps (request.RestAt ReadingRest k.stage) of_call.NoMemory (ByCall s.kept) (NextClock s) f (λ o. request_open reading_call ReadingRest k.stage c o (λ q h. h) is) (refused_is f s.kept) h
open_reply (stage.List s l) c f is h = open_steps (request.RestAt PrefixRest l.names.stage) of_call.NoMemory (ByCall s.kept) (NextList s) f (λ o. request_open prefix_call PrefixRest l.names.stage c o (λ q h. h) is) (refused_is f s.kept) h
open_reply (stage.Load s g) c f is h =
    open_steps (gets.RestAt wanted_commit commits_after g.stage) of_get.NoMemory (ByLoad s.spare) (NextLoad s) f (λ o. gets_open wanted_commit commits_after g.stage c o (λ r name e. e) is) (refused_is f s.spare) h
open_reply (stage.Scan s g) c f is h =
    open_steps (gets.RestAt wanted_file files_after g.stage) of_get.NoMemory (ByScan s.kept) (NextScan s) f (λ o. gets_open wanted_file files_after g.stage c o (λ r name e. e) is) (refused_is f s.kept) h
open_reply (stage.Data s p) c f is h = open_steps (puts.RestAt p.stage) of_put.NoMemory (ByPut s.kept) (NextData s) f (λ o. puts_open p.stage c o is) (refused_is f s.kept) h
open_reply (stage.Commit s a) c f is h =
    open_steps (attempts.RestOf Makes Says a) (lost_by a.judge of_attempt.NoMemory) (ByAttempt s.kept) (NextCommit s) f (λ o. attempts_open Makes Says a.progress a.winners.items a.judge a.stage c o is) (refused_is f s.kept) h
open_reply (stage.Done d) c f is h = cc
