-- Where a statement stands: one phase, and what follows it.
use Rattle.std.specs.Prelude.{◌≡◌, ℕ, ◌+◌, ◌≤◌, List, [], Option, Some, None, Bool, true, false, is_some}
use Rattle.edge_api.specs.declared.call.Call.{Call}
use Rattle.edge_api.specs.declared.call.Listed.{Listed}
use Rattle.op_types.specs.declared.refusal.ObjectFault.{ObjectFault}
use Rattle.op_types.specs.declared.refusal.Clash.{Clash}
use Rattle.op_types.specs.declared.reply.Reply.{Reply}
use Rattle.op_types.specs.declared.reply.Reply.TheVariants.{Created}
use Rattle.call_phases.specs.Phases.{Entries}
use Rattle.call_phases.specs.Request as request
use Rattle.call_phases.specs.Requests.{reading_call, prefix_call, ReadingRest, PrefixRest}
use Rattle.call_phases.specs.GetsAt as gets
use Rattle.call_phases.specs.Puts as puts
use Rattle.call_phases.specs.Machine.{LeftBy}
use Rattle.call_phases.specs.Step.{Steps}
use Rattle.call_phases.specs.declared.phase.Ready.{Ready}
use Rattle.call_phases.specs.declared.fault.CallFault.{CallFault}
use Rattle.call_phases.specs.declared.gets.GetFault.{GetFault}
use Rattle.call_phases.specs.declared.puts.PutFault.{PutFault}
use Rattle.committer.specs.Machine as attempts
use Rattle.committer.specs.declared.fault.Landed.{Landed}
use Rattle.committer.specs.declared.fault.Lost.{Lost}
use Rattle.committer.specs.declared.fault.Won.{Won}
use Rattle.statement_calls.specs.declared.finish.Finish.{Finish}
use Rattle.statement_calls.specs.declared.finish.Kept.{Kept}
use Rattle.statement_calls.specs.Bounds.{most_after_clock, most_after_list, most_after_load, most_attempts}
use Rattle.statement_calls.specs.Outcome.{refused, refusal_of_call, refusal_of_load, refusal_of_scan, refusal_of_put, refusal_of_attempt, Replies}
use Rattle.statement_calls.specs.Answered.{committed, AtCommit, AfterScan, AfterLoad, AfterList, AfterClock}
use Rattle.txn_machine.specs.declared.commits.Commits.{Commits}
use Rattle.txn_machine.specs.declared.files.Files.{Files}
use Rattle.txn_machine.specs.declared.judge.CommitJudge.{CommitJudge}
use Rattle.txn_machine.specs.declared.machine.ClockStep.{ClockStep}
use Rattle.txn_machine.specs.declared.machine.ListStep.{ListStep}
use Rattle.txn_machine.specs.declared.machine.LoadStep.{LoadStep}
use Rattle.txn_machine.specs.declared.select.ScanStep.{ScanStep}
use Rattle.txn_machine.specs.declared.insert.DataStep.{DataStep}
use Rattle.txn_machine.specs.declared.commit.CommitStep.{CommitStep}
use Rattle.txn_machine.specs.declared.stage.Stage.{Stage}
use Rattle.txn_machine.specs.declared.stage.Stage.TheVariants as stage
use Rattle.txn_machine.specs.Judging.{Makes, Says}
use Rattle.txn_machine.specs.Readers.{files_of, kept_of, wanted_commit, commits_left_of, commits_after, wanted_file, files_left_of, files_after}

-- the outcome after a fault of a phase, by what is kept
abbrev pub ByCall : Option Kept → Option Finish → CallFault → Type 0
ByCall kept out f = out ≡ Some (refused kept (refusal_of_call f))

abbrev pub ByLoad : Option Kept → Option Finish → GetFault ObjectFault → Type 0
ByLoad kept out f = out ≡ Some (refused kept (refusal_of_load f))

abbrev pub ByScan : Option Kept → Option Finish → GetFault ObjectFault → Type 0
ByScan kept out f = out ≡ Some (refused kept (refusal_of_scan f))

abbrev pub ByPut : Option Kept → Option Finish → PutFault → Type 0
ByPut kept out f = out ≡ Some (refused kept (refusal_of_put f))

abbrev pub ByAttempt : Option Kept → Option Finish → Lost CommitJudge Clash → Type 0
ByAttempt kept out l = out ≡ Some (refused kept (refusal_of_attempt l.fault))

-- the reply once the commit has landed, by the version that was read
abbrev pub landed_after : Option ℕ → Landed → Reply
landed_after None l = Created
landed_after (Some read) l = committed read l

-- what comes after the result of a phase
abbrev pub NextClock : ClockStep → Option Finish → ℕ → Entries → Type 0
NextClock s out start es = AfterClock s.plan.tag s.plan.limit out s.statement s.kept start es

abbrev pub NextList : ListStep → Option Finish → List Listed → Entries → Type 0
NextList s out names es = AfterList s.plan.tag s.plan.limit out s.statement s.kept s.start names es

abbrev pub NextLoad : LoadStep → Option Finish → Commits → Entries → Type 0
NextLoad s out c es = AfterLoad s.plan.tag s.plan.limit out s.statement s.start s.read.version (Some (kept_of s.spare s.read.version c.table)) c.table es

abbrev pub NextScan : ScanStep → Option Finish → Files → Entries → Type 0
NextScan s out f es = AfterScan s.plan.tag s.plan.limit out s.kept s.read s.live (files_of f) es

abbrev pub NextData : DataStep → Option Finish → Unit {0} → Entries → Type 0
NextData s out u es = AtCommit s.plan.tag s.plan.limit out s.kept s.start (attempts.first_after (Some s.read.version)) (record { text = s.text; makes_table = false }) (landed_after (Some s.read.version)) es

abbrev pub NextCommit : CommitStep → Option Finish → Won CommitJudge → Entries → Type 0
NextCommit s out w es = Replies out s.kept (landed_after s.read w.landed) es

-- the next call
abbrev pub call_of : Stage → Option Call
call_of (stage.Clock s c) = request.call_at reading_call c.stage
call_of (stage.List s l) = request.call_at prefix_call l.names.stage
call_of (stage.Load s g) = gets.call_at g.stage
call_of (stage.Scan s g) = gets.call_at g.stage
call_of (stage.Data s p) = puts.call_at p.stage
call_of (stage.Commit s a) = attempts.call_of a
call_of (stage.Done f) = None

-- how many answers may come: those of the phase, and those of the phases after it
abbrev pub left_of : Stage → ℕ
left_of (stage.Clock s c) = request.left_at c.stage + most_after_clock
left_of (stage.List s l) = request.left_at l.names.stage + most_after_list
left_of (stage.Load s g) = gets.left_at commits_left_of g.stage + most_after_load
left_of (stage.Scan s g) = gets.left_at files_left_of g.stage + 0
left_of (stage.Data s p) = puts.left_at p.stage + most_attempts
left_of (stage.Commit s a) = attempts.left_of a + 0
left_of (stage.Done f) = 0

-- a phase stands here only while it has a call to make
abbrev pub is_settled : Stage → Bool
is_settled (stage.Clock s c) = is_some (request.call_at reading_call c.stage)
is_settled (stage.List s l) = is_some (request.call_at prefix_call l.names.stage)
is_settled (stage.Load s g) = is_some (gets.call_at g.stage)
is_settled (stage.Scan s g) = is_some (gets.call_at g.stage)
is_settled (stage.Data s p) = is_some (puts.call_at p.stage)
is_settled (stage.Commit s a) = is_some (attempts.call_of a)
is_settled (stage.Done f) = true

-- its phase waits for no answer
abbrev pub Rests : Stage → Type 0
Rests (stage.Clock s c) = c.call ≡ request.call_at reading_call c.stage
Rests (stage.List s l) = l.names.call ≡ request.call_at prefix_call l.names.stage
Rests (stage.Load s g) = g.call ≡ gets.call_at g.stage
Rests (stage.Scan s g) = g.call ≡ gets.call_at g.stage
Rests (stage.Data s p) = p.call ≡ puts.call_at p.stage
Rests (stage.Commit s a) = attempts.IsReady a
Rests (stage.Done f) = ⊥

-- what the entries still to come have to be, by the outcome
abbrev pub Rest : Stage → Entries → Option Finish → Type 0
Rest (stage.Clock s c) es out = Steps (request.RestAt ReadingRest c.stage) (ByCall s.kept) (NextClock s) es out
Rest (stage.List s l) es out = Steps (request.RestAt PrefixRest l.names.stage) (ByCall s.kept) (NextList s) es out
Rest (stage.Load s g) es out = Steps (gets.RestAt wanted_commit commits_after g.stage) (ByLoad s.spare) (NextLoad s) es out
Rest (stage.Scan s g) es out = Steps (gets.RestAt wanted_file files_after g.stage) (ByScan s.kept) (NextScan s) es out
Rest (stage.Data s p) es out = Steps (puts.RestAt p.stage) (ByPut s.kept) (NextData s) es out
Rest (stage.Commit s a) es out = Steps (attempts.RestOf Makes Says a) (ByAttempt s.kept) (NextCommit s) es out
Rest (stage.Done f) es out = (es ≡ []) × (out ≡ Some f)

-- the statement goes on at this stage, whose next call is made ready: with so many answers at most, and with what may come
pub record GoesOn (most : ℕ) (next : Option Finish → Entries → Type 0) (r : Ready Stage) : Type 0 where
  pub ready : r.call ≡ call_of r.stage
  pub settled : is_settled r.stage ≡ true
  pub left : left_of r.stage ≤ most
  pub some : LeftBy (left_of r.stage) r.call
  pub may : (es : Entries) (out : Option Finish) → Rest r.stage es out → next out es
