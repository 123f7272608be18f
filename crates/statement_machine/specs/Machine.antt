-- Where a statement stands: one phase, and what follows it.
use Rattle.std.specs.Prelude.{◌≡◌, ℕ, ◌+◌, ◌≤◌, List, [], Option, Some, None, Bool, true, false, is_some}
use Rattle.edge_api.specs.declared.call.Call.{Call}
use Rattle.edge_api.specs.declared.call.Listed.{Listed}
use Rattle.log_actions.specs.declared.action.AddFile.{AddFile}
use Rattle.log_state.specs.Table.{Table}
use Rattle.statement_types.specs.declared.refusal.Clash.{Clash}
use Rattle.statement_types.specs.declared.reply.Reply.{Reply}
use Rattle.statement_types.specs.declared.reply.Reply.TheVariants.{Created, Waited}
use Rattle.call_phases.specs.Phases.{Entries}
use Rattle.call_phases.specs.Request as request
use Rattle.call_phases.specs.Requests.{reading_call, prefix_call, waiting_call, ReadingRest, PrefixRest, WaitingRest}
use Rattle.call_phases.specs.Machine.{LeftBy}
use Rattle.call_phases.specs.Step.{Steps}
use Rattle.call_phases.specs.declared.phase.Ready.{Ready}
use Rattle.call_phases.specs.declared.fault.CallFault.{CallFault}
use Rattle.call_phases.specs.declared.puts.PutFault.{PutFault}
use Rattle.snapshot_load.specs.Machine as load
use Rattle.snapshot_load.specs.declared.loaded.Loaded.{Loaded}
use Rattle.snapshot_load.specs.declared.fault.LoadFailed.{LoadFailed}
use Rattle.scan.specs.Machine as scan
use Rattle.scan.specs.declared.scan.Scanned.{Scanned}
use Rattle.scan.specs.declared.fault.ScanFault.{ScanFault}
use Rattle.write_files.specs.Phase as write
use Rattle.commit_attempts.specs.Machine as attempts
use Rattle.commit_attempts.specs.declared.fault.Landed.{Landed}
use Rattle.commit_attempts.specs.declared.fault.Lost.{Lost}
use Rattle.commit_attempts.specs.declared.fault.Won.{Won}
use Rattle.commit_plans.specs.Plans.{insert_plan}
use Rattle.table_rules.specs.Names.{statement_text}
use Rattle.statement_steps.specs.declared.finish.Finish.{Finish}
use Rattle.statement_steps.specs.declared.judge.CommitJudge.{CommitJudge}
use Rattle.statement_steps.specs.Judged.{Makes, Says}
use Rattle.statement_steps.specs.Bounds.{most_after_clock, most_after_list, most_after_load, most_attempts}
use Rattle.statement_steps.specs.Outcome.{refused, refusal_of_call, refusal_of_load, refusal_of_scan, refusal_of_put, refusal_of_attempt, Replies}
use Rattle.statement_steps.specs.Answered.{committed, kept_after, AtCommit, AfterScan, AfterLoad, AfterList, AfterClock}
use Rattle.statement_machine.specs.declared.begin.ClockStep.{ClockStep}
use Rattle.statement_machine.specs.declared.begin.ListStep.{ListStep}
use Rattle.statement_machine.specs.declared.load.LoadStep.{LoadStep}
use Rattle.statement_machine.specs.declared.load.OnTable.{OnTable}
use Rattle.statement_machine.specs.declared.select.ScanStep.{ScanStep}
use Rattle.statement_machine.specs.declared.insert.DataStep.{DataStep}
use Rattle.statement_machine.specs.declared.commit.CommitStep.{CommitStep}
use Rattle.statement_machine.specs.declared.wait.WaitStep.{WaitStep}
use Rattle.statement_machine.specs.declared.stage.Stage.{Stage}
use Rattle.statement_machine.specs.declared.stage.Stage.TheVariants as stage

-- the table that is kept beside a loaded one
abbrev pub kept_of : OnTable → Option Table
kept_of on = Some (kept_after on.spare on.state)

-- the outcome after a fault of a phase, by what is kept
abbrev pub ByCall : Option Table → Option Finish → CallFault → Type 0
ByCall kept out f = out ≡ Some (refused kept (refusal_of_call f))

abbrev pub ByLoad : Option Finish → LoadFailed → Type 0
ByLoad out f = out ≡ Some (refused f.kept (refusal_of_load f.fault))

abbrev pub ByScan : Option Table → Option Finish → ScanFault → Type 0
ByScan kept out f = out ≡ Some (refused kept (refusal_of_scan f))

abbrev pub ByPut : OnTable → Option Finish → PutFault → Type 0
ByPut on out f = out ≡ Some (refused (kept_of on) (refusal_of_put f))

abbrev pub ByAttempt : Option Table → Option Finish → Lost CommitJudge Clash → Type 0
ByAttempt kept out l = out ≡ Some (refused kept (refusal_of_attempt l.fault))

-- the reply once the commit has landed, by the version that was read
abbrev pub landed_after : Option ℕ → Landed → Reply
landed_after None l = Created
landed_after (Some read) l = committed read l

-- what comes after the result of a phase
abbrev pub NextWait : WaitStep → Option Finish → Unit {0} → Entries → Type 0
NextWait s out u es = Replies out s.kept Waited es

abbrev pub NextClock : ClockStep → Option Finish → ℕ → Entries → Type 0
NextClock s out start es = AfterClock s.plan.tag s.plan.limit out s.statement s.kept start es

abbrev pub NextList : ListStep → Option Finish → List Listed → Entries → Type 0
NextList s out names es = AfterList s.plan.tag s.plan.limit out s.statement s.kept s.start names es

abbrev pub NextLoad : LoadStep → Option Finish → Loaded → Entries → Type 0
NextLoad s out l es = AfterLoad s.plan.tag s.plan.limit out s.statement s.start s.read.version l es

abbrev pub NextScan : ScanStep → Option Finish → Scanned → Entries → Type 0
NextScan s out scanned es = AfterScan s.plan.tag s.plan.limit out s.read s.kept scanned es

abbrev pub NextData : DataStep → Option Finish → List AddFile → Entries → Type 0
NextData s out files es =
    AtCommit s.on.plan.tag s.on.plan.limit out (kept_of s.on) (record { start = s.on.start; retention = s.rules.retention; first = attempts.first_after (Some s.on.read.version) })
    (record { plan = insert_plan s.on.state (statement_text s.on.plan.tag s.on.start) s.rules.level None files; makes_table = false }) (landed_after (Some s.on.read.version)) es

abbrev pub NextCommit : CommitStep → Option Finish → Won CommitJudge → Entries → Type 0
NextCommit s out w es = Replies out s.kept (landed_after s.read w.landed) es

-- the next call
abbrev pub call_of : Stage → Option Call
call_of (stage.Wait s w) = request.call_at waiting_call w.wait.stage
call_of (stage.Clock s c) = request.call_at reading_call c.stage
call_of (stage.List s l) = request.call_at prefix_call l.names.stage
call_of (stage.Load s l) = load.call_of l
call_of (stage.Scan s f) = scan.call_of f
call_of (stage.Data s w) = write.call_of w
call_of (stage.Commit s a) = attempts.call_of a
call_of (stage.Done f) = None

-- how many answers may come: those of the phase, and those of the phases after it. A statement that waits counts as one over the table
abbrev pub left_of : Stage → ℕ
left_of (stage.Wait s w) = request.left_at w.wait.stage + most_after_clock
left_of (stage.Clock s c) = request.left_at c.stage + most_after_clock
left_of (stage.List s l) = request.left_at l.names.stage + most_after_list
left_of (stage.Load s l) = load.left_of l + most_after_load
left_of (stage.Scan s f) = scan.left_of f + 0
left_of (stage.Data s w) = write.left_of w + most_attempts
left_of (stage.Commit s a) = attempts.left_of a + 0
left_of (stage.Done f) = 0

-- a phase stands here only while it has a call to make
abbrev pub is_settled : Stage → Bool
is_settled (stage.Wait s w) = is_some (request.call_at waiting_call w.wait.stage)
is_settled (stage.Clock s c) = is_some (request.call_at reading_call c.stage)
is_settled (stage.List s l) = is_some (request.call_at prefix_call l.names.stage)
is_settled (stage.Load s l) = is_some (load.call_of l)
is_settled (stage.Scan s f) = is_some (scan.call_of f)
is_settled (stage.Data s w) = is_some (write.call_of w)
is_settled (stage.Commit s a) = is_some (attempts.call_of a)
is_settled (stage.Done f) = true

-- its phase waits for no answer
abbrev pub Rests : Stage → Type 0
Rests (stage.Wait s w) = w.wait.call ≡ request.call_at waiting_call w.wait.stage
Rests (stage.Clock s c) = c.call ≡ request.call_at reading_call c.stage
Rests (stage.List s l) = l.names.call ≡ request.call_at prefix_call l.names.stage
Rests (stage.Load s l) = load.IsReady l
Rests (stage.Scan s f) = scan.IsReady f
Rests (stage.Data s w) = write.IsReady w
Rests (stage.Commit s a) = attempts.IsReady a
Rests (stage.Done f) = ⊥

-- what the entries still to come have to be, by the outcome
abbrev pub Rest : Stage → Entries → Option Finish → Type 0
Rest (stage.Wait s w) es out = Steps (request.RestAt WaitingRest w.wait.stage) (ByCall s.kept) (NextWait s) es out
Rest (stage.Clock s c) es out = Steps (request.RestAt ReadingRest c.stage) (ByCall s.kept) (NextClock s) es out
Rest (stage.List s l) es out = Steps (request.RestAt PrefixRest l.names.stage) (ByCall s.kept) (NextList s) es out
Rest (stage.Load s l) es out = Steps (load.RestOf l) ByLoad (NextLoad s) es out
Rest (stage.Scan s f) es out = Steps (scan.RestOf f) (ByScan s.kept) (NextScan s) es out
Rest (stage.Data s w) es out = Steps (write.RestOf w) (ByPut s.on) (NextData s) es out
Rest (stage.Commit s a) es out = Steps (attempts.RestOf Makes Says a) (ByAttempt s.kept) (NextCommit s) es out
Rest (stage.Done f) es out = (es ≡ []) × (out ≡ Some f)

-- the statement goes on at this stage, whose next call is made ready: with so many answers at most, and with what may come
pub record GoesOn (most : ℕ) (next : Option Finish → Entries → Type 0) (r : Ready Stage) : Type 0 where
  pub ready : r.call ≡ call_of r.stage
  pub settled : is_settled r.stage ≡ true
  pub left : left_of r.stage ≤ most
  pub some : LeftBy (left_of r.stage) r.call
  pub may : (es : Entries) (out : Option Finish) → Rest r.stage es out → next out es
