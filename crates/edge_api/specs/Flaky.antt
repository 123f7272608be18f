-- A store in memory whose calls fail by a plan.
use Rattle.std.specs.Prelude.{◌==◌, ◌&&◌, ℕ, ◌-◌, Bool, true, false, if◌then◌else◌, List, [], ◌∷◌, map, Option, Some, None}
use Rattle.edge_api.specs.declared.call.Call.{Call}
use Rattle.edge_api.specs.declared.call.CallKind.{CallKind}
use Rattle.edge_api.specs.declared.call.CallKind.TheVariants as kind
use Rattle.edge_api.specs.declared.call.Answer.{Answer}
use Rattle.edge_api.specs.declared.call.Answer.TheVariants.{Fault}
use Rattle.edge_api.specs.declared.call.Tag.{Tag}
use Rattle.edge_api.specs.declared.flaky.How.{How}
use Rattle.edge_api.specs.declared.flaky.Trouble.{Trouble}
use Rattle.edge_api.specs.Journal.{kind_of, same_tag}
use Rattle.edge_api.specs.Memory.{Memory, memory_answer, memory_after, memory_after_fault}
use Rattle.edge_api.specs.Streams.{one_more}

-- a store in memory, the plan of its faults, in which the calls are counted from the next one on, and how many calls have failed
pub record Flaky : Type 0 where
  pub memory : Memory
  pub plan : List Trouble
  pub faults : ℕ

abbrev pub same_kind : CallKind → CallKind → Bool
same_kind kind.Get kind.Get = true
same_kind kind.PutNew kind.PutNew = true
same_kind kind.Put kind.Put = true
same_kind kind.List kind.List = true
same_kind kind.Delete kind.Delete = true
same_kind kind.Now kind.Now = true
same_kind kind.Wait kind.Wait = true
same_kind a b = false

-- the entry counts the calls of this kind under this tag
abbrev pub counts : Tag → CallKind → Trouble → Bool
counts tag kind t = same_tag t.tag tag && same_kind t.kind kind

-- how a call fails: as the first entry says that counts such calls and whose number has come
abbrev pub failure_of : List Trouble → Tag → CallKind → Option How
failure_of [] tag kind = None
failure_of (t ∷ ts) tag kind = if counts tag kind t && (t.nth == 1) then Some t.how else failure_of ts tag kind

-- an entry after a call
abbrev pub trouble_after : Tag → CallKind → Trouble → Trouble
trouble_after tag kind t = if counts tag kind t then record t { nth = t.nth - 1 } else t

-- the plan after a call
abbrev pub plan_after : List Trouble → Tag → CallKind → List Trouble
plan_after plan tag kind = map (trouble_after tag kind) plan

-- the answer to a call that fails so, where it fails
abbrev pub answer_by : Option How → Memory → Call → Answer
answer_by (Some how) m call = Fault
answer_by None m call = memory_answer m call

-- the store after a call that fails so, where it fails
abbrev pub memory_by : Option How → Memory → Tag → Call → Memory
memory_by (Some how) m tag call = memory_after_fault m tag call how
memory_by None m tag call = memory_after m tag call

-- the count of the calls that failed, after a call that fails so, where it fails
abbrev pub faults_by : Option How → ℕ → ℕ
faults_by (Some how) faults = one_more faults
faults_by None faults = faults

abbrev pub flaky_answer : Flaky → Tag → Call → Answer
flaky_answer w tag call = answer_by (failure_of w.plan tag (kind_of call)) w.memory call

abbrev pub flaky_after : Flaky → Tag → Call → Flaky
flaky_after w tag call = record {
  memory = memory_by (failure_of w.plan tag (kind_of call)) w.memory tag call;
  plan = plan_after w.plan tag (kind_of call);
  faults = faults_by (failure_of w.plan tag (kind_of call)) w.faults;
}
