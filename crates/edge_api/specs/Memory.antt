-- A store in memory: its objects, its clock, its journal, and what each call does to them.
use Rattle.std.specs.Prelude.{◌≡◌, ℕ, ◌+◌, ◌≤◌, min, List, [], ◌∷◌, ◌++◌}
use Rattle.row_base.specs.declared.limits.TheConstants.{LAST_TIME}
use Rattle.edge_api.specs.declared.call.Call.{Call}
use Rattle.edge_api.specs.declared.call.Call.TheVariants.{Get, PutNew, Put, List as ListNames, Delete, Now, Wait}
use Rattle.edge_api.specs.declared.call.Answer.{Answer}
use Rattle.edge_api.specs.declared.call.Answer.TheVariants.{Fault}
use Rattle.edge_api.specs.declared.call.Tag.{Tag}
use Rattle.edge_api.specs.declared.flaky.How.{How}
use Rattle.edge_api.specs.declared.flaky.How.TheVariants.{NotDone, DoneUnheard}
use Rattle.edge_api.specs.Journal.{Entries, Objects, Moment, entries_of, objects_after, IsLegal, answer_of, effect_of}

-- what a store in memory holds. Its clock is in milliseconds
pub record Memory : Type 0 where
  pub journal : Entries
  pub objects : Objects
  pub clock : ℕ

-- the clock after a call: a wait alone raises it, and not past LAST_TIME
abbrev pub clock_after : ℕ → Call → ℕ
clock_after clock (Get name) = clock
clock_after clock (PutNew name body) = clock
clock_after clock (Put name body) = clock
clock_after clock (ListNames prefix) = clock
clock_after clock (Delete name) = clock
clock_after clock Now = clock
clock_after clock (Wait time) = min (clock + time) LAST_TIME

-- the answer to a call
abbrev pub memory_answer : Memory → Call → Answer
memory_answer m call = answer_of m.objects (clock_after m.clock call) call

-- the store after a call, which stands in the journal with its answer
abbrev pub memory_after : Memory → Tag → Call → Memory
memory_after m tag call = record {
  journal = m.journal ++ record { tag = tag; call = call; answer = memory_answer m call } ∷ [];
  objects = effect_of m.objects (clock_after m.clock call) call;
  clock = clock_after m.clock call;
}

-- the store after a call that was answered Fault, which was not done, or was done unheard
abbrev pub memory_after_fault : Memory → Tag → Call → How → Memory
memory_after_fault m tag call NotDone = record m { journal = m.journal ++ record { tag = tag; call = call; answer = Fault } ∷ [] }
memory_after_fault m tag call DoneUnheard = record (memory_after m tag call) { journal = m.journal ++ record { tag = tag; call = call; answer = Fault } ∷ [] }

-- the clock of the last moment
abbrev pub last_clock : ℕ → List Moment → ℕ
last_clock clock [] = clock
last_clock clock (m ∷ ms) = last_clock m.clock ms

-- a legal completion of the journal that leaves these objects at this clock
pub record IsCompleted (journal : Entries) (objects : Objects) (clock : ℕ) : Type 0 where
  pub moments : List Moment
  pub entries : entries_of moments ≡ journal
  pub legal : IsLegal [] 0 moments
  pub leaves : objects_after [] moments ≡ objects
  pub time : last_clock 0 moments ≤ clock
  pub bound : clock ≤ LAST_TIME
