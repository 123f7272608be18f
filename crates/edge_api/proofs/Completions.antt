-- A legal completion goes on by one entry.
use Rattle.std.proofs.Common.{◌≡◌, ℕ, ◌≤◌, true, false, List, [], ◌∷◌, ◌++◌, refl, sym, ◌∙◌, ap, subst, arith}
use Rattle.std.specs.Prelude.{Option, Some, None, Result, Ok, Err, IfOk, OnOk, OnErr}
use Rattle.row_base.specs.declared.limits.TheConstants.{LAST_TIME}
use Rattle.row_base.specs.declared.memory.NoMemory.{NoMemory}
use Rattle.edge_api.specs.declared.call.Call.{Call}
use Rattle.edge_api.specs.declared.call.Call.TheVariants.{Get, PutNew, Put, List as ListNames, Delete, Now, Wait}
use Rattle.edge_api.specs.declared.call.Answer.{Answer}
use Rattle.edge_api.specs.declared.call.Answer.TheVariants.{Fault}
use Rattle.edge_api.specs.declared.call.Tag.{Tag}
use Rattle.edge_api.specs.declared.flaky.How.{How}
use Rattle.edge_api.specs.declared.flaky.How.TheVariants.{NotDone, DoneUnheard}
use Rattle.edge_api.specs.declared.call.Object.{Object}
use Rattle.edge_api.specs.declared.call.JournalEntry.{JournalEntry}
use Rattle.edge_api.specs.Journal.{Entries, Objects, Moment, entries_of, objects_after, after_moment, effect_of, Answers, answer_of, IsLegal, HasLegalCompletion, IsOfKind, object_at, read_answer, put_new_answer}
use Rattle.edge_api.specs.Memory.{Memory, IsCompleted, last_clock, clock_after, memory_after_fault}

entries_of-push : (ms : List Moment) (m : Moment) → entries_of (ms ++ m ∷ []) ≡ entries_of ms ++ m.entry ∷ []
entries_of-push [] m = refl
entries_of-push (n ∷ ms) m = ap (λ (es : Entries). n.entry ∷ es) (entries_of-push ms m)

objects_after-push : (os : Objects) (ms : List Moment) (m : Moment) → objects_after os (ms ++ m ∷ []) ≡ after_moment (objects_after os ms) m
objects_after-push os [] m = refl
objects_after-push os (n ∷ ms) m = objects_after-push (after_moment os n) ms m

last_clock-push : (t : ℕ) (ms : List Moment) (m : Moment) → last_clock t (ms ++ m ∷ []) ≡ m.clock
last_clock-push t [] m = refl
last_clock-push t (n ∷ ms) m = last_clock-push n.clock ms m

IsLegal-push : (os : Objects) (t : ℕ) (ms : List Moment) (m : Moment) → IsLegal os t ms → last_clock t ms ≤ m.clock → m.clock ≤ LAST_TIME
    → Answers m.entry.answer (answer_of (objects_after os ms) m.clock m.entry.call) → IsLegal os t (ms ++ m ∷ [])
IsLegal-push os t [] m legal le bound right = (le, bound, right, tt)
IsLegal-push os t (n ∷ ms) m legal le bound right = (legal.0, legal.1, legal.2, IsLegal-push (after_moment os n) n.clock ms m legal.3 le bound right)

found_right : (o : Option Object) → Answers (read_answer o) (read_answer o)
found_right (Some o) = refl
found_right None = refl

stored_right : (o : Option Object) → Answers (put_new_answer o) (put_new_answer o)
stored_right (Some o) = refl
stored_right None = refl

-- the answer that the objects and the clock give is the right one
right_answer : (os : Objects) (clock : ℕ) (call : Call) → Answers (answer_of os clock call) (answer_of os clock call)
right_answer os clock (Get name) = found_right (object_at os name)
right_answer os clock (PutNew name body) = stored_right (object_at os name)
right_answer os clock (Put name body) = refl
right_answer os clock (ListNames prefix) = refl
right_answer os clock (Delete name) = refl
right_answer os clock Now = refl
right_answer os clock (Wait time) = refl

found_kind : (name : List ℕ) (o : Option Object) → IsOfKind (Get name) (read_answer o)
found_kind name (Some o) = tt
found_kind name None = tt

stored_kind : (name body : List ℕ) (o : Option Object) → IsOfKind (PutNew name body) (put_new_answer o)
stored_kind name body (Some o) = tt
stored_kind name body None = tt

-- and it is of the call's kind
pub right_kind : (os : Objects) (clock : ℕ) (call : Call) → clock ≤ LAST_TIME → IsOfKind call (answer_of os clock call)
right_kind os clock (Get name) le = found_kind name (object_at os name)
right_kind os clock (PutNew name body) le = stored_kind name body (object_at os name)
right_kind os clock (Put name body) le = tt
right_kind os clock (ListNames prefix) le = tt
right_kind os clock (Delete name) le = tt
right_kind os clock Now le = le
right_kind os clock (Wait time) le = tt

-- the entry of a call that was answered right
abbrev right_moment : Objects → ℕ → Tag → Call → Moment
right_moment os clock tag call = record { entry = record { tag = tag; call = call; answer = answer_of os clock call }; clock = clock; took_effect = false }

after_right : (os : Objects) (clock : ℕ) (tag : Tag) (call : Call) → after_moment os (right_moment os clock tag call) ≡ effect_of os clock call
after_right os clock tag (Get name) = elim (object_at os name) as (λ o. after_moment os (record { entry = record { tag = tag; call = Get name; answer = read_answer o }; clock = clock; took_effect = false }) ≡ os) [ Some o ↦ refl | None ↦ refl ]
after_right os clock tag (PutNew name body) = elim (object_at os name) as (λ o. after_moment os (record { entry = record { tag = tag; call = PutNew name body; answer = put_new_answer o }; clock = clock; took_effect = false }) ≡ effect_of os clock (PutNew name body)) [ Some o ↦ refl | None ↦ refl ]
after_right os clock tag (Put name body) = refl
after_right os clock tag (ListNames prefix) = refl
after_right os clock tag (Delete name) = refl
after_right os clock tag Now = refl
after_right os clock tag (Wait time) = refl

-- the clock after a call is no less, and at most LAST_TIME
pub clock_after_bounds : (clock : ℕ) (call : Call) → clock ≤ LAST_TIME → (clock ≤ clock_after clock call) × (clock_after clock call ≤ LAST_TIME)
clock_after_bounds clock (Get name) le = (omega arith, le)
clock_after_bounds clock (PutNew name body) le = (omega arith, le)
clock_after_bounds clock (Put name body) le = (omega arith, le)
clock_after_bounds clock (ListNames prefix) le = (omega arith, le)
clock_after_bounds clock (Delete name) le = (omega arith, le)
clock_after_bounds clock Now le = (omega arith, le)
clock_after_bounds clock (Wait time) le = (omega arith, omega arith)

-- one moment more
completed_by : (journal later : Entries) (os new : Objects) (before : ℕ) (m : Moment) → IsCompleted journal os before → before ≤ m.clock → m.clock ≤ LAST_TIME
    → Answers m.entry.answer (answer_of os m.clock m.entry.call) → later ≡ journal ++ m.entry ∷ [] → new ≡ after_moment os m → IsCompleted later new m.clock
completed_by journal later os new before m done le bound is_right is_later is_new =
    let right : Answers m.entry.answer (answer_of (objects_after [] done.moments) m.clock m.entry.call) =
    subst (λ (o : Objects). Answers m.entry.answer (answer_of o m.clock m.entry.call)) (sym done.leaves) is_right in
    let later_time : last_clock 0 done.moments ≤ m.clock = omega (arith, done.time) in
    record {
      moments = done.moments ++ m ∷ [];
      entries = entries_of-push done.moments m ∙ ap (λ (es : Entries). es ++ m.entry ∷ []) done.entries ∙ sym is_later;
      legal = IsLegal-push [] 0 done.moments m done.legal later_time bound right;
      leaves = objects_after-push [] done.moments m ∙ ap (λ (o : Objects). after_moment o m) done.leaves ∙ sym is_new;
      time = omega (arith, last_clock-push 0 done.moments m);
      bound = bound;
    }

-- one call more, which was answered right
completed_more : (journal later : Entries) (os new : Objects) (before clock : ℕ) (tag : Tag) (call : Call) → IsCompleted journal os before
    → before ≤ clock → clock ≤ LAST_TIME → later ≡ journal ++ record { tag = tag; call = call; answer = answer_of os clock call } ∷ [] → new ≡ effect_of os clock call → IsCompleted later new clock
completed_more journal later os new before clock tag call done le bound is_later is_new =
    completed_by journal later os new before (right_moment os clock tag call) done le bound (right_answer os clock call) is_later (is_new ∙ sym (after_right os clock tag call))

-- one call more, which failed
completed_fault : (m : Memory) (tag : Tag) (call : Call) (how : How) → IsCompleted m.journal m.objects m.clock
    → IsCompleted (memory_after_fault m tag call how).journal (memory_after_fault m tag call how).objects (memory_after_fault m tag call how).clock
completed_fault m tag call NotDone done =
    completed_by m.journal _ m.objects _ m.clock (record { entry = record { tag = tag; call = call; answer = Fault }; clock = m.clock; took_effect = false }) done (omega arith) done.bound tt refl refl
completed_fault m tag call DoneUnheard done =
    let bounds = clock_after_bounds m.clock call done.bound in
    completed_by m.journal _ m.objects _ m.clock (record { entry = record { tag = tag; call = call; answer = Fault }; clock = clock_after m.clock call; took_effect = true }) done bounds.0 bounds.1 tt refl refl

pub completion_of : {journal : Entries} {os : Objects} {clock : ℕ} → IsCompleted journal os clock → HasLegalCompletion journal
completion_of done = record { moments = done.moments; entries = done.entries; legal = done.legal }

-- whatever the call's result is
pub completed_after : (journal later : Entries) (os new : Objects) (before clock : ℕ) (tag : Tag) (call : Call) (r : Result Answer NoMemory) → IsCompleted journal os before
    → IfOk r (λ answer. answer ≡ answer_of os clock call) → OnOk r (new ≡ effect_of os clock call) → IfOk r (λ answer. later ≡ journal ++ record { tag = tag; call = call; answer = answer } ∷ [])
    → OnOk r (clock ≡ clock_after before call) → OnErr r (new ≡ os) → OnErr r (later ≡ journal) → OnErr r (clock ≡ before) → IsCompleted later new clock
completed_after journal later os new before clock tag call (Ok answer) done is_answer is_new is_later is_clock same_os same_js same_clock =
    let bounds = clock_after_bounds before call done.bound in
    completed_more journal later os new before clock tag call done (omega (arith, bounds.0)) (omega (arith, bounds.1)) (is_later ∙ ap (λ (a : Answer). journal ++ record { tag = tag; call = call; answer = a } ∷ []) is_answer) is_new
completed_after journal later os new before clock tag call (Err e) done is_answer is_new is_later is_clock same_os same_js same_clock =
    rw (same_os, same_js, same_clock) done

-- and of one that failed
pub completed_after_fault : (old new : Memory) (tag : Tag) (call : Call) (how : How) {T E : Type 0} (r : Result T E) → IsCompleted old.journal old.objects old.clock
    → OnOk r (new ≡ memory_after_fault old tag call how) → OnErr r (new.objects ≡ old.objects) → OnErr r (new.journal ≡ old.journal) → OnErr r (new.clock ≡ old.clock)
    → IsCompleted new.journal new.objects new.clock
completed_after_fault old new tag call how (Ok answer) done is_new same_os same_js same_clock =
    subst (λ (m : Memory). IsCompleted m.journal m.objects m.clock) (sym is_new) (completed_fault old tag call how done)
completed_after_fault old new tag call how (Err e) done is_new same_os same_js same_clock =
    rw (same_os, same_js, same_clock) done
