-- Where a statement stands is told by its next call.
use Rattle.std.proofs.Common.{◌≡◌, inl, inr, Bool, true, false, ℕ, ◌<◌, List, refl, sym, ◌∙◌, subst, arith}
use Rattle.std.specs.Prelude.{Option, Some, None, IfSome}
use Rattle.edge_api.specs.declared.call.Call.{Call}
use Rattle.edge_api.specs.declared.call.Call.TheVariants.{Get, PutNew, Put, List as ListNames, Delete, Now, Wait}
use Rattle.edge_api.specs.declared.call.Tag.{Tag}
use Rattle.edge_api.specs.declared.actor.Fed.{Fed}
use Rattle.edge_api.specs.declared.actor.Fed.TheVariants as fed
use Rattle.edge_api.specs.Actor.{event_of}
use Rattle.table_rules.specs.Names.{log_name}
use Rattle.table_rules.specs.declared.log.LogName.{LogName}
use Rattle.table_rules.specs.declared.log.LogName.TheVariants as log
use Rattle.call_phases.specs.Request as request
use Rattle.call_phases.specs.Requests.{reading_call, waiting_call}
use Rattle.call_phases.specs.Machine.{Goes}
use Rattle.call_phases.specs.declared.called.Reading.{Reading}
use Rattle.call_phases.specs.declared.called.Waiting.{Waiting}
use Rattle.call_phases.specs.declared.request.RequestStage.{RequestStage}
use Rattle.call_phases.specs.declared.request.RequestStage.TheVariants as at
use Rattle.statement_steps.specs.Bounds.{most_calls}
use Rattle.statement_steps.specs.Place.{place_of_name, place_of_call, place_at, IsFirstCall, IsCallAt}
use Rattle.statement_machine.specs.declared.stage.Stage.{Stage}
use Rattle.statement_machine.specs.declared.stage.Stage.TheVariants as stage
use Rattle.statement_machine.specs.declared.txn.Txn.{Txn}
use Rattle.statement_machine.specs.Machine.{Rest, call_of, left_of}
use Rattle.statement_machine.specs.Place.{is_first, place_of, IsWithin}
use Rattle.statement_machine.specs.Txn as txn

name_call : (n : LogName) (name body : List ℕ) → log_name name ≡ n → IsCallAt (place_of_name n) (PutNew name body)
name_call (log.Commit version) name body is = (version, is)
name_call (log.CheckpointJson version) name body is = λ puts. let e : log.Commit puts.0 ≡ log.CheckpointJson version = sym puts.1 ∙ is in cc
name_call (log.CheckpointOther version) name body is = λ puts. let e : log.Commit puts.0 ≡ log.CheckpointOther version = sym puts.1 ∙ is in cc
name_call log.Hint name body is = λ puts. let e : log.Commit puts.0 ≡ log.Hint = sym puts.1 ∙ is in cc
name_call log.OtherLog name body is = λ puts. let e : log.Commit puts.0 ≡ log.OtherLog = sym puts.1 ∙ is in cc
name_call log.Outside name body is = λ puts. let e : log.Commit puts.0 ≡ log.Outside = sym puts.1 ∙ is in cc

-- a call within a statement is that of its place
pub call_within : (c : Call) → IsCallAt (place_of_call c) c
call_within (PutNew name body) = name_call (log_name name) name body refl
call_within (Get name) = λ puts. puts
call_within (Put name body) = λ puts. puts
call_within (ListNames prefix) = λ puts. puts
call_within (Delete name) = λ puts. puts
call_within Now = λ puts. puts
call_within (Wait time) = λ puts. puts

clock_call : (s : RequestStage Reading ℕ) (c : Call) → request.call_at reading_call s ≡ Some c → c ≡ Now
clock_call (at.Asking r) c is = cc
clock_call (at.Answered t) c is = cc
clock_call (at.Failed f) c is = cc

wait_call : (s : RequestStage Waiting (Unit {0})) (c : Call) → request.call_at waiting_call s ≡ Some c → (time : ℕ) × (c ≡ Wait time)
wait_call (at.Asking w) c is = let same : Wait w.time ≡ c = cc in (w.time, sym same)
wait_call (at.Answered t) c is = absurd cc
wait_call (at.Failed f) c is = absurd cc

-- a phase of one call has one answer to come
asking_left : {Q V : Type 0} (asks : Q → Call) (s : RequestStage Q V) (c : Call) → request.call_at asks s ≡ Some c → request.left_at s ≡ 1
asking_left asks (at.Asking q) c is = refl
asking_left asks (at.Answered t) c is = cc
asking_left asks (at.Failed f) c is = cc

-- by whether the phase is the first
at_call : (first : Bool) (o : Option Call) (c : Call) → o ≡ Some c → (first ≡ true → IsFirstCall c) → IsCallAt (place_at first o) c
at_call true None c is now = cc
at_call false None c is now = cc
at_call true (Some call) c is now = now refl
at_call false (Some call) c is now = let same : call ≡ c = cc in subst (λ x. IsCallAt (place_of_call call) x) same (call_within call)

first_call : (s : Stage) (c : Call) → call_of s ≡ Some c → is_first s ≡ true → IsFirstCall c
first_call (stage.Wait s w) c is first = inr (wait_call w.wait.stage c is)
first_call (stage.Clock s k) c is first = inl (clock_call k.stage c is)
first_call (stage.List s l) c is first = cc
first_call (stage.Load s l) c is first = cc
first_call (stage.Scan s f) c is first = cc
first_call (stage.Data s w) c is first = cc
first_call (stage.Commit s a) c is first = cc
first_call (stage.Done f) c is first = cc

-- the next call is that of the place
pub call_is : (s : Stage) (c : Call) → call_of s ≡ Some c → IsCallAt (place_of s) c
call_is s c is = at_call (is_first s) (call_of s) c is (first_call s c is)

name_within : (n : LogName) → IsWithin (place_of_name n)
name_within (log.Commit version) = tt
name_within (log.CheckpointJson version) = tt
name_within (log.CheckpointOther version) = tt
name_within log.Hint = tt
name_within log.OtherLog = tt
name_within log.Outside = tt

call_stays : (c : Call) → IsWithin (place_of_call c)
call_stays (PutNew name body) = name_within (log_name name)
call_stays (Get name) = tt
call_stays (Put name body) = tt
call_stays (ListNames prefix) = tt
call_stays (Delete name) = tt
call_stays Now = tt
call_stays (Wait time) = tt

at_within : (first : Bool) (o : Option Call) (c : Call) → o ≡ Some c → first ≡ false → IsWithin (place_at first o)
at_within true o c is first = cc
at_within false None c is first = cc
at_within false (Some call) c is first = call_stays call

-- a statement that has made a call is no new one
not_first : (s : Stage) (c : Call) → call_of s ≡ Some c → left_of s < most_calls → is_first s ≡ false
not_first (stage.Wait s w) c is less = let one = asking_left waiting_call w.wait.stage c is in absurd (omega (arith, one, less))
not_first (stage.Clock s k) c is less = let one = asking_left reading_call k.stage c is in absurd (omega (arith, one, less))
not_first (stage.List s l) c is less = refl
not_first (stage.Load s l) c is less = refl
not_first (stage.Scan s f) c is less = refl
not_first (stage.Data s w) c is less = refl
not_first (stage.Commit s a) c is less = refl
not_first (stage.Done f) c is less = refl

-- .. and is within, while it makes calls
pub stays : (s : Stage) (c : Call) → call_of s ≡ Some c → left_of s < most_calls → IsWithin (place_of s)
stays s c is less = at_within (is_first s) (call_of s) c is (not_first s c is less)

-- what the statement was fed leads on
pub fed_leads : (old self : Txn) (tag : Tag) (call : Call) (input : Fed) (new : Txn) → txn.Asks old tag call self → new.tag ≡ self.tag
    → IfSome (call_of self.stage) (λ call. Goes Rest self.stage call input new.stage) → (input ≡ fed.NoMemory → call_of new.stage ≡ None) → txn.Goes old (event_of tag call input) new
fed_leads old self tag call input new asks same goes ended = by input here ended
  where
    at_old : IfSome (call_of old.stage) (λ c. Goes Rest old.stage c input new.stage)
    at_old = subst (λ (s : Stage). IfSome (call_of s) (λ c. Goes Rest s c input new.stage)) asks.stage goes

    here : Goes Rest old.stage call input new.stage
    here = subst (λ (o : Option Call). IfSome o (λ c. Goes Rest old.stage c input new.stage)) asks.is_call at_old

    by : (input : Fed) → Goes Rest old.stage call input new.stage → (input ≡ fed.NoMemory → call_of new.stage ≡ None) → txn.Goes old (event_of tag call input) new
    by (fed.Answer answer) leads ended = (same ∙ asks.same, asks.is_tag, λ es out h. leads tag es out h)
    by fed.NoMemory stops ended = (same ∙ asks.same, ended refl, stops)
