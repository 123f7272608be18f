-- Where a session stands before and after an event.
use Rattle.std.proofs.Common.{◌≡◌, ◌⊎◌, inl, inr, Bool, true, false, ℕ, ◌+◌, ◌<◌, List, [], ◌∷◌, ◌++◌, length, refl, sym, ◌∙◌, ap, subst, arith, append_assoc}
use Rattle.std.specs.Prelude.{Option, Some, None, is_none, IfSome, if◌then◌else◌}
use Rattle.edge_api.specs.Actor.{Event, Made, Refused as Wanting, event_of}
use Rattle.edge_api.specs.declared.actor.Fed.{Fed}
use Rattle.edge_api.specs.declared.actor.Fed.TheVariants as fed
use Rattle.edge_api.specs.declared.actor.Stage.TheVariants as place
use Rattle.edge_api.specs.declared.call.Call.{Call}
use Rattle.edge_api.specs.declared.call.Tag.{Tag}
use Rattle.statement_types.specs.declared.refusal.Refusal.TheVariants.{NoMemory}
use Rattle.statement_types.specs.declared.reply.Reply.{Reply}
use Rattle.statement_types.specs.declared.reply.Reply.TheVariants.{Killed, Refused}
use Rattle.statement_types.specs.declared.statement.Statement.{Statement}
use Rattle.call_phases.specs.Machine.{LeftBy}
use Rattle.statement_steps.specs.Bounds.{most_calls}
use Rattle.statement_machine.specs.Machine.{Rest, left_of, call_of}
use Rattle.statement_machine.specs.Place.{place_of, IsWithin}
use Rattle.statement_machine.specs.Txn as txn
use Rattle.statement_machine.specs.declared.txn.Txn.{Txn}
use Rattle.statement_machine.proofs.Places.{call_is, stays}
use Rattle.statement_sessions.specs.declared.session.Session.{Session}
use Rattle.statement_sessions.specs.Session.{Asks, IsReady, IsReadyNow, IsCounted, IsNew, IsDone, HasEnded, GoesOnBy, GoesOn, StaysOrEnds, progress_of}
use Rattle.statement_sessions.specs.Under.{under, IsStill, Stays, IsNext, IsReplied, IsOver, IsLedFrom, IsLed}
use Rattle.statement_sessions.proofs.OpenReplies.{open_reply}

pub next_is : (o : Option Txn) (t : Txn) (first next : ℕ) → o ≡ Some t → IfSome o (IsNew first next) → IsNew first next t
next_is o t first next is h = subst (λ (x : Option Txn). IfSome x (IsNew first next)) is h

long_push : (xs : List Reply) (r : Reply) → length (xs ++ r ∷ []) ≡ length xs + 1
long_push [] r = refl
long_push (x ∷ xs) r = let rest = long_push xs r in omega arith

tag_is : (t : Tag) (a s : ℕ) → t.actor ≡ a → t.statement ≡ s → t ≡ record { actor = a; statement = s }
tag_is t a s e f = ap (λ (n : ℕ). record { actor = n; statement = t.statement }) e ∙ ap (λ (n : ℕ). record { actor = a; statement = n }) f

-- one more has its reply
pub ended_further : (a t : Txn) (before mid after : List Reply) → GoesOnBy a before t mid → IsDone t mid after → HasEnded a before after
ended_further a t before mid after (inl same) d =
    record { finish = d.finish; rest = subst (λ (x : Txn). Rest x.stage [] (Some d.finish)) same.0 d.rest; more = []; all = d.last ∙ ap (λ (l : List Reply). l ++ d.finish.reply ∷ []) same.1 }
ended_further a t before mid after (inr ended) d =
    let e = ended.0 in
    record {
      finish = e.finish;
      rest = e.rest;
      more = e.more ++ d.finish.reply ∷ [];
      all = d.last ∙ ap (λ (l : List Reply). l ++ d.finish.reply ∷ []) e.all ∙ append_assoc before (e.finish.reply ∷ e.more) (d.finish.reply ∷ []);
    }

pub counted_further : (t u : Txn) (mid after : List Reply) (first next : ℕ) → IsCounted (Some t) (length mid) first → IsDone t mid after → IsNew first next u → IsCounted (Some u) (length after) next
counted_further t u mid after first next counted d fresh =
    let long : length after ≡ length mid + 1 = ap (λ (l : List Reply). length l) d.last ∙ long_push mid d.finish.reply in
    let number = counted.0 in
    let place = counted.1 in
    let is = fresh.is in
    (fresh.next_is, omega (arith, long, number, place, is), fresh.most)

-- how a statement went on: it stays, or it has its reply and a new one is under way or none
abbrev pub Outcome : Txn → List Reply → Option Txn → List Reply → Type 0
Outcome t before n after = ((n ≡ Some t) × (after ≡ before)) ⊎ ((reply : Reply) × IsReplied before reply after × IfSome n (λ u. place_of u.stage ≡ place.Between))

pub outcome : (t : Txn) (before mid after : List Reply) (m n : Option Txn) → GoesOn t before m mid → StaysOrEnds m mid n after → Outcome t before n after
outcome t before mid after m n (inl s) (inl k) = inl (k.0 ∙ s.0, k.1 ∙ s.1)
outcome t before mid after m n (inl s) (inr k) =
    inr (Killed, record { more = []; all = k.1 ∙ ap (λ (l : List Reply). l ++ Killed ∷ []) s.1 }, subst (λ (x : Option Txn). IfSome x (λ u. place_of u.stage ≡ place.Between)) (sym k.0) tt)
outcome t before mid after m n (inr e) (inl k) =
    inr (e.0.finish.reply, record { more = e.0.more; all = k.1 ∙ e.0.all }, subst (λ (x : Option Txn). IfSome x (λ u. place_of u.stage ≡ place.Between)) (sym k.0) e.1)
outcome t before mid after m n (inr e) (inr k) =
    inr (
      e.0.finish.reply,
      record { more = e.0.more ++ Killed ∷ []; all = k.1 ∙ ap (λ (l : List Reply). l ++ Killed ∷ []) e.0.all ∙ append_assoc before (e.0.finish.reply ∷ e.0.more) (Killed ∷ []) },
      subst (λ (x : Option Txn). IfSome x (λ u. place_of u.stage ≡ place.Between)) (sym k.0) tt,
    )

-- a new statement has the number behind the replies
between : (n : Option Txn) (actor count next : ℕ) (later : List Statement) → IsReadyNow n actor later → IsCounted n count next → IfSome n (λ u. place_of u.stage ≡ place.Between) → IsNext actor count (under n)
between None actor count next later ready counted at = tt
between (Some u) actor count next later ready counted at = (tag_is u.tag actor (count + 1) ready.1 counted.1, at)

same_tag : (o : Txn) (event : Event) (t : Txn) → txn.Goes o event t → t.tag ≡ o.tag
same_tag o (Made e) t goes = goes.0
same_tag o Wanting t goes = goes.0

counted_now : (old : Session) (o : Txn) (tag : Tag) (call : Call) (self : Session) → Asks old tag call self → old.current ≡ Some o → IsCounted (Some o) (length self.replies.items) self.next
counted_now old o tag call self a is =
    let replies : length old.replies.items ≡ length self.replies.items = cc (a.replies) in
    subst (λ (n : ℕ). IsCounted (Some o) n self.next) replies
    (subst (λ (n : ℕ). IsCounted (Some o) (length old.replies.items) n) (sym a.next) (subst (λ (x : Option Txn). IsCounted x (length old.replies.items) old.next) is a.ready.settled.counted))

-- a statement that was answered
pub event_counted : (old : Session) (tag : Tag) (call : Call) (self : Session) (o t : Txn) (event : Event) → Asks old tag call self → old.current ≡ Some o → txn.Goes o event t → left_of t.stage < left_of o.stage
    → IsCounted (Some t) (length self.replies.items) self.next
event_counted old tag call self o t event a is goes falls =
    let before = counted_now old o tag call self a is in
    let number = before.0 in
    let place = before.1 in
    let most = before.2 in
    let statement = ap (λ (g : Tag). g.statement) (same_tag o event t goes) in
    (omega (arith, number, statement), omega (arith, place, statement), omega (arith, most, falls))

call_left : (n : ℕ) (o : Option Call) → LeftBy n o → 0 < n → (c : Call) × (o ≡ Some c)
call_left n None left some = absurd (omega (arith, left, some))
call_left n (Some call) left some = (call, refl)

-- a statement that was answered and has calls left is neither new nor done
still_within : (t : Txn) → txn.IsReady t → 0 < left_of t.stage → left_of t.stage < most_calls → IsWithin (place_of t.stage)
still_within t ready some less =
    let next = call_left (left_of t.stage) t.pending ready.left some in
    stays t.stage next.0 (sym ready.call ∙ next.1) less

-- after an answer the statement stays or is over
stays_or_over : (o t : Txn) (before after : List Reply) (n : Option Txn) (k next : ℕ) (later : List Statement) → t.tag ≡ o.tag → left_of t.stage < most_calls → o.tag.actor ≡ k → IsReadyNow n k later
    → IsCounted n (length after) next → Outcome t before n after
    → Stays o.tag before (record { now = under n; replies = after }) ⊎ ((reply : Reply) × IsOver o.tag before reply (record { now = under n; replies = after }))
stays_or_over o t before after n k next later tag less actor ready counted (inl s) =
    let same : IsReadyNow (Some t) k later = subst (λ (x : Option Txn). IsReadyNow x k later) s.0 ready in
    let still : IsStill o.tag (under (Some t)) = (tag, still_within t same.0 same.2 less) in
    inl (subst (λ (x : Option Txn). IsStill o.tag (under x)) (sym s.0) still, s.1)
stays_or_over o t before after n k next later tag less actor ready counted (inr e) =
    inr (e.0, (e.1, subst (λ (a : ℕ). IsNext a (length after) (under n)) (sym actor) (between n k (length after) next later ready counted e.2)))

-- after want of memory it is over
not_same : (t : Txn) (n : Option Txn) (k : ℕ) (later : List Statement) → n ≡ Some t → call_of t.stage ≡ None → IsReadyNow n k later → ⊥
not_same t n k later is none ready =
    let same : IsReadyNow (Some t) k later = subst (λ (x : Option Txn). IsReadyNow x k later) is ready in
    let nothing : left_of t.stage ≡ 0 = subst (λ (c : Option Call). LeftBy (left_of t.stage) c) ((same.0).call ∙ none) (same.0).left in
    let some = same.2 in
    omega (arith, nothing, some)

over_at_once : (o t : Txn) (call : Call) (before after : List Reply) (m n : Option Txn) (mid : List Reply) (k next : ℕ) (later : List Statement) → call_of o.stage ≡ Some call → txn.Goes o Wanting t → o.tag.actor ≡ k → IsReadyNow n k later
    → IsCounted n (length after) next → GoesOn t before m mid → (n ≡ m) × (after ≡ mid) → IsOver o.tag before (Refused NoMemory) (record { now = under n; replies = after })
over_at_once o t call before after m n mid k next later is goes actor ready counted (inl s) kept = absurd (not_same t n k later (kept.0 ∙ s.0) goes.1 ready)
over_at_once o t call before after m n mid k next later is goes actor ready counted (inr e) kept =
    let memory : e.0.finish.reply ≡ Refused NoMemory = open_reply o.stage call e.0.finish is (goes.2 [] (Some e.0.finish) e.0.rest).1 in
    let at = subst (λ (x : Option Txn). IfSome x (λ u. place_of u.stage ≡ place.Between)) (sym kept.0) e.1 in (
      subst (λ (r : Reply). IsReplied before r after) memory (record { more = e.0.more; all = kept.1 ∙ e.0.all }),
      subst (λ (a : ℕ). IsNext a (length after) (under n)) (sym actor) (between n k (length after) next later ready counted at),
    )

led_now : (o asked t : Txn) (tag : Tag) (call : Call) (answer : Fed) (before mid after : List Reply) (m n : Option Txn) (k next : ℕ) (later : List Statement) → txn.Asks o tag call asked → txn.Goes o (event_of tag call answer) t
    → left_of t.stage < most_calls → o.tag.actor ≡ k → IsReadyNow n k later → IsCounted n (length after) next → GoesOn t before m mid → StaysOrEnds m mid n after → (answer ≡ fed.NoMemory → (n ≡ m) × (after ≡ mid))
    → IsLedFrom (under (Some o)) before (event_of tag call answer) (record { now = under n; replies = after })
led_now o asked t tag call (fed.Answer a) before mid after m n k next later asks goes less actor ready counted on ends kept =
    (asks.is_tag, call_is o.stage call asks.is_call, stays_or_over o t before after n k next later goes.0 less actor ready counted (outcome t before mid after m n on ends))
led_now o asked t tag call fed.NoMemory before mid after m n k next later asks goes less actor ready counted on ends kept =
    over_at_once o t call before after m n mid k next later asks.is_call goes actor ready counted on (kept refl)

actor_now : (old : Session) (o : Txn) → IsReady old → old.current ≡ Some o → o.tag.actor ≡ old.actor
actor_now old o ready is = (subst (λ (n : Option Txn). IsReadyNow n old.actor old.later.items) is ready.settled.now).1

-- an event leads on
pub event_led : (old : Session) (tag : Tag) (call : Call) (self : Session) (o asked t : Txn) (answer : Fed) (settled new : Session) → Asks old tag call self → old.current ≡ Some o → txn.Asks o tag call asked
    → txn.Goes o (event_of tag call answer) t → left_of t.stage < left_of o.stage → IsReadyNow new.current old.actor new.later.items → IsCounted new.current (length new.replies.items) new.next
    → GoesOn t self.replies.items settled.current settled.replies.items → StaysOrEnds settled.current settled.replies.items new.current new.replies.items
    → (answer ≡ fed.NoMemory → (new.current ≡ settled.current) × (new.replies.items ≡ settled.replies.items)) → IsLed (progress_of old) (event_of tag call answer) (progress_of new)
event_led old tag call self o asked t answer settled new a is asks goes falls ready counted on ends kept =
    let before = counted_now old o tag call self a is in
    let most = before.2 in
    let less : left_of t.stage < most_calls = omega (arith, most, falls) in
    let replies : self.replies.items ≡ old.replies.items = cc (a.replies) in
    let led = led_now o asked t tag call answer self.replies.items settled.replies.items new.replies.items settled.current new.current old.actor new.next new.later.items asks goes less (actor_now old o a.ready is) ready counted on ends kept in
    subst (λ (x : Option Txn). IsLedFrom (under x) old.replies.items (event_of tag call answer) (progress_of new)) (sym is)
    (subst (λ (rs : List Reply). IsLedFrom (under (Some o)) rs (event_of tag call answer) (progress_of new)) replies led)

stands_now : (t : Txn) (o : Option Call) → t.pending ≡ o → is_none o ≡ false → IfSome o (λ call. place_of t.stage ≡ place.Between) → place_of t.stage ≡ place.Between
stands_now t None is some h = cc
stands_now t (Some call) is some h = h

pending_some : (n : ℕ) (o : Option Call) → LeftBy n o → 0 < n → is_none o ≡ false
pending_some n None nothing some = absurd (omega (arith, nothing, some))
pending_some n (Some call) more some = refl

-- a session that made no call yet
pub fresh_now : (t : Txn) (n : Option Txn) (before after : List Reply) (k first next later_next : ℕ) (later : List Statement) → IsNew first next t → Outcome t before n after → IsReadyNow n k later → IsCounted n (length after) later_next
    → IsNext k (length after) (under n)
fresh_now t n before after k first next later_next later new (inl s) ready counted =
    let here : IsReadyNow (Some t) k later = subst (λ (x : Option Txn). IsReadyNow x k later) s.0 ready in
    let pending = pending_some (left_of t.stage) t.pending (here.0).left here.2 in
    let at = stands_now t t.pending refl pending new.stands in
    between n k (length after) later_next later ready counted (subst (λ (x : Option Txn). IfSome x (λ u. place_of u.stage ≡ place.Between)) (sym s.0) at)
fresh_now t n before after k first next later_next later new (inr e) ready counted = between n k (length after) later_next later ready counted e.2

-- what makes no entry is no answer
pub heard_not : (b : Bool) → ◌≡◌ {A = ℕ} (if b then 1 else 0) 0 → b ≡ false
heard_not true h = cc
heard_not false h = refl
