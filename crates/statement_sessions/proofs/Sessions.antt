-- An answer to a session.
use Rattle.std.proofs.Common.{◌≡◌, inl, inr, Bool, ℕ, ◌+◌, ◌*◌, ◌<◌, ◌≤◌, List, [], ◌∷◌, ◌++◌, length, refl, sym, ◌∙◌, ap, subst, arith, append_assoc}
use Rattle.std.proofs.Math.Nat.{add-mul}
use Rattle.std.specs.Prelude.{Option, Some, None}
use Rattle.edge_api.specs.Actor.{Event, Made, Refused, event_of, entries_of_events}
use Rattle.edge_api.specs.declared.actor.Fed.{Fed}
use Rattle.edge_api.specs.declared.actor.Fed.TheVariants as fed
use Rattle.edge_api.specs.declared.call.Call.{Call}
use Rattle.edge_api.specs.declared.call.Tag.{Tag}
use Rattle.statement_types.specs.declared.reply.Reply.{Reply}
use Rattle.call_phases.specs.Phases.{Entries}
use Rattle.statement_steps.specs.Bounds.{most_calls}
use Rattle.statement_machine.specs.Machine.{left_of}
use Rattle.statement_machine.specs.Txn as txn
use Rattle.statement_machine.specs.declared.txn.Txn.{Txn}
use Rattle.statement_sessions.specs.declared.session.Session.{Session}
use Rattle.statement_sessions.specs.Session.{Numbered, AllTagged, later_plans, RestNow, RestBy, Remains, RemainsAfter, Stops, IsAlive, HasCalls, count_of, Started, Begins, IsDone, AllAnswered, AsksNow, Asks, left, left_now}

-- the statement that was asked
pub record Asked (old : Session) (tag : Tag) (call : Call) (t : Txn) : Type 0 where
  pub before : Txn
  pub is : old.current ≡ Some before
  pub asks : txn.Asks before tag call t

asked_now : (old : Session) (tag : Tag) (call : Call) (t : Txn) (a b : Option Txn) → old.current ≡ a → b ≡ Some t → AsksNow a tag call b → Asked old tag call t
asked_now old tag call t None b is at h = absurd h
asked_now old tag call t (Some x) None is at h = absurd h
asked_now old tag call t (Some x) (Some y) is at h =
    let same : y ≡ t = cc in
    record { before = x; is = is; asks = subst (λ (z : Txn). txn.Asks x tag call z) same h }

pub asked : (old : Session) (tag : Tag) (call : Call) (new : Session) (t : Txn) → Asks old tag call new → new.current ≡ Some t → Asked old tag call t
asked old tag call new t h at = asked_now old tag call t old.current new.current refl at h.current

-- the statement's event, in front of what remains
event_now : (killed : Bool) (o t : Txn) (event : Event) (ps : List Numbered) (es : Entries) (rs : List Reply) → txn.Goes o event t → RestNow killed (Some t) ps es rs → RestNow killed (Some o) ps (entries_of_events (event ∷ []) ++ es) rs
event_now killed o t event ps es [] goes h = absurd h
event_now killed o t (Made e) ps es (r ∷ rs) goes (inl x) =
    inl (x.0, (x.1.0, x.1.1, (goes.1, subst (λ (g : Tag). AllTagged g es) goes.0 x.1.2)), goes.2 es None x.2)
event_now killed o t (Made e) ps es (r ∷ rs) goes (inr h) =
    inr (e ∷ h.0, h.1, ap (λ (l : Entries). e ∷ l) h.2, (goes.1, subst (λ (g : Tag). AllTagged g h.0) goes.0 h.3), (h.4.0, goes.2 h.0 (Some (record { reply = r; kept = h.4.0 })) h.4.1), h.5)
event_now killed o t Refused ps es (r ∷ rs) goes (inl x) = inl (x.0, (x.1.0, x.1.1, subst (λ (g : Tag). AllTagged g es) goes.0 x.1.2), (goes.2 es None x.2).1)
event_now killed o t Refused ps es (r ∷ rs) goes (inr h) =
    let ends = goes.2 h.0 (Some (record { reply = r; kept = h.4.0 })) h.4.1 in
    inr (h.0, h.1, h.2, subst (λ (g : Tag). AllTagged g h.0) goes.0 h.3, (h.4.0, ends.1), h.5)

pub event_rest : (killed : Bool) (old : Session) (tag : Tag) (call : Call) (self : Session) (o t : Txn) (event : Event) (es : Entries) (all : List Reply) → Asks old tag call self → old.current ≡ Some o → txn.Goes o event t
    → RestBy killed self.replies.items (Some t) (later_plans self) es all → RestBy killed old.replies.items old.current (later_plans old) (entries_of_events (event ∷ []) ++ es) all
event_rest killed old tag call self o t event es all a is goes h =
    let plans : later_plans self ≡ later_plans old = cc (a.later, a.next, a.actor, a.limit) in
    let replies : self.replies.items ≡ old.replies.items = cc (a.replies) in
    let here : RestNow killed (Some o) (later_plans self) (entries_of_events (event ∷ []) ++ es) h.0 = event_now killed o t event (later_plans self) es h.0 goes h.2 in
    let there : RestNow killed (Some o) (later_plans old) (entries_of_events (event ∷ []) ++ es) h.0 = subst (λ (ps : List Numbered). RestNow killed (Some o) ps (entries_of_events (event ∷ []) ++ es) h.0) plans here in
    (h.0, h.1 ∙ ap (λ (l : List Reply). l ++ h.0) replies, subst (λ (n : Option Txn). RestNow killed n (later_plans old) (entries_of_events (event ∷ []) ++ es) h.0) (sym is) there)

length_event : (tag : Tag) (call : Call) (answer : Fed) (es : Entries) → count_of answer + length es ≡ length (entries_of_events (event_of tag call answer ∷ []) ++ es)
length_event tag call (fed.Answer a) es = omega arith
length_event tag call fed.NoMemory es = omega arith

-- an answer that is counted
pub event_goes : (old : Session) (tag : Tag) (call : Call) (self settled : Session) (o t : Txn) (answer : Fed) (n : ℕ) (es : Entries) (all : List Reply) → Asks old tag call self → old.current ≡ Some o → txn.Goes o (event_of tag call answer) t
    → settled.kill ≡ self.kill → n ≡ count_of answer
    → ((killed : Bool) → RestBy killed settled.replies.items settled.current (later_plans settled) es all → RestBy killed self.replies.items (Some t) (later_plans self) es all)
    → RemainsAfter n settled es all → Remains old (entries_of_events (event_of tag call answer ∷ []) ++ es) all
event_goes old tag call self settled o t answer n es all a is goes kill counted settles h =
    let long : n + length es ≡ length (entries_of_events (event_of tag call answer ∷ []) ++ es) = ap (λ (m : ℕ). m + length es) counted ∙ length_event tag call answer es in
    let most : settled.kill ≡ old.kill = kill ∙ a.kill in
    let stops = subst (λ (k : Option ℕ). Stops k (n + length es) h.0) most h.1 in
    (h.0, subst (λ (m : ℕ). Stops old.kill m h.0) long stops, event_rest h.0 old tag call self o t (event_of tag call answer) es all a is goes (settles h.0 h.2))

calls_now : (kill : Option ℕ) (now : Option Txn) (tag : Tag) (call : Call) (new : Option Txn) → AsksNow now tag call new → IsAlive kill now → HasCalls kill
calls_now None now tag call new h alive = tt
calls_now (Some n) None tag call new h alive = absurd h
calls_now (Some n) (Some t) tag call new h alive = alive

-- a session that was asked has calls left
pub has_calls : (old : Session) (tag : Tag) (call : Call) (self : Session) → Asks old tag call self → HasCalls self.kill
has_calls old tag call self a = subst HasCalls (sym a.kill) (calls_now old.kill old.current tag call self.current a.current a.ready.alive)

pub event_falls : (old : Session) (tag : Tag) (call : Call) (self new : Session) (o t : Txn) → Asks old tag call self → old.current ≡ Some o → left_of t.stage < left_of o.stage
    → left new ≤ length self.later.items * (1 + most_calls) + left_of t.stage → left new < left old
event_falls old tag call self new o t a is falls most =
    let later : length self.later.items * (1 + most_calls) ≡ length old.later.items * (1 + most_calls) = cc (a.later) in
    let now : left_now old.current ≡ left_of o.stage = ap left_now is in
    omega (arith, later, now)

-- a statement that is begun counts no more than before
pub begun_left : (a b n k l x : ℕ) → l ≤ b * k → b + a ≡ n → a * k + l ≤ n * k + x
begun_left a b n k l x most sum =
    let whole : n * k ≡ b * k + a * k = ap (λ (m : ℕ). m * k) (sym sum) ∙ add-mul b a k in
    omega (arith, whole, most)

started_answered : (killed : Bool) (p : Numbered) (later : List Numbered) (t : Txn) (es : Entries) (rs : List Reply) → Started p t → RestNow killed (Some t) later es rs → AllAnswered killed (p ∷ later) es rs
started_answered killed p later t es [] s h = absurd h
started_answered killed p later t es (r ∷ rs) s (inl x) = inl (x.0, (x.1.0, x.1.1, subst (λ (g : Tag). AllTagged g es) s.tag x.1.2), s.begins es None x.2)
started_answered killed p later t es (r ∷ rs) s (inr h) = inr (h.0, h.1, h.2, subst (λ (g : Tag). AllTagged g h.0) s.tag h.3, (h.4.0, s.begins h.0 (Some (record { reply = r; kept = h.4.0 })) h.4.1), h.5)

-- a statement that has begun
begun_answered : (killed : Bool) (ps later : List Numbered) (now : Option Txn) (es : Entries) (rs : List Reply) → Begins ps later now → RestNow killed now later es rs → AllAnswered killed ps es rs
begun_answered killed ps later None es rs begins h = subst (λ (l : List Numbered). AllAnswered killed l es rs) (sym begins.0) h
begun_answered killed ps later (Some t) es rs begins h = subst (λ (l : List Numbered). AllAnswered killed l es rs) (sym begins.1) (started_answered killed begins.0 later t es rs begins.2 h)

-- a session that has begun its first statement
pub first_answered : (killed : Bool) (ps later : List Numbered) (now : Option Txn) (replies : List Reply) (es : Entries) (all : List Reply) → replies ≡ [] → Begins ps later now → RestBy killed replies now later es all → AllAnswered killed ps es all
first_answered killed ps later now replies es all none begins h =
    let whole : all ≡ h.0 = h.1 ∙ ap (λ (l : List Reply). l ++ h.0) none in
    subst (λ (l : List Reply). AllAnswered killed ps es l) (sym whole) (begun_answered killed ps later now es h.0 begins h.2)

-- a statement that has its reply, and the next
pub settled : (killed : Bool) (t : Txn) (ps later : List Numbered) (now : Option Txn) (replies new : List Reply) (es : Entries) (all : List Reply) → Begins ps later now → IsDone t replies new → RestBy killed new now later es all
    → RestBy killed replies (Some t) ps es all
settled killed t ps later now replies new es all begins given h =
    let r = given.finish.reply in
    (r ∷ h.0, h.1 ∙ ap (λ (l : List Reply). l ++ h.0) given.last ∙ append_assoc replies (r ∷ []) h.0, inr ([], es, refl, tt, (given.finish.kept, given.rest), begun_answered killed ps later now es h.0 begins h.2))
