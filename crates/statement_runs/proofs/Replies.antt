-- The entries of each actor of a run, and its replies.
use Rattle.std.proofs.Common.{◌≡◌, ◌≢◌, ℕ, zero, suc, ◌+◌, ◌<◌, ◌≤◌, List, [], ◌∷◌, ◌++◌, length, get_or, drop, refl, sym, ◌∙◌, ap, subst, arith, append_assoc}
use Rattle.std.proofs.lemmas.List.{append-nil}
use Rattle.std.proofs.lemmas.Option.{slice_get_within, unwrap_or-slice_get}
use Rattle.std.specs.Prelude.{Bool, true, false, unwrap_or, Option, Some, None, All, map, slice_get}
use Rattle.edge_api.specs.declared.call.JournalEntry.{JournalEntry}
use Rattle.edge_api.specs.Actor.{Event, Moves, Feeds, entries_of_events}
use Rattle.edge_api.specs.World.{Grows}
use Rattle.statement_types.specs.declared.statement.Statement.{Statement}
use Rattle.statement_types.specs.declared.reply.Reply.{Reply}
use Rattle.call_phases.specs.Phases.{Entries}
use Rattle.statement_machine.specs.declared.txn.Txn.{Txn}
use Rattle.statement_machine.specs.Machine.{left_of}
use Rattle.actor_core.specs.Entries.{of_actor, AllOfActor}
use Rattle.actor_core.specs.Piece.{RunsAlone}
use Rattle.actor_core.specs.Schedule.{AreApart, EachOwnPart, TakesTurns}
use Rattle.actor_core.proofs.Lists.{item_of, some_same}
use Rattle.actor_core.proofs.Numbers.{numbered_apart, own_parts}
use Rattle.actor_core.proofs.Owners.{of_actor-append, of_actor_all, of_actor_none}
use Rattle.actor_core.proofs.Pieces.{Told, entries-append, grows_more}
use Rattle.statement_sessions.specs.declared.session.Session.{Session}
use Rattle.statement_sessions.specs.Session.{Numbered, Goes, Remains, RestBy, Stops, AnsweredTo, IsReady, IsReadyNow, left, left_now, plans_from, later_plans}
use Rattle.row_base.specs.declared.limits.TheConstants.{MAX_STATEMENTS}
use Rattle.statement_types.specs.declared.statement.TableSpec.{TableSpec}
use Rattle.statement_runs.specs.Run.{AllReplied, Begins, AllBegin, first_statements}

abbrev pub number : Session → ℕ
number s = s.actor

abbrev pub given : Session → List Reply
given s = s.replies.items

-- what a session was fed, in front of what remains
feeds_remain : (a b : Session) (es : List Event) (rest : Entries) (all : List Reply) → Feeds (Moves Goes number) a es b → Remains b rest all → Remains a (entries_of_events es ++ rest) all
feeds_remain a b [] rest all same h = subst (λ (x : Session). Remains x rest all) (sym same) h
feeds_remain a b (e ∷ es) rest all fed h =
    let later = feeds_remain fed.0 b es rest all fed.2 h in
    let both = fed.1.leads.leads (entries_of_events es ++ rest) all later in
    subst (λ (l : Entries). Remains a l all) (sym (ap (λ (l : Entries). l ++ rest) (entries-append (e ∷ []) es) ∙ append_assoc (entries_of_events (e ∷ [])) (entries_of_events es) rest)) both

-- nothing remains of one that is done
done_now : (killed : Bool) (replies : List Reply) (now : Option Txn) (ps : List Numbered) → left_now now ≡ 0 → ((t : Txn) → now ≡ Some t → 0 < left_of t.stage) → RestBy killed replies now ps [] replies
done_now killed replies None ps none some = ([], sym (append-nil replies), (refl, refl))
done_now killed replies (Some t) ps none some = let lt = some t refl in absurd (omega (arith, lt, none))

some_left : (now : Option Txn) (n : ℕ) (later : List Statement) → IsReadyNow now n later → (t : Txn) → now ≡ Some t → 0 < left_of t.stage
some_left None n later h t is = cc
some_left (Some x) n later h t is = let same : x ≡ t = some_same x t is in subst (λ (y : Txn). 0 < left_of y.stage) same h.2

stops_here : (kill : Option ℕ) → (killed : Bool) × Stops kill 0 killed
stops_here None = (false, tt)
stops_here (Some zero) = (true, refl)
stops_here (Some (suc n)) = (false, omega arith)

done_remains : (s : Session) → IsReady s → left s ≡ 0 → Remains s [] s.replies.items
done_remains s ready none =
    let here : left_now s.current ≡ 0 = omega (arith, none) in
    let stops = stops_here s.kill in
    (stops.0, stops.1, done_now stops.0 s.replies.items s.current (later_plans s) here (some_left s.current s.actor s.later.items ready.settled.now))

-- a session's statements are answered by its events
session_answered : (actor limit : ℕ) (statements : List Statement) (a b : Session) (es : List Event) → Begins actor limit statements a → IsReady b → left b ≡ 0 → Feeds (Moves Goes number) a es b
    → AnsweredTo None (plans_from actor limit 1 statements) (entries_of_events es) b.replies.items
session_answered actor limit statements a b es begins ready none fed =
    let remains = feeds_remain a b es [] b.replies.items fed (done_remains b ready none) in
    begins.answers (entries_of_events es) b.replies.items (subst (λ (l : Entries). Remains a l b.replies.items) (append-nil (entries_of_events es)) remains)

-- each session is there, with its number
pub begin_long : (limit k : ℕ) (scripts : List (List Statement)) (ss : List Session) → AllBegin limit k scripts ss → length ss ≡ length scripts
begin_long limit k [] ss h = ap (λ (l : List Session). length l) h
begin_long limit k (x ∷ scripts) [] h = absurd h
begin_long limit k (x ∷ scripts) (s ∷ ss) h = ap (λ (n : ℕ). suc n) (begin_long limit (suc k) scripts ss h.1)

begin_at : (limit k : ℕ) (scripts : List (List Statement)) (ss : List Session) → AllBegin limit k scripts ss → (i : ℕ) (statements : List Statement) (s : Session) → slice_get scripts i ≡ Some statements → slice_get ss i ≡ Some s
    → Begins (k + i) limit statements s
begin_at limit k [] ss h i statements s at to = cc
begin_at limit k (x ∷ scripts) [] h i statements s at to = absurd h
begin_at limit k (x ∷ scripts) (y ∷ ss) h zero statements s at to =
    let same : k ≡ k + 0 = omega arith in
    let first = subst (λ (l : List Statement). Begins k limit l y) (some_same x statements at) h.0 in
    subst (λ (n : ℕ). Begins n limit statements s) same (subst (λ (z : Session). Begins k limit statements z) (some_same y s to) first)
begin_at limit k (x ∷ scripts) (y ∷ ss) h (suc i) statements s at to =
    let same : suc k + i ≡ k + suc i = omega arith in
    subst (λ (n : ℕ). Begins n limit statements s) same (begin_at limit (suc k) scripts ss h.1 i statements s at to)

-- one session more
pub one_begun : (limit k : ℕ) (old rest all : List (List Statement)) (made news : List Session) (s : Session) (statements : List Statement) → Begins k limit statements s → old ≡ statements ∷ rest
    → ((more : List Session) → AllBegin limit k old more → AllBegin limit 1 all (made ++ more)) → news ≡ made ++ s ∷ [] → (more : List Session) → AllBegin limit (k + 1) rest more → AllBegin limit 1 all (news ++ more)
one_begun limit k old rest all made news s statements begins first so_far is more h =
    let next : k + 1 ≡ suc k = omega arith in
    let whole : AllBegin limit k old (s ∷ more) = subst (λ (l : List (List Statement)). AllBegin limit k l (s ∷ more)) (sym first) (begins, subst (λ (n : ℕ). AllBegin limit n rest more) next h) in
    subst (λ (l : List Session). AllBegin limit 1 all l) (sym (ap (λ (l : List Session). l ++ more) is ∙ append_assoc made (s ∷ []) more)) (so_far (s ∷ more) whole)

-- what holds of all holds of those after the first
pub all_next : {A : Type 0} (old rest : List A) (P : A → Type 0) → rest ≡ drop 1 old → All P old → All P rest
all_next old rest P is all = subst (All P) (sym is) (later old all)
  where
    later : (xs : List _) → All P xs → All P (drop 1 xs)
    later [] h = h
    later (x ∷ xs) h = λ k d lt. h (suc k) d (omega (arith, lt))

-- all are begun
pub all_begun : (limit k : ℕ) (rest all : List (List Statement)) (made : List Session) → ((more : List Session) → AllBegin limit k rest more → AllBegin limit 1 all (made ++ more)) → rest ≡ [] → AllBegin limit 1 all made
all_begun limit k rest all made so_far none = subst (λ (l : List Session). AllBegin limit 1 all l) (append-nil made) (so_far [] (subst (λ (l : List (List Statement)). AllBegin limit k l []) (sym none) refl))

pub all_at : {A : Type 0} (P : A → Type 0) (xs : List A) (i : ℕ) (b : A) → All P xs → slice_get xs i ≡ Some b → P b
all_at P xs i b all at =
    let is : get_or xs i b ≡ b = sym (unwrap_or-slice_get xs i b) ∙ ap (λ (o : Option _). unwrap_or o b) at in
    subst P is (all i b (slice_get_within xs i b at))

-- an item of what was made of each
map_at : (xs : List Session) (i : ℕ) (g : List Reply) → slice_get (map given xs) i ≡ Some g → (b : Session) × (slice_get xs i ≡ Some b) × (given b ≡ g)
map_at [] i g at = cc
map_at (x ∷ xs) zero g at = (x, refl, some_same (given x) g at)
map_at (x ∷ xs) (suc i) g at = map_at xs i g at

-- the first and all others
all_first : {A : Type 0} (P : A → Type 0) (x : A) (xs : List A) → P x → All P xs → All P (x ∷ xs)
all_first P x xs p h zero d lt = p
all_first P x xs p h (suc i) d lt = h i d (omega (arith, lt))

-- each is ready
pub all_ready : (limit k : ℕ) (scripts : List (List Statement)) (ss : List Session) → AllBegin limit k scripts ss → All IsReady ss
all_ready limit k [] ss h = subst (All IsReady) (sym h) (λ i d lt. absurd (omega (arith, lt)))
all_ready limit k (x ∷ scripts) [] h = absurd h
all_ready limit k (x ∷ scripts) (s ∷ ss) h = all_first IsReady s ss h.0.ready (all_ready limit (suc k) scripts ss h.1)

pub all_map : {A B : Type 0} (f : A → B) (P : B → Type 0) (xs : List A) → All (λ y. P (f y)) xs → All P (map f xs)
all_map f P [] h = λ k d lt. absurd (omega (arith, lt))
all_map f P (x ∷ xs) h = all_first P (f x) (map f xs) (h 0 x (omega arith)) (all_map f P xs (λ k d lt. h (suc k) d (omega (arith, lt))))

pub length-map : {A B : Type 0} (f : A → B) (xs : List A) → length (map f xs) ≡ length xs
length-map f [] = refl
length-map f (x ∷ xs) = ap (λ (n : ℕ). suc n) (length-map f xs)

map_long : (xs : List Session) → length (map given xs) ≡ length xs
map_long [] = refl
map_long (x ∷ xs) = ap (λ (n : ℕ). suc n) (map_long xs)

module _ (limit : ℕ) (table : List Statement) (scripts : List (List Statement)) (before middle after : Told) (first first_end : Session) (olds news : List Session) (begins : Begins 0 limit table first) (begin : AllBegin limit 1 scripts olds)
    (first_ready : IsReady first_end) (first_done : left first_end ≡ 0) (ready : All IsReady news) (done : All (λ s. left s ≡ 0) news) (long : length news ≡ length olds) (alone : RunsAlone Goes number before middle first first_end)
    (turns : TakesTurns (Moves Goes number) middle after olds news) where
  script_at : (i : ℕ) (a : Session) → slice_get olds i ≡ Some a → (statements : List Statement) × (slice_get scripts i ≡ Some statements)
  script_at i a at = let lt = slice_get_within olds i a at in let same = begin_long limit 1 scripts olds begin in item_of scripts i (omega (arith, lt, same))

  number_is : (i : ℕ) (a : Session) → slice_get olds i ≡ Some a → number a ≡ i + 1
  number_is i a at =
      let s = script_at i a at in
      let is : number a ≡ 1 + i = (begin_at limit 1 scripts olds begin i s.0 a s.1 at).number in
      omega (arith, is)

  apart : AreApart number olds
  apart = numbered_apart Goes number olds number_is

  both : EachOwnPart (Moves Goes number) number middle after olds news
  both = own_parts Goes number middle after olds news long apart turns

  abbrev p : List JournalEntry
  p = entries_of_events alone.0

  abbrev q : List JournalEntry
  q = both.0

  by_first : AllOfActor 0 p
  by_first = subst (λ (n : ℕ). AllOfActor n p) begins.number alone.2

  none_zero : of_actor 0 q ≡ []
  none_zero = both.2.none 0 (λ i a at is. let n = number_is i a at in absurd (omega (arith, n, is)))

  at_zero : of_actor 0 (p ++ q) ≡ p
  at_zero = of_actor-append 0 p q ∙ ap (λ (l : List JournalEntry). of_actor 0 p ++ l) none_zero ∙ append-nil (of_actor 0 p) ∙ of_actor_all 0 p by_first

  at_later : (n : ℕ) → 0 < n → of_actor n (p ++ q) ≡ of_actor n q
  at_later n lt = of_actor-append n p q ∙ ap (λ (l : List JournalEntry). l ++ of_actor n q) (of_actor_none 0 n p by_first (λ is. absurd (omega (arith, lt, is))))

  each_replied : (actor : ℕ) (statements : List Statement) (g : List Reply) → slice_get (table ∷ scripts) actor ≡ Some statements → slice_get (given first_end ∷ map given news) actor ≡ Some g
      → AnsweredTo None (plans_from actor limit 1 statements) (of_actor actor (p ++ q)) g
  each_replied zero statements g at to =
      let answer = session_answered 0 limit table first first_end alone.0 begins first_ready first_done alone.3 in
      let here = subst (λ (l : List JournalEntry). AnsweredTo None (plans_from 0 limit 1 table) l (given first_end)) (sym at_zero) answer in
      let mine = subst (λ (sts : List Statement). AnsweredTo None (plans_from 0 limit 1 sts) (of_actor 0 (p ++ q)) (given first_end)) (some_same table statements at) here in
      subst (λ (rs : List Reply). AnsweredTo None (plans_from 0 limit 1 statements) (of_actor 0 (p ++ q)) rs) (some_same (given first_end) g to) mine
  each_replied (suc i) statements g at to =
      let b = map_at news i g to in
      let lt = slice_get_within news i b.0 b.1 in
      let a = item_of olds i (omega (arith, lt, long)) in
      let next : 1 + i ≡ suc i = omega arith in
      let begins' : Begins (suc i) limit statements a.0 = subst (λ (n : ℕ). Begins n limit statements a.0) next (begin_at limit 1 scripts olds begin i statements a.0 at a.1) in
      let part = both.2.each i a.0 b.0 a.1 b.1 in
      let answer = session_answered (suc i) limit statements a.0 b.0 part.0 begins' (all_at IsReady news i b.0 ready b.1) (all_at (λ s. left s ≡ 0) news i b.0 done b.1) part.2 in
      let mine : of_actor (suc i) q ≡ entries_of_events part.0 = subst (λ (n : ℕ). of_actor n q ≡ entries_of_events part.0) begins'.number part.1 in
      let here : of_actor (suc i) (p ++ q) ≡ entries_of_events part.0 = at_later (suc i) (omega arith) ∙ mine in
      let all = subst (λ (l : List JournalEntry). AnsweredTo None (plans_from (suc i) limit 1 statements) l (given b.0)) (sym here) answer in
      subst (λ (rs : List Reply). AnsweredTo None (plans_from (suc i) limit 1 statements) (of_actor (suc i) (p ++ q)) rs) b.2 all

  none_replied : (actor : ℕ) → slice_get (table ∷ scripts) actor ≡ None → of_actor actor (p ++ q) ≡ []
  none_replied zero at = cc
  none_replied (suc i) at =
      let others : (k : ℕ) (a : Session) → slice_get olds k ≡ Some a → number a ≢ suc i = λ k a to is.
      let s = script_at k a to in
      let n = number_is k a to in
      let same : k ≡ i = omega (arith, n, is) in
      none_some s.0 (sym at ∙ sym (ap (λ (m : ℕ). slice_get scripts m) same) ∙ s.1) in
      at_later (suc i) (omega arith) ∙ both.2.none (suc i) others
    where
      none_some : (x : List Statement) → None ≡ Some x → ⊥
      none_some x e = cc

  pub all_replied : (replies : List (List Reply)) → replies ≡ given first_end ∷ map given news → (part : List JournalEntry) × Grows before part after × AllReplied limit (table ∷ scripts) part replies
  all_replied replies is = (
    p ++ q,
    grows_more before middle after p q alone.1 both.1,
    subst (λ (rs : List (List Reply)). AllReplied limit (table ∷ scripts) (p ++ q) rs) (sym is)
        (record { long = ap (λ (n : ℕ). suc n) (map_long news ∙ long ∙ begin_long limit 1 scripts olds begin); each = each_replied; none = none_replied }),
  )

-- actor 0 has few statements
pub few_first : (table : Option TableSpec) → length (first_statements table) ≤ MAX_STATEMENTS
few_first None = omega arith
few_first (Some spec) = omega arith
