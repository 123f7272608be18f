-- A run of sessions is a run of a script, for which the laws of a table hold.
use Rattle.std.proofs.Common.{◌≡◌, ◌≢◌, inl, inr, ℕ, zero, suc, ◌+◌, ◌<◌, ◌≤◌, ◌^◌, ◌==◌, ◌&&◌, Bool, true, false, List, [], ◌∷◌, ◌++◌, length, refl, sym, ◌∙◌, ap, subst, arith}
use Rattle.row_base.specs.declared.limits.TheConstants.{MAX_ATTEMPTS, MAX_SESSIONS, MAX_STATEMENTS}
use Rattle.std.proofs.lemmas.List.{append-nil}
use Rattle.std.proofs.lemmas.Option.{slice_get_within}
use Rattle.std.proofs.lemmas.Bool.{lt-ltb}
use Rattle.std.specs.List.{list_all}
use Rattle.std.specs.Int.{w64}
use Rattle.std.specs.Prelude.{Option, Some, None, All, slice_get, option_and_then, if◌then◌else◌, nat_lt, ℤ, pos, negsuc, FitsSigned}
use Rattle.edge_api.specs.declared.call.Tag.{Tag}
use Rattle.edge_api.specs.Journal.{Moment, IsLegal, same_tag, entries_of}
use Rattle.edge_api.specs.World.{Grows}
use Rattle.row_base.specs.declared.row.Datum.{Datum}
use Rattle.row_base.specs.declared.row.Datum.TheVariants as datum
use Rattle.op_types.specs.declared.statement.Statement.{Statement}
use Rattle.op_types.specs.declared.statement.Statement.TheVariants.{Table, Insert}
use Rattle.op_types.specs.declared.statement.TableSpec.{TableSpec}
use Rattle.op_types.specs.declared.reply.Reply.{Reply}
use Rattle.table_rules.specs.Told.{IsTag}
use Rattle.line_texts.specs.Numbers.{fits}
use Rattle.line_texts.specs.Texts.{text_of_rows, rows_of_text, is_long, is_long_row}
use Rattle.line_texts.specs.Laws.{RowsReadBack}
use Rattle.call_phases.specs.Phases.{Entries}
use Rattle.statement_calls.specs.declared.finish.Finish.{Finish}
use Rattle.statement_calls.specs.Answered.{Answered}
use Rattle.actor_core.specs.Entries.{of_actor, own}
use Rattle.actor_core.proofs.Lists.{item_of, some_same, not_equal}
use Rattle.actor_core.proofs.Owners.{own-append, own_among, same_tag-refl}
use Rattle.actor_core.proofs.Pieces.{Told}
use Rattle.sessions.specs.Session.{AllTagged, AllAnswered, AnsweredTo, plans_from}
use Rattle.table_laws.specs.Runs as laws
use Rattle.table_laws.specs.Lawful.{IsLawful, EachRunIsLawful}
use Rattle.session_runs.specs.Run.{Program, IsPlain, IsLong, IsLongRow, AllReplied, IsSerial, Runs, scripts_of, counted, statement_of, reply_of}
use Rattle.session_runs.proofs.Replies.{all_at}

-- tags of one actor
tag_is : (t : Tag) (a s : ℕ) → t.actor ≡ a → t.statement ≡ s → t ≡ record { actor = a; statement = s }
tag_is t a s e f = ap (λ (n : ℕ). record { actor = n; statement = t.statement }) e ∙ ap (λ (n : ℕ). record { actor = a; statement = n }) f

and_false : (b : Bool) → b && false ≡ false
and_false true = refl
and_false false = refl

other_tag : (t u : Tag) → t.statement ≢ u.statement → same_tag t u ≡ false
other_tag t u differ = ap (λ (c : Bool). (t.actor == u.actor) && c) (not_equal t.statement u.statement differ) ∙ and_false (t.actor == u.actor)

own_same : (t u : Tag) (es : Entries) → AllTagged u es → t ≡ u → own t es ≡ es
own_same t u [] all is = refl
own_same t u (e ∷ es) all is =
    let here : same_tag t e.tag ≡ true = ap (λ (x : Tag). same_tag t x) (all.0 ∙ sym is) ∙ same_tag-refl t in
    ap (λ (c : Bool). if c then e ∷ own t es else own t es) here ∙ ap (λ (l : Entries). e ∷ l) (own_same t u es all.1 is)

own_other : (t u : Tag) (es : Entries) → AllTagged u es → t.statement ≢ u.statement → own t es ≡ []
own_other t u [] all differ = refl
own_other t u (e ∷ es) all differ =
    let here : same_tag t e.tag ≡ false = ap (λ (x : Tag). same_tag t x) all.0 ∙ other_tag t u differ in
    ap (λ (c : Bool). if c then e ∷ own t es else own t es) here ∙ own_other t u es all.1 differ

-- a session that is not killed: a statement before these has no entries among theirs
none_before : (actor limit k : ℕ) (sts : List Statement) (part : Entries) (rs : List Reply) → AllAnswered false (plans_from actor limit k sts) part rs → (t : Tag) → t.statement < k → own t part ≡ []
none_before actor limit k [] part rs h t lt = ap (own t) h.0
none_before actor limit k (st ∷ sts) part [] h t lt = absurd h
none_before actor limit k (st ∷ sts) part (r ∷ rs) (inl x) t lt = absurd cc
none_before actor limit k (st ∷ sts) part (r ∷ rs) (inr h) t lt =
    let mine : own t h.0 ≡ [] = own_other t (record { actor = actor; statement = k }) h.0 h.3 (λ is. absurd (omega (arith, lt, is))) in
    let rest : own t h.1 ≡ [] = none_before actor limit (k + 1) sts h.1 rs h.5 t (omega (arith, lt)) in
    ap (own t) h.2 ∙ own-append t h.0 h.1 ∙ ap (λ (l : Entries). l ++ own t h.1) mine ∙ rest

-- a statement has an outcome with this reply by its entries, and begins with nothing kept
abbrev HasOutcome : ℕ → Tag → Option Statement → Entries → Option Reply → Type 0
HasOutcome limit t st part reply = (out : Option Finish) × laws.IsAnsweredPart limit t None st part out × (laws.reply_in out ≡ reply)

no_outcome : (limit : ℕ) (t : Tag) (part : Entries) (reply : Option Reply) → part ≡ [] → reply ≡ None → HasOutcome limit t None part reply
no_outcome limit t part reply none is = (None, (none, refl), sym is)

-- each statement is answered by the entries of its tag
answered_at : (actor limit k : ℕ) (sts : List Statement) (part : Entries) (rs : List Reply) → AllAnswered false (plans_from actor limit k sts) part rs → (t : Tag) → t.actor ≡ actor → (j : ℕ) → t.statement ≡ k + j
    → HasOutcome limit t (slice_get sts j) (own t part) (slice_get rs j)
answered_at actor limit k [] part rs h t is j at = no_outcome limit t (own t part) (slice_get rs j) (ap (own t) h.0) (ap (λ (l : List Reply). slice_get l j) h.1)
answered_at actor limit k (st ∷ sts) part [] h t is j at = absurd h
answered_at actor limit k (st ∷ sts) part (r ∷ rs) (inl x) t is j at = absurd cc
answered_at actor limit k (st ∷ sts) part (r ∷ rs) (inr h) t is zero at =
    let here : t ≡ record { actor = actor; statement = k } = tag_is t actor k is (omega (arith, at)) in
    let rest : own t h.1 ≡ [] = none_before actor limit (k + 1) sts h.1 rs h.5 t (omega (arith, at)) in
    let mine : own t part ≡ h.0 =
    ap (own t) h.2 ∙ own-append t h.0 h.1 ∙ ap (λ (l : Entries). l ++ own t h.1) (own_same t (record { actor = actor; statement = k }) h.0 h.3 here) ∙ ap (λ (l : Entries). h.0 ++ l) rest ∙ append-nil h.0 in
    let finish : Finish = record { reply = r; kept = h.4.0 } in
    let answered : Answered t limit None st h.0 (Some finish) = subst (λ (u : Tag). Answered u limit None st h.0 (Some finish)) (sym here) h.4.1 in
    (Some finish, subst (λ (l : Entries). Answered t limit None st l (Some finish)) (sym mine) answered, refl)
answered_at actor limit k (st ∷ sts) part (r ∷ rs) (inr h) t is (suc j) at =
    let first : own t h.0 ≡ [] = own_other t (record { actor = actor; statement = k }) h.0 h.3 (λ same. absurd (omega (arith, at, same))) in
    let theirs : own t part ≡ own t h.1 = ap (own t) h.2 ∙ own-append t h.0 h.1 ∙ ap (λ (l : Entries). l ++ own t h.1) first in
    subst (λ (l : Entries). HasOutcome limit t (slice_get sts j) l (slice_get rs j)) (sym theirs) (answered_at actor limit (k + 1) sts h.1 rs h.5 t is j (omega (arith, at)))

counted_at : (actor limit : ℕ) (sts : List Statement) (part : Entries) (rs : List Reply) → AllAnswered false (plans_from actor limit 1 sts) part rs → (t : Tag) → t.actor ≡ actor → (n : ℕ) → t.statement ≡ n
    → HasOutcome limit t (counted sts n) (own t part) (counted rs n)
counted_at actor limit sts part rs h t is zero at = no_outcome limit t (own t part) None (none_before actor limit 1 sts part rs h t (omega (arith, at))) refl
counted_at actor limit sts part rs h t is (suc j) at = answered_at actor limit 1 sts part rs h t is j (omega (arith, at))

not_killed : (limit actor : ℕ) (sts : List Statement) (part : Entries) (rs : List Reply) → AnsweredTo None (plans_from actor limit 1 sts) part rs → AllAnswered false (plans_from actor limit 1 sts) part rs
not_killed limit actor sts part rs (true, stops, h) = absurd stops
not_killed limit actor sts part rs (false, stops, h) = h

earlier_weaker : (k : ℕ) (es : Entries) → laws.NoneEarlier (k + 1) es → laws.NoneEarlier k es
earlier_weaker k [] h = tt
earlier_weaker k (e ∷ es) h = (let le = h.0 in omega (arith, le), earlier_weaker k es h.1)

-- one statement's entries, before those of later ones
rises_join : (actor k : ℕ) (own rest : Entries) → AllTagged (record { actor = actor; statement = k }) own → laws.NoneEarlier (k + 1) rest → laws.Rises rest → laws.NoneEarlier k (own ++ rest) × laws.Rises (own ++ rest)
rises_join actor k [] rest all later rises = (earlier_weaker k rest later, rises)
rises_join actor k (e ∷ own) rest all later rises =
    let more = rises_join actor k own rest all.1 later rises in
    let is : k ≡ e.tag.statement = sym (ap (λ (t : Tag). t.statement) all.0) in
    ((omega (arith, is), more.0), (subst (λ (n : ℕ). laws.NoneEarlier n (own ++ rest)) is more.0, more.1))

rises_from : (actor limit k : ℕ) (sts : List Statement) (part : Entries) (rs : List Reply) → AllAnswered false (plans_from actor limit k sts) part rs → laws.NoneEarlier k part × laws.Rises part
rises_from actor limit k [] part rs h = subst (λ (l : Entries). laws.NoneEarlier k l × laws.Rises l) (sym h.0) (tt, tt)
rises_from actor limit k (st ∷ sts) part [] h = absurd h
rises_from actor limit k (st ∷ sts) part (r ∷ rs) (inl x) = absurd cc
rises_from actor limit k (st ∷ sts) part (r ∷ rs) (inr h) =
    let rest = rises_from actor limit (k + 1) sts h.1 rs h.5 in
    subst (λ (l : Entries). laws.NoneEarlier k l × laws.Rises l) (sym h.2) (rises_join actor k h.0 h.1 h.3 rest.0 rest.1)

module _ (limit : ℕ) (scripts : List (List Statement)) (part : Entries) (replies : List (List Reply)) (all : AllReplied limit scripts part replies) where
  by_actor : (t : Tag) (o : Option (List Statement)) → slice_get scripts t.actor ≡ o → (g : Option (List Reply)) → slice_get replies t.actor ≡ g
      → HasOutcome limit t (option_and_then (λ sts. counted sts t.statement) o) (own t (of_actor t.actor part)) (option_and_then (λ rs. counted rs t.statement) g)
  by_actor t None at None to = no_outcome limit t (own t (of_actor t.actor part)) None (ap (own t) (all.none t.actor at)) refl
  by_actor t None at (Some rs) to =
      let lt = slice_get_within replies t.actor rs to in
      let long = all.long in
      let there = item_of scripts t.actor (omega (arith, lt, long)) in
      absurd (none_some there.0 (sym at ∙ there.1))
    where
      none_some : (x : List Statement) → None ≡ Some x → ⊥
      none_some x e = cc
  by_actor t (Some sts) at None to =
      let lt = slice_get_within scripts t.actor sts at in
      let long = all.long in
      let there = item_of replies t.actor (omega (arith, lt, long)) in
      absurd (none_some there.0 (sym to ∙ there.1))
    where
      none_some : (x : List Reply) → None ≡ Some x → ⊥
      none_some x e = cc
  by_actor t (Some sts) at (Some rs) to = counted_at t.actor limit sts (of_actor t.actor part) rs (not_killed limit t.actor sts (of_actor t.actor part) rs (all.each t.actor sts rs at to)) t refl t.statement refl

  pub each_answered : (t : Tag) → HasOutcome limit t (statement_of scripts t) (own t part) (reply_of replies t)
  each_answered t =
      subst (λ (l : Entries). HasOutcome limit t (statement_of scripts t) l (reply_of replies t)) (sym (own_among t part))
      (by_actor t (slice_get scripts t.actor) refl (slice_get replies t.actor) refl)

  -- an actor's entries come statement by statement
  pub rises_at : (actor : ℕ) → laws.Rises (of_actor actor part)
  rises_at actor = by (slice_get scripts actor) refl (slice_get replies actor) refl
    where
      no_some : (rs : List (List Reply)) (k : ℕ) → k < length rs → slice_get rs k ≡ None → ⊥
      no_some rs k lt none = let there = item_of rs k lt in none_some there.0 (sym none ∙ there.1)
        where
          none_some : (x : List Reply) → None ≡ Some x → ⊥
          none_some x e = cc

      by : (o : Option (List Statement)) → slice_get scripts actor ≡ o → (g : Option (List Reply)) → slice_get replies actor ≡ g → laws.Rises (of_actor actor part)
      by None at g to = subst laws.Rises (sym (all.none actor at)) tt
      by (Some sts) at None to = let lt = slice_get_within scripts actor sts at in let long = all.long in absurd (no_some replies actor (omega (arith, lt, long)) to)
      by (Some sts) at (Some rs) to = (rises_from actor limit 1 sts (of_actor actor part) rs (not_killed limit actor sts (of_actor actor part) rs (all.each actor sts rs at to))).1

-- where a tag's statement stands
record Found (scripts : List (List Statement)) (t : Tag) (st : Statement) : Type 0 where
  sts : List Statement
  place : ℕ
  at : slice_get scripts t.actor ≡ Some sts
  is : t.statement ≡ suc place
  there : slice_get sts place ≡ Some st

found : (scripts : List (List Statement)) (t : Tag) (st : Statement) → statement_of scripts t ≡ Some st → Found scripts t st
found scripts t st h = by (slice_get scripts t.actor) refl h
  where
    counts : (sts : List Statement) → slice_get scripts t.actor ≡ Some sts → (n : ℕ) → t.statement ≡ n → counted sts n ≡ Some st → Found scripts t st
    counts sts at zero is e = cc
    counts sts at (suc j) is e = record { sts = sts; place = j; at = at; is = is; there = e }

    by : (o : Option (List Statement)) → slice_get scripts t.actor ≡ o → option_and_then (λ sts. counted sts t.statement) o ≡ Some st → Found scripts t st
    by None at e = cc
    by (Some sts) at e = counts sts at t.statement refl e

few_of : (table : Statement) (sessions : List (List Statement)) (i : ℕ) (sts : List Statement) → All (λ s. length s ≤ MAX_STATEMENTS) sessions → slice_get ((table ∷ []) ∷ sessions) i ≡ Some sts → length sts ≤ MAX_STATEMENTS
few_of table sessions zero sts few at = let same = ap (λ (l : List Statement). length l) (some_same (table ∷ []) sts at) in omega (arith, same)
few_of table sessions (suc i) sts few at = all_at (λ s. length s ≤ MAX_STATEMENTS) sessions i sts few at

plain_of : (spec : TableSpec) (sessions : List (List Statement)) (i j : ℕ) (sts : List Statement) (st : Statement) → All (λ s. All IsPlain s) sessions → slice_get ((Table spec ∷ []) ∷ sessions) i ≡ Some sts → slice_get sts j ≡ Some st → IsPlain st
plain_of spec sessions zero j sts st plain at there = only j (subst (λ (l : List Statement). slice_get l j ≡ Some st) (sym (some_same (Table spec ∷ []) sts at)) there)
  where
    only : (j : ℕ) → slice_get (Table spec ∷ []) j ≡ Some st → IsPlain st
    only zero e = subst IsPlain (some_same (Table spec) st e) tt
    only (suc j) e = cc
plain_of spec sessions (suc i) j sts st plain at there = all_at IsPlain sts j st (all_at (λ s. All IsPlain s) sessions i sts plain at) there

-- structural rows are those that their text gives back
long_fits : (n : ℤ) → FitsSigned w64 n → fits n ≡ true
long_fits (pos n) h = lt-ltb n (2 ^ 63) h.sfits
long_fits (negsuc n) h = lt-ltb n (2 ^ 63) h.sfits

long_is : (d : Datum) → IsLong d → is_long d ≡ true
long_is (datum.Long n) h = long_fits n h
long_is datum.Null h = absurd h
long_is (datum.Integer n) h = absurd h
long_is (datum.Boolean b) h = absurd h
long_is (datum.Text t) h = absurd h
long_is (datum.Date n) h = absurd h

all_true : {A : Type 0} (P : A → Type 0) (test : A → Bool) → ((x : A) → P x → test x ≡ true) → (xs : List A) → All P xs → list_all test xs ≡ true
all_true P test each [] h = refl
all_true P test each (x ∷ xs) h =
    let first = each x (h 0 x (omega arith)) in
    let rest = all_true P test each xs (λ k d lt. h (suc k) d (omega (arith, lt))) in
    ap (λ (b : Bool). b && list_all test xs) first ∙ rest

long_row : (row : List Datum) → IsLongRow row → is_long_row row ≡ true
long_row row h =
    let some : nat_lt 0 (length row) ≡ true = lt-ltb 0 (length row) h.0 in
    ap (λ (b : Bool). b && list_all is_long row) some ∙ all_true IsLong is_long long_is row h.1

long_rows : (rows : List (List Datum)) → All IsLongRow rows → list_all is_long_row rows ≡ true
long_rows rows h = all_true IsLongRow is_long_row long_row rows h

grown_is : (before after : Told) (part journal : Entries) → before ≡ Some [] → after ≡ Some journal → Grows before part after → part ≡ journal
grown_is None after part journal is now h = cc
grown_is (Some old) after part journal is now h =
    let none = some_same old [] is in
    sym (ap (λ (l : Entries). l ++ part) none) ∙ some_same (old ++ part) journal (sym h ∙ now)

-- a law of runs, by what each statement came to
lawful_by : EachRunIsLawful → (limit : ℕ) (script : Tag → Option Statement) (outcomes : Tag → Option Finish) (replies : Tag → Option Reply) (moments : List Moment) → IsLegal [] 0 moments → laws.IsRun limit script outcomes (entries_of moments)
    → ((t : Tag) → laws.reply_in (outcomes t) ≡ replies t) → IsLawful script replies moments
lawful_by lawful limit script outcomes replies moments legal run same = subst (λ (rs : Tag → Option Reply). IsLawful script rs moments) (λ i t. same t i) (lawful limit script outcomes moments legal run)

pub is_serial : EachRunIsLawful → RowsReadBack → (p : Program) (before after : Told) (replies : List (List Reply)) → p.limit ≤ MAX_ATTEMPTS → length p.sessions ≤ MAX_SESSIONS
    → All (λ s. length s ≤ MAX_STATEMENTS) p.sessions → All (λ s. All IsPlain s) p.sessions → Runs p before after replies → IsSerial p before after replies
unfolding Runs IsSerial
is_serial lawful back p before after replies small few short plain runs is_before journal is_after moments legal are =
    let scripts = scripts_of p in
    let part_is = grown_is before after runs.0 journal is_before is_after runs.1 in
    let answered = subst (λ (l : Entries). (t : Tag) → HasOutcome p.limit t (statement_of scripts t) (own t l) (reply_of replies t)) (part_is ∙ sym are) (each_answered p.limit scripts runs.0 replies runs.2) in
    let tags : (t : Tag) (st : Statement) → statement_of scripts t ≡ Some st → IsTag t = λ t st h.
    let f = found scripts t st h in
    let actor = slice_get_within scripts t.actor f.sts f.at in
    let place = slice_get_within f.sts f.place st f.there in
    let most = few_of (Table p.table) p.sessions t.actor f.sts short f.at in
    let is = f.is in
    (omega (arith, actor, few), omega (arith, place, most, is)) in
    let faithful : (t : Tag) (rows : List (List Datum)) → statement_of scripts t ≡ Some (Insert rows) → rows_of_text (text_of_rows rows) ≡ Some rows = λ t rows h.
    let f = found scripts t (Insert rows) h in
    back rows (long_rows rows (plain_of p.table p.sessions t.actor f.place f.sts (Insert rows) plain f.at f.there)) in
    let run : laws.IsRun p.limit (statement_of scripts) (λ t. (answered t).0) (entries_of moments) =
    record { answered = λ t. (None, inl refl, (answered t).1); limited = omega (arith, small); tags = tags; faithful = faithful; in_order = λ actor. subst (λ (l : Entries). laws.Rises (of_actor actor l)) (part_is ∙ sym are) (rises_at p.limit scripts runs.0 replies runs.2 actor) } in
    lawful_by lawful p.limit (statement_of scripts) (λ t. (answered t).0) (reply_of replies) moments legal run (λ t. (answered t).2)
