-- A put that took effect: what stood before it still stands with it.
-- It goes through the fields of Stands one by one; the put is a data file, the commit that makes a table, or another commit (MayPut).
-- Journals cites added.
use Rattle.std.proofs.Common.{◌≡◌, ◌⊎◌, inl, inr, ℕ, suc, ◌+◌, ◌≤◌, ◌<◌, ◌^◌, List, [], ◌∷◌, ◌++◌, refl, sym, ◌∙◌, ap, subst, arith}
use Rattle.std.specs.Prelude.{Option, Some, None}
use Rattle.edge_api.specs.declared.call.Tag.{Tag}
use Rattle.edge_api.specs.declared.call.Call.TheVariants.{Get, PutNew}
use Rattle.edge_api.specs.declared.call.Answer.{Answer}
use Rattle.edge_api.specs.declared.call.Answer.TheVariants.{Taken}
use Rattle.edge_api.specs.declared.call.JournalEntry.{JournalEntry}
use Rattle.edge_api.specs.declared.call.Object.{Object}
use Rattle.edge_api.specs.Journal.{Objects, object_at, with_object}
use Rattle.op_types.specs.declared.statement.Statement.{Statement}
use Rattle.op_types.specs.declared.reply.Reply.{Reply}
use Rattle.table_rules.specs.Names.{commit_text, data_text}
use Rattle.table_rules.specs.Told.{IsTag}
use Rattle.table_rules.proofs.Names.{commits_differ, data_is_no_commit}
use Rattle.call_phases.specs.Phases.{Entries}
use Rattle.actor_core.specs.Entries.{own}
use Rattle.table_laws.specs.Commits.{files_in}
use Rattle.table_laws.proofs.CommitEffects.{plan_of, Writes}
use Rattle.table_laws.specs.History.{Put, put_under, body_of}
use Rattle.table_laws.specs.Runs.{listed_by, told_by, version_put}
use Rattle.table_laws.proofs.Sessions.{GotIn, StoredIn}
use Rattle.table_laws.proofs.Lawful.{Known, PutIn, NotPut, ToldIn, GotBefore, SeenIn, FoundMissing, first_past, Knows, versions_down, MayPut, IsFile, IsTable, IsCommit}
use Rattle.table_laws.proofs.Known.{knows_more}
use Rattle.table_laws.proofs.Phases.{same_put}
use Rattle.table_laws.proofs.Versions.{commit_put}
use Rattle.table_laws.proofs.Names.{same_file}
use Rattle.table_laws.proofs.Members.{IsIn, in_with, none_with}
use Rattle.table_laws.proofs.Puts.{or_else, put_under-push}
use Rattle.table_laws.proofs.Shown.{InPut, PutBefore, PutAt, PutAs, one_other, Sure, own_got, stored_now, put_more, put_now, missing_now, one_more, put_of_body, given_more, kept_put, kept_body, old_or_new, one_under, one_itself, suc_same, IsMadeIn, IsPutBy}
use Rattle.table_laws.proofs.Standing.{Committed, IsMade, Stands, put_by_more, commit_more, made_more, new_commit, new_table, not_lost, quiet}
use Rattle.table_laws.proofs.Puts.{push_once}
use Rattle.table_laws.proofs.Clocks.{Since, Lists, given_now, since_more, to_later, to_push, rise_push, start_told}

module _ (K : Tag → List ℕ → List ℕ → Type 0) (script : Tag → Option Statement) (replies : Tag → Option Reply) (tags : (tag : Tag) (statement : Statement) → script tag ≡ Some statement → IsTag tag) where
  module _ (past : Entries) (os : Objects) (ps : List Put) (before : ℕ) (s : Stands K script replies tags past os ps before)
      (tag : Tag) (name body : List ℕ) (answer : Answer) (clock : ℕ) (le : before ≤ clock) (statement : Statement) (is_statement : script tag ≡ Some statement) (may : MayPut (K tag) tag statement (own tag past) name body)
      (free : object_at os name ≡ None) (not_taken : answer ≡ Taken → ⊥) where
    abbrev the_entry : JournalEntry
    the_entry = record { tag = tag; call = PutNew name body; answer = answer }

    abbrev the_put : Put
    the_put = record { tag = tag; name = name; body = body; at = clock }

    abbrev the_object : Object
    the_object = record { body = body; put_at = clock }

    abbrev now : Objects
    now = with_object os name the_object

    abbrev more : List Put
    more = ps ++ the_put ∷ []

    push : (n : List ℕ) → put_under more n ≡ or_else (put_under ps n) (put_under (the_put ∷ []) n)
    push n = put_under-push ps the_put n

    still : (n b : List ℕ) → InPut ps n b → InPut more n b
    still n b h = ap body_of (push n) ∙ kept_body (put_under ps n) (put_under (the_put ∷ []) n) b h

    still_put : (n : List ℕ) (p : Put) → put_under ps n ≡ Some p → put_under more n ≡ Some p
    still_put n p h = push n ∙ kept_put (put_under ps n) (put_under (the_put ∷ []) n) p h

    free_log : (v : ℕ) → name ≡ commit_text v → put_under ps name ≡ None
    free_log v is = ap (λ (n : List ℕ). put_under ps n) is ∙ s.logs v (ap (λ (n : List ℕ). object_at os n) (sym is) ∙ free)

    free_file : (start part : ℕ) → part < 2 ^ 32 → name ≡ data_text tag start part → NotPut (own tag past) name → (o : Option Put) → put_under ps (data_text tag start part) ≡ o → o ≡ None
    free_file start part least is fresh None e = refl
    free_file start part least is fresh (Some q) e =
        let o = s.owned tag start part q (tags tag statement is_statement) least e in
        absurd (fresh q.body o.0 (subst (λ (n : List ℕ). PutIn (own tag past) n q.body o.0) (sym is) o.1))

    free_by : MayPut (K tag) tag statement (own tag past) name body → put_under ps name ≡ None
    free_by (IsFile start part started least is fresh) = ap (λ (n : List ℕ). put_under ps n) is ∙ free_file start part least is fresh (put_under ps (data_text tag start part)) refl
    free_by (IsTable spec started is_table is text none) = free_log 0 is
    free_by (IsCommit k) = free_log (suc k.version) k.is

    there_now : put_under more name ≡ Some the_put
    there_now = push name ∙ ap (λ (o : Option Put). or_else o (put_under (the_put ∷ []) name)) (free_by may) ∙ one_itself the_put

    which : (n : List ℕ) (q : Put) → put_under more n ≡ Some q → (put_under ps n ≡ Some q) ⊎ ((name ≡ n) × (the_put ≡ q))
    which n q h = elim (old_or_new (put_under ps n) (put_under (the_put ∷ []) n) q (sym (push n) ∙ h)) [ inl old ↦ inl old | inr new ↦ inr (one_under the_put q n new) ]

    add_agree : (n : List ℕ) (o : Object) → IsIn now n o → PutAs more n o
    add_agree n o h = elim (in_with os name the_object n o h) [
      | inl new ↦ record { put = the_put; is = ap (λ (m : List ℕ). put_under more m) new.0 ∙ there_now; body = ap (λ (x : Object). x.body) (sym new.1); at = ap (λ (x : Object). x.put_at) (sym new.1) }
      | inr old ↦ let p = s.agree n o old in record { put = p.put; is = still_put n p.put p.is; body = p.body; at = p.at }
    ]

    add_logs : (v : ℕ) → object_at now (commit_text v) ≡ None → put_under more (commit_text v) ≡ None
    add_logs v h =
        let two = none_with os name the_object (commit_text v) h in
        push (commit_text v) ∙ ap (λ (o : Option Put). or_else o (put_under (the_put ∷ []) (commit_text v))) (s.logs v two.0) ∙ one_other the_put (commit_text v) two.1

    add_owned : (t : Tag) (start part : ℕ) (q : Put) → IsTag t → part < 2 ^ 32 → put_under more (data_text t start part) ≡ Some q → (a : Answer) × PutIn (own t (the_entry ∷ past)) (data_text t start part) q.body a
    add_owned t start part q right small h = elim (which (data_text t start part) q h) [
      | inl old ↦ let o = s.owned t start part q right small old in (o.0, put_more t the_entry past _ _ _ o.1)
      | inr new ↦
          let whose : tag ≡ t = mine may new.0 in (
            answer,
            subst (λ (u : Tag). PutIn (own u (the_entry ∷ past)) (data_text t start part) q.body answer) whose
                (subst (λ (b : List ℕ). PutIn (own tag (the_entry ∷ past)) (data_text t start part) b answer) (ap (λ (p : Put). p.body) new.1)
                (put_now the_entry past (data_text t start part) body (ap (λ (n : List ℕ). PutNew n body) new.0))),
          )
    ]
      where
        mine : MayPut (K tag) tag statement (own tag past) name body → name ≡ data_text t start part → tag ≡ t
        mine (IsFile i j started least is fresh) h = same_file tag t i start j part (tags tag statement is_statement) right least small (sym is ∙ h)
        mine (IsTable spec started is_table is text none) h = absurd (data_is_no_commit t start part 0 (sym h ∙ is))
        mine (IsCommit k) h = absurd (data_is_no_commit t start part (suc k.version) (sym h ∙ k.is))

    add_made : (n : List ℕ) (q : Put) → put_under more n ≡ Some q → IsMadeIn (the_entry ∷ past) n q
    add_made n q h = elim (which n q h) [
      | inl old ↦ made_more K script replies tags past the_entry n q (s.made n q old)
      | inr new ↦ subst (λ (p : Put). IsMadeIn (the_entry ∷ past) n p) new.1 (record { answer = answer; made = put_now the_entry past n body (ap (λ (m : List ℕ). PutNew m body) new.0); landed = not_taken })
    ]

    add_missing : (t : Tag) (v : ℕ) (q : Put) → FoundMissing (own t (the_entry ∷ past)) (commit_text v) → put_under more (commit_text v) ≡ Some q → q.tag ≡ t → ⊥
    add_missing t v q h k same = elim (missing_now t the_entry past (commit_text v) h) [
      | inl now ↦ no_get (commit_text v) now.1
      | inr before ↦ elim (which (commit_text v) q k) [ inl old ↦ s.missing t v q before.1 old same | inr new ↦ before.0 (ap (λ (p : Put). p.tag) new.1 ∙ same) ]
    ]
      where
        no_get : (n : List ℕ) → PutNew name body ≡ Get n → ⊥
        no_get n h = cc

    add_stored : (t : Tag) (n b : List ℕ) → StoredIn (own t (the_entry ∷ past)) n b → IsPutBy more t n b
    add_stored t n b h = elim (stored_now t the_entry past n b h) [
      | inl now ↦
          let two = same_put name body n b now.1 in
          record { put = the_put; is = ap (λ (m : List ℕ). put_under more m) (sym two.0) ∙ there_now; body = two.1; tag = now.0 }
      | inr before ↦ put_by_more K script replies tags ps more still_put t n b (s.stored t n b before)
    ]

    add_got : (n b : List ℕ) → GotIn (the_entry ∷ past) n b → InPut more n b
    add_got n b (inl now) = let bad = now.0 in cc
    add_got n b (inr before) = still n b (s.got n b before)

    add_table : (q : Put) → put_under more (commit_text 0) ≡ Some q → IsMade K script replies tags q
    add_table q h = elim (which (commit_text 0) q h) [
      | inl old ↦ s.table q old
      | inr new ↦ subst (IsMade K script replies tags) new.1 (new_table K script replies tags tag statement (own tag past) name body is_statement may new.0)
    ]

    this_commit : (v : ℕ) → suc v < 2 ^ 64 → name ≡ commit_text (suc v) → Committed K script replies tags (the_entry ∷ past) more v the_put
    this_commit v small is =
        let two = new_commit K script replies tags tag statement (own tag past) name body v small may is in
        let k = two.0 in
        record {
          statement = statement;
          is_statement = is_statement;
          op = k.op;
          is_op = k.is_op;
          start = k.start;
          read = k.read;
          s = k.s;
          view = k.view;
          added = k.added;
          small = let version = two.1 in let most = k.small in omega arith;
          writes = subst (λ (w : ℕ). Writes (suc w) body (plan_of tag k.start k.read k.op k.view (files_in k.s) k.added)) two.1 k.writes;
          knows = subst (λ (w : ℕ). Knows tag k.op k.start k.read k.s k.view k.added (Sure K tag more) (InPut ps) w) two.1
              (knows_more tag k.op k.start k.read k.s k.view k.added (Known (K tag) (own tag past)) (StoredIn (own tag past)) (Sure K tag more) (InPut ps) k.version
              (λ n b h. elim h [ inl before ↦ inl before | inr got ↦ inr (still n b (s.got n b (own_got tag past n b got))) ])
              (λ n b h. let p = s.stored tag n b h in ap body_of p.is ∙ ap (λ (b : List ℕ). Some b) p.body) k.knows);
          started = given_more told_by tag the_entry past _ k.started;
          listed = given_more listed_by tag the_entry past _ k.listed;
          tries = suc k.tries;
          sum = let sum = k.sum in let version = two.1 in omega arith;
          puts = one_more the_entry past (suc v) (ap (λ (n : List ℕ). version_put (PutNew n body)) is ∙ commit_put (suc v) body small)
              ∙ ap (λ (l : List ℕ). suc v ∷ l) k.puts ∙ ap (λ (n : ℕ). n ∷ versions_down k.read k.tries) (let sum = k.sum in let version = two.1 in let n : suc v ≡ k.read + suc k.tries = omega arith in n);
          earlier = ps;
          later = [];
          order = refl;
          won = λ n from to.
              let got = k.won n from (let version = two.1 in let below : n < v = to in omega arith) in
              put_of_body (put_under ps (commit_text (suc n))) got.0 (s.got (commit_text (suc n)) got.0 (own_got tag past _ _ got.1));
        }

    add_commits : (v : ℕ) (q : Put) → suc v < 2 ^ 64 → put_under more (commit_text (suc v)) ≡ Some q → Committed K script replies tags (the_entry ∷ past) more v q
    add_commits v q small h = elim (which (commit_text (suc v)) q h) [
      | inl old ↦ let k = s.commits v q small old in commit_more K script replies tags past ps more (the_put ∷ []) the_entry v q refl still (quiet K script replies tags past os ps before s tag statement is_statement name body may v q old k) k
      | inr new ↦ subst (λ (p : Put). Committed K script replies tags (the_entry ∷ past) more v p) new.1 (this_commit v small new.0)
    ]

    -- no statement lands twice
    not_again : (v w : ℕ) (q : Put) → suc v < 2 ^ 64 → suc w < 2 ^ 64 → name ≡ commit_text (suc v) → put_under ps (commit_text (suc w)) ≡ Some q → tag ≡ q.tag → ⊥
    not_again v w q small also is old same =
        let k = (new_commit K script replies tags tag statement (own tag past) name body v small may is).0 in
        not_lost K script replies tags past os ps before s tag statement is_statement name body w q old (s.commits w q also old) same k

    add_single : (v w : ℕ) (p q : Put) → suc v < 2 ^ 64 → suc w < 2 ^ 64 → put_under more (commit_text (suc v)) ≡ Some p → put_under more (commit_text (suc w)) ≡ Some q → p.tag ≡ q.tag → v ≡ w
    add_single v w p q small also h k same = elim (which (commit_text (suc v)) p h) [
      | inl old ↦ elim (which (commit_text (suc w)) q k) [
        | inl old' ↦ s.single v w p q small also old old' same
        | inr new ↦ absurd (not_again w v p also small new.0 old (ap (λ (x : Put). x.tag) new.1 ∙ sym same))
      ]
      | inr new ↦ elim (which (commit_text (suc w)) q k) [
        | inl old' ↦ absurd (not_again v w q small also new.0 old' (ap (λ (x : Put). x.tag) new.1 ∙ same))
        | inr new' ↦ suc_same v w (commits_differ (suc v) (suc w) small also (sym new.0 ∙ new'.0))
      ]
    ]

    -- it comes after its statement's start
    add_since : Since (the_entry ∷ past) the_put
    add_since = by may
      where
        from : (start : ℕ) → first_past told_by (own tag past) ≡ Some start → Since (the_entry ∷ past) the_put
        from start is = record { start = start; started = given_more told_by tag the_entry past start is; before = let old = s.told start (start_told tag past start is) in omega (arith, old, le) }

        by : MayPut (K tag) tag statement (own tag past) name body → Since (the_entry ∷ past) the_put
        by (IsFile start part started least is fresh) = from start started
        by (IsTable spec started is_table is text none) = from started.0 started.1
        by (IsCommit k) = from k.start k.started

    add_told : (time : ℕ) → ToldIn (the_entry ∷ past) time → time ≤ clock
    add_told time (inl now) = let bad = now.0 in cc
    add_told time (inr old) = let told = s.told time old in omega (arith, told, le)

    add_lists : (t : Tag) (r : ℕ) → first_past listed_by (own t (the_entry ∷ past)) ≡ Some r → Lists (the_entry ∷ past) more t r
    add_lists t r h = elim (given_now listed_by t the_entry past r h) [ inl old ↦ on (s.lists t r old) | inr new ↦ absurd (none answer new.1) ]
      where
        none : (a : Answer) → listed_by (PutNew name body) a ≡ Some r → ⊥
        none a k = cc

        on : Lists past ps t r → Lists (the_entry ∷ past) more t r
        on k = record {
          start = k.start;
          started = given_more told_by t the_entry past k.start k.started;
          later = λ w p above small is. elim (which (commit_text w) p is) [
            | inl old ↦ k.later w p above small old
            | inr new ↦
                let at : clock ≡ p.at = ap (λ (x : Put). x.at) new.1 in
                let told = s.told k.start (start_told t past k.start k.started) in
                omega (arith, at, told, le)
          ];
        }

    add_got_before : (time : ℕ) (n b : List ℕ) → GotBefore (the_entry ∷ past) time n b → PutBefore more time n b
    add_got_before time n b (inl now) = let bad = now.0 in cc
    add_got_before time n b (inr old) = let p = s.got_before time n b old in (p.0, still_put n p.0 p.1, p.2, p.3)

    add_seen : (n : List ℕ) (at : ℕ) → SeenIn (the_entry ∷ past) n at → PutAt more n at
    add_seen n at (inl now) = let bad = now.2 in cc
    add_seen n at (inr old) = let p = s.seen n at old in (p.0, still_put n p.0 p.1, p.2)

    pub added : Stands K script replies tags (the_entry ∷ past) now more clock
    added = record {
      agree = add_agree;
      logs = add_logs;
      owned = add_owned;
      made = add_made;
      missing = add_missing;
      got = add_got;
      stored = add_stored;
      table = add_table;
      commits = add_commits;
      names = push_once ps the_put s.names (free_by may);
      single = add_single;
      told = add_told;
      times = to_push clock ps the_put (to_later before clock le ps s.times) (omega arith);
      rising = rise_push before ps the_put s.times le s.rising;
      since = λ n p h. elim (which n p h) [ inl old ↦ since_more past the_entry p (s.since n p old) | inr new ↦ subst (Since (the_entry ∷ past)) new.1 add_since ];
      lists = add_lists;
      got_before = add_got_before;
      seen = add_seen;
    }
