-- What stands after a part of a journal in which each statement is answered, and what an entry leaves as it is. Landing adds a put to it, and Journals goes
-- from entry to entry.
-- The laws (Serial, Refused, Created, Views) cite Stands.
use Rattle.std.proofs.Common.{◌≡◌, inl, inr, ℕ, suc, ◌+◌, ◌≤◌, ◌<◌, ◌^◌, Bool, true, false, List, [], ◌∷◌, ◌++◌, refl, sym, ◌∙◌, ap, subst, arith}
use Rattle.std.proofs.lemmas.List.{append-nil}
use Rattle.std.specs.Prelude.{Option, Some, None, if◌then◌else◌}
use Rattle.edge_api.specs.declared.call.Tag.{Tag}
use Rattle.edge_api.specs.declared.call.Call.TheVariants.{Get, PutNew, List as ListNames, Now}
use Rattle.edge_api.specs.declared.call.Answer.{Answer}
use Rattle.edge_api.specs.declared.call.Answer.TheVariants.{Body, Missing, Stored, Names, Time}
use Rattle.edge_api.specs.declared.call.JournalEntry.{JournalEntry}
use Rattle.edge_api.specs.declared.call.Listed.{Listed}
use Rattle.edge_api.specs.declared.call.Object.{Object}
use Rattle.edge_api.specs.Journal.{Objects, same_tag, object_at}
use Rattle.op_types.specs.declared.statement.Statement.{Statement}
use Rattle.op_types.specs.declared.statement.Statement.TheVariants.{Table}
use Rattle.op_types.specs.declared.statement.TableSpec.{TableSpec}
use Rattle.op_types.specs.declared.reply.Reply.{Reply}
use Rattle.table_rules.specs.Names.{commit_text, data_text}
use Rattle.table_rules.specs.Told.{IsTag}
use Rattle.table_rules.proofs.Names.{commits_differ, data_is_no_commit}
use Rattle.line_texts.specs.Texts.{text_of_columns}
use Rattle.snapshot_replay.specs.Table.{Snapshot}
use Rattle.call_phases.specs.Phases.{Entries}
use Rattle.statement_calls.specs.Answered.{names_of}
use Rattle.actor_core.specs.Entries.{own}
use Rattle.actor_core.proofs.Owners.{same_tag-refl}
use Rattle.table_changes.specs.Rows.{Row}
use Rattle.table_changes.specs.Table.{File}
use Rattle.table_changes.specs.Operations.{Operation}
use Rattle.table_laws.specs.Commits.{files_in, schema_in}
use Rattle.table_laws.specs.Operations.{Scope, operation_of}
use Rattle.table_laws.proofs.CommitEffects.{plan_of, Writes}
use Rattle.table_laws.proofs.Sound.{makes_none}
use Rattle.table_laws.proofs.Effects.{loaded_columns}
use Rattle.table_laws.specs.Views.{PutOnce}
use Rattle.table_laws.specs.History.{Put, put_under, body_of}
use Rattle.table_laws.specs.Runs.{listed_by, told_by, version_put, versions_put}
use Rattle.table_laws.proofs.Sessions.{GotIn, StoredIn}
use Rattle.table_laws.proofs.Lawful.{PutIn, ToldIn, GotBefore, IsListed, SeenIn, FoundMissing, first_past, HasStart, Knows, versions_down, IsCommitOf, MayPut, IsFile, IsTable, IsCommit, LawfulBy, AllLawful}
use Rattle.table_laws.proofs.Known.{knows_more}
use Rattle.table_laws.proofs.Versions.{data_put}
use Rattle.table_laws.proofs.Clocks.{AllTo, NeverFall, Since, Lists, since_more, lists_more, to_later, put_to, given_now}
use Rattle.table_laws.proofs.Members.{IsIn}
use Rattle.table_laws.proofs.Shown.{InPut, PutBefore, PutAt, PutAs, put_with, Sure, sure_more, own_got, stored_now, put_more, missing_now, none_more, more_after, given_more, suc_same, some_same, IsMadeIn, IsPutBy}

-- versions that are put have fewer bits than those that are named
fits : (n : ℕ) → n < 2 ^ 60 → n < 2 ^ 64
fits n small = omega (arith, small)

module _ (K : Tag → List ℕ → List ℕ → Type 0) (script : Tag → Option Statement) (replies : Tag → Option Reply) (tags : (tag : Tag) (statement : Statement) → script tag ≡ Some statement → IsTag tag) where
  -- a statement's entries from here on are lawful
  abbrev pub KeepsPart : Tag → Option Statement → Option Reply → Entries → Entries → Type 0
  KeepsPart tag None reply past es = es ≡ []
  KeepsPart tag (Some statement) reply past es = AllLawful (K tag) tag statement reply past es

  abbrev pub Keeps : Entries → Entries → Type 0
  Keeps past es = (t : Tag) → KeepsPart t (script t) (replies t) (own t past) (own t es)

  keeps_one : (t : Tag) (b : Bool) (s : Option Statement) (r : Option Reply) (e : JournalEntry) (past es : Entries) → KeepsPart t s r past (if b then e ∷ es else es) → KeepsPart t s r (if b then e ∷ past else past) es
  keeps_one t true None r e past es h = cc
  keeps_one t true (Some statement) r e past es h = h.1
  keeps_one t false s r e past es h = h

  pub keeps_rest : (past : Entries) (e : JournalEntry) (es : Entries) → Keeps past (e ∷ es) → Keeps (e ∷ past) es
  keeps_rest past e es h t = keeps_one t (same_tag t e.tag) (script t) (replies t) e (own t past) (own t es) (h t)

  lawful_one : (t : Tag) (s : Option Statement) (r : Option Reply) (e : JournalEntry) (past es : Entries) → KeepsPart t s r past (e ∷ es) → (statement : Statement) × (s ≡ Some statement) × LawfulBy (K t) t statement past e.call
  lawful_one t None r e past es h = cc
  lawful_one t (Some statement) r e past es h = (statement, refl, h.0)

  pub lawful_next : (past : Entries) (e : JournalEntry) (es : Entries) → Keeps past (e ∷ es) → (statement : Statement) × (script e.tag ≡ Some statement) × LawfulBy (K e.tag) e.tag statement (own e.tag past) e.call
  lawful_next past e es h =
      lawful_one e.tag (script e.tag) (replies e.tag) e (own e.tag past) (own e.tag es)
      (subst (λ (b : Bool). KeepsPart e.tag (script e.tag) (replies e.tag) (own e.tag past) (if b then e ∷ own e.tag es else own e.tag es)) (same_tag-refl e.tag) (h e.tag))

  -- a commit that took effect
  pub record Committed (past : Entries) (ps : List Put) (v : ℕ) (p : Put) : Type 0 where
    pub statement : Statement
    pub is_statement : script p.tag ≡ Some statement
    pub s : Snapshot
    pub op : Operation Scope
    pub is_op : operation_of (schema_in s) statement ≡ Some op
    pub start : ℕ
    pub read : ℕ
    pub view : File → List Row
    pub added : List File
    pub small : suc v < 2 ^ 60
    pub writes : Writes (suc v) p.body (plan_of p.tag start read op view (files_in s) added)
    pub earlier : List Put
    pub later : List Put
    pub order : ps ≡ earlier ++ p ∷ later
    pub knows : Knows p.tag op start read s view added (Sure K p.tag ps) (InPut earlier) v
    pub started : first_past told_by (own p.tag past) ≡ Some start
    pub listed : first_past listed_by (own p.tag past) ≡ Some read
    pub tries : ℕ
    pub sum : read + tries ≡ suc v
    pub puts : versions_put (own p.tag past) ≡ versions_down read tries
    pub won : (k : ℕ) → read ≤ k → k < v → (q : Put) × (put_under earlier (commit_text (suc k)) ≡ Some q)

  abbrev pub IsMade : Put → Type 0
  IsMade p = (spec : TableSpec) × (script p.tag ≡ Some (Table spec)) × (p.body ≡ text_of_columns (names_of spec.columns))

  -- by the entries so far, the newest first, the objects and the puts that they leave, and the clock of the last moment
  pub record Stands (past : Entries) (os : Objects) (ps : List Put) (clock : ℕ) : Type 0 where
    pub agree : (n : List ℕ) (o : Object) → IsIn os n o → PutAs ps n o
    pub logs : (v : ℕ) → object_at os (commit_text v) ≡ None → put_under ps (commit_text v) ≡ None
    pub owned : (t : Tag) (start part : ℕ) (q : Put) → IsTag t → part < 2 ^ 32 → put_under ps (data_text t start part) ≡ Some q → (a : Answer) × PutIn (own t past) (data_text t start part) q.body a
    pub made : (n : List ℕ) (p : Put) → put_under ps n ≡ Some p → IsMadeIn past n p
    pub missing : (t : Tag) (v : ℕ) (p : Put) → FoundMissing (own t past) (commit_text v) → put_under ps (commit_text v) ≡ Some p → p.tag ≡ t → ⊥
    pub got : (n b : List ℕ) → GotIn past n b → InPut ps n b
    pub stored : (t : Tag) (n b : List ℕ) → StoredIn (own t past) n b → IsPutBy ps t n b
    pub table : (p : Put) → put_under ps (commit_text 0) ≡ Some p → IsMade p
    pub commits : (v : ℕ) (p : Put) → suc v < 2 ^ 64 → put_under ps (commit_text (suc v)) ≡ Some p → Committed past ps v p
    pub names : PutOnce ps
    pub single : (v w : ℕ) (p q : Put) → suc v < 2 ^ 64 → suc w < 2 ^ 64 → put_under ps (commit_text (suc v)) ≡ Some p → put_under ps (commit_text (suc w)) ≡ Some q → p.tag ≡ q.tag → v ≡ w
    pub told : (time : ℕ) → ToldIn past time → time ≤ clock
    pub times : AllTo clock ps
    pub rising : NeverFall ps
    pub since : (n : List ℕ) (p : Put) → put_under ps n ≡ Some p → Since past p
    pub lists : (t : Tag) (r : ℕ) → first_past listed_by (own t past) ≡ Some r → Lists past ps t r
    pub got_before : (time : ℕ) (n b : List ℕ) → GotBefore past time n b → PutBefore ps time n b
    pub seen : (n : List ℕ) (at : ℕ) → SeenIn past n at → PutAt ps n at

  pub nothing_stands : Stands [] [] [] 0
  nothing_stands = record {
    agree = λ n o h. absurd h;
    logs = λ v h. refl;
    owned = λ t start part q is small h. cc;
    made = λ n p h. cc;
    missing = λ t v p h k e. absurd h;
    got = λ n b h. absurd h;
    stored = λ t n b h. absurd h;
    table = λ p h. cc;
    commits = λ v p small h. cc;
    names = tt;
    single = λ v w p q small also h k e. cc;
    told = λ time h. absurd h;
    times = tt;
    rising = tt;
    since = λ n p h. cc;
    lists = λ t r h. cc;
    got_before = λ time n b h. absurd h;
    seen = λ n at h. absurd h;
  }

  pub put_by_more : (ps qs : List Put) → ((n : List ℕ) (p : Put) → put_under ps n ≡ Some p → put_under qs n ≡ Some p) → (t : Tag) (n b : List ℕ) → IsPutBy ps t n b → IsPutBy qs t n b
  put_by_more ps qs more t n b h = record { put = h.put; is = more n h.put h.is; body = h.body; tag = h.tag }

  pub commit_more : (past : Entries) (ps qs rest : List Put) (e : JournalEntry) (v : ℕ) (p : Put) → qs ≡ ps ++ rest → ((n b : List ℕ) → InPut ps n b → InPut qs n b) → (e.tag ≡ p.tag → version_put e.call ≡ None) → Committed past ps v p → Committed (e ∷ past) qs v p
  commit_more past ps qs rest e v p are more quiet k = record {
    statement = k.statement;
    is_statement = k.is_statement;
    op = k.op;
    is_op = k.is_op;
    start = k.start;
    read = k.read;
    s = k.s;
    view = k.view;
    added = k.added;
    small = k.small;
    writes = k.writes;
    knows = knows_more p.tag k.op k.start k.read k.s k.view k.added (Sure K p.tag ps) (InPut k.earlier) (Sure K p.tag qs) (InPut k.earlier) v (sure_more K p.tag ps qs more) (λ n b h. h) k.knows;
    started = given_more told_by p.tag e past _ k.started;
    listed = given_more listed_by p.tag e past _ k.listed;
    tries = k.tries;
    sum = k.sum;
    puts = none_more p.tag e past quiet ∙ k.puts;
    earlier = k.earlier;
    later = k.later ++ rest;
    order = are ∙ more_after ps p k.earlier k.later rest k.order;
    won = k.won;
  }

  pub made_more : (past : Entries) (e : JournalEntry) (n : List ℕ) (p : Put) → IsMadeIn past n p → IsMadeIn (e ∷ past) n p
  made_more past e n p m = record { answer = m.answer; made = put_more p.tag e past n p.body m.answer m.made; landed = m.landed }

  -- What an entry that puts nothing shows, by the objects after it and the clock of its moment. Objects that are no commits may go
  pub record Quiet (past : Entries) (os : Objects) (ps : List Put) (clock : ℕ) (e : JournalEntry) (now : Objects) (at : ℕ) : Type 0 where
    pub le : clock ≤ at
    pub among : (n : List ℕ) (o : Object) → IsIn now n o → IsIn os n o
    pub log : (v : ℕ) → object_at now (commit_text v) ≡ None → object_at os (commit_text v) ≡ None
    pub gets : (n b : List ℕ) → e.call ≡ Get n → e.answer ≡ Body b → InPut ps n b
    pub misses : (v : ℕ) → e.call ≡ Get (commit_text v) → e.answer ≡ Missing → put_under ps (commit_text v) ≡ None
    pub stores : (n b : List ℕ) → e.call ≡ PutNew n b → e.answer ≡ Stored → ⊥
    pub silent : (v : ℕ) (p : Put) → put_under ps (commit_text (suc v)) ≡ Some p → Committed past ps v p → e.tag ≡ p.tag → version_put e.call ≡ None
    pub tells : (time : ℕ) → e.call ≡ Now → e.answer ≡ Time time → time ≡ at
    pub names : (prefix : List ℕ) (l : List Listed) → e.call ≡ ListNames prefix → e.answer ≡ Names l → (n : List ℕ) (put_at : ℕ) → IsListed l n put_at → PutAt ps n put_at
    pub newest : (r : ℕ) → listed_by e.call e.answer ≡ Some r → HasStart (own e.tag past) × ((w : ℕ) → r < w → w < 2 ^ 64 → put_under ps (commit_text w) ≡ None)

  pub unchanged : (past : Entries) (os : Objects) (ps : List Put) (clock : ℕ) (e : JournalEntry) (now : Objects) (at : ℕ) → Stands past os ps clock → Quiet past os ps clock e now at → Stands (e ∷ past) now ps at
  unchanged past os ps clock e now at s q = record {
    agree = λ n o h. s.agree n o (q.among n o h);
    logs = λ v h. s.logs v (q.log v h);
    owned = λ t start part p is small h. let o = s.owned t start part p is small h in (o.0, put_more t e past _ _ _ o.1);
    made = λ n p h. made_more past e n p (s.made n p h);
    missing = λ t v p h k same. elim (missing_now t e past (commit_text v) h) [ inl now ↦ not_there p (sym (q.misses v now.1 now.2) ∙ k) | inr before ↦ s.missing t v p before.1 k same ];
    got = λ n b h. elim h [ inl now ↦ q.gets n b now.0 now.1 | inr before ↦ s.got n b before ];
    stored = λ t n b h. elim (stored_now t e past n b h) [ inl now ↦ absurd (q.stores n b now.1 now.2) | inr before ↦ s.stored t n b before ];
    table = s.table;
    commits = λ v p small h. let k = s.commits v p small h in commit_more past ps ps [] e v p (sym (append-nil ps)) (λ n b k. k) (q.silent v p h k) k;
    names = s.names;
    single = s.single;
    told = λ time h. elim h [ inl now ↦ (let same = q.tells time now.0 now.1 in omega (arith, same)) | inr before ↦ (let le = q.le in let old = s.told time before in omega (arith, le, old)) ];
    times = to_later clock at q.le ps s.times;
    rising = s.rising;
    since = λ n p h. since_more past e p (s.since n p h);
    lists = λ t r h. elim (given_now listed_by t e past r h) [ inl old ↦ lists_more past e ps t r (s.lists t r old) | inr new ↦ listed t r new.0 (q.newest r new.1) ];
    got_before = λ time n b h. elim h [ inl now ↦ got_now time n b (q.tells time now.0 now.1) (put_with ps n b (s.got n b now.2)) | inr before ↦ s.got_before time n b before ];
    seen = λ n put_at h. elim h [ inl now ↦ q.names now.0 now.1 now.2 now.3 n put_at now.4 | inr before ↦ s.seen n put_at before ];
  }
    where
      not_there : (p : Put) → None ≡ Some p → ⊥
      not_there p h = cc

      -- what was got so far was put by now
      got_now : (time : ℕ) (n b : List ℕ) → time ≡ at → (p : Put) × (put_under ps n ≡ Some p) × (p.body ≡ b) → PutBefore ps time n b
      got_now time n b same p = let old = put_to clock ps n p.0 s.times p.1 in let le = q.le in (p.0, p.1, p.2, omega (arith, old, le, same))

      -- nothing is above the newest version of the log when it is listed
      listed : (t : Tag) (r : ℕ) → e.tag ≡ t → HasStart (own e.tag past) × ((w : ℕ) → r < w → w < 2 ^ 64 → put_under ps (commit_text w) ≡ None) → Lists (e ∷ past) ps t r
      listed t r same k = record {
        start = k.0.0;
        started = given_more told_by t e past k.0.0 (subst (λ (u : Tag). first_past told_by (own u past) ≡ Some k.0.0) same k.0.1);
        later = λ w p above small is. absurd (not_there p (sym (k.1 w above small) ∙ is));
      }

  -- the one put that is new, if it is a commit
  pub new_commit : (tag : Tag) (statement : Statement) (past : Entries) (name body : List ℕ) (v : ℕ) → suc v < 2 ^ 64 → MayPut (K tag) tag statement past name body → name ≡ commit_text (suc v)
      → (k : IsCommitOf (K tag) tag statement past name body) × (k.version ≡ v)
  new_commit tag statement past name body v small (IsFile start part started least is fresh) h = absurd (data_is_no_commit tag start part (suc v) (sym is ∙ h))
  new_commit tag statement past name body v small (IsTable spec started is_table is text none) h = let e : ◌≡◌ {A = ℕ} 0 (suc v) = commits_differ 0 (suc v) (omega arith) small (sym is ∙ h) in absurd (omega arith)
  new_commit tag statement past name body v small (IsCommit k) h = (k, suc_same k.version v (commits_differ (suc k.version) (suc v) (fits (suc k.version) k.small) small (sym k.is ∙ h)))

  pub new_table : (tag : Tag) (statement : Statement) (past : Entries) (name body : List ℕ) → script tag ≡ Some statement → MayPut (K tag) tag statement past name body → name ≡ commit_text 0
      → (spec : TableSpec) × (script tag ≡ Some (Table spec)) × (body ≡ text_of_columns (names_of spec.columns))
  new_table tag statement past name body by (IsFile start part started least is fresh) h = absurd (data_is_no_commit tag start part 0 (sym is ∙ h))
  new_table tag statement past name body by (IsTable spec started is_table is text none) h = (spec, by ∙ ap (λ (s : Statement). Some s) is_table, text)
  new_table tag statement past name body by (IsCommit k) h = let e : ◌≡◌ {A = ℕ} (suc k.version) 0 = commits_differ (suc k.version) 0 (fits (suc k.version) k.small) (omega arith) (sym k.is ∙ h) in absurd (omega arith)

  -- a statement that makes a table commits no later version
  pub no_later : (past : Entries) (ps : List Put) (v : ℕ) (q : Put) → Committed past ps v q → (spec : TableSpec) → script q.tag ≡ Some (Table spec) → ⊥
  no_later past ps v q k spec is =
      let columns = loaded_columns (Sure K q.tag ps) k.read k.s (k.knows).loaded in
      makes_none k.s columns.0 columns.1 spec k.op (ap (operation_of (schema_in k.s)) (some_same (Table spec) k.statement (sym is ∙ k.is_statement)) ∙ k.is_op)

  -- a statement whose commit took effect puts no further one
  module _ (past : Entries) (os : Objects) (ps : List Put) (clock : ℕ) (s : Stands past os ps clock) (tag : Tag) (statement : Statement) (is_statement : script tag ≡ Some statement) (name body : List ℕ) where
    pub not_lost : (v : ℕ) (q : Put) → put_under ps (commit_text (suc v)) ≡ Some q → Committed past ps v q → tag ≡ q.tag → IsCommitOf (K tag) tag statement (own tag past) name body → ⊥
    not_lost v q old there same k =
        let m = s.made (commit_text (suc v)) q old in
        let made = subst (λ (t : Tag). PutIn (own t past) (commit_text (suc v)) q.body m.answer) (sym same) m.made in
        elim (k.lost (suc v) q.body m.answer made) [
          | inl was_taken ↦ m.landed was_taken
          | inr other ↦ other.2 (sym (some_same q.body other.0 (sym (ap body_of old) ∙ s.got (commit_text (suc v)) other.0 (own_got tag past _ _ other.1))))
        ]

    -- what stands under a commit's name that it may put is not its own
    pub not_own : MayPut (K tag) tag statement (own tag past) name body → (version : ℕ) → name ≡ commit_text version → (q : Put) → put_under ps name ≡ Some q → q.tag ≡ tag → ⊥
    not_own (IsFile start part started least is fresh) version at q there same = data_is_no_commit tag start part version (sym is ∙ at)
    not_own (IsTable spec started is_table is text none) version at q there same =
        let m = s.made name q there in
        none name q.body m.answer (subst (λ (t : Tag). PutIn (own t past) name q.body m.answer) same m.made)
    not_own (IsCommit k) version at q there same =
        let here : put_under ps (commit_text (suc k.version)) ≡ Some q = ap (λ (n : List ℕ). put_under ps n) (sym k.is) ∙ there in
        not_lost k.version q here (s.commits k.version q (fits (suc k.version) k.small) here) (sym same) k

    pub quiet : MayPut (K tag) tag statement (own tag past) name body → (v : ℕ) (q : Put) → put_under ps (commit_text (suc v)) ≡ Some q → Committed past ps v q → tag ≡ q.tag → version_put (PutNew name body) ≡ None
    quiet (IsFile start part started least is fresh) v q old there same = ap (λ (n : List ℕ). version_put (PutNew n body)) is ∙ data_put tag start part body
    quiet (IsTable spec started is_table is text none) v q old there same =
        absurd (no_later past ps v q there spec (sym (ap script same) ∙ is_statement ∙ ap (λ (s : Statement). Some s) is_table))
    quiet (IsCommit k) v q old there same = absurd (not_lost v q old there same k)
