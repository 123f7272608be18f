-- Each committed version follows from the one before.
use Rattle.std.proofs.Common.{◌≡◌, ◌⊎◌, inl, inr, ℕ, zero, suc, ◌+◌, ◌-◌, ◌≤◌, ◌<◌, ◌^◌, not, List, [], ◌∷◌, length, refl, sym, ◌∙◌, ap, subst, arith}
use Rattle.std.specs.Prelude.{Option, Some, None, option_and_then}
use Rattle.edge_api.specs.declared.call.Tag.{Tag}
use Rattle.edge_api.specs.Journal.{Objects}
use Rattle.row_base.specs.Sorting.{Sorts}
use Rattle.row_base.specs.Bags.{count_of, SameRows}
use Rattle.op_types.specs.declared.statement.Statement.{Statement}
use Rattle.op_types.specs.declared.reply.Reply.{Reply}
use Rattle.table_rules.specs.Names.{commit_text, data_text}
use Rattle.table_rules.specs.Told.{IsTag}
use Rattle.snapshot_replay.specs.Table.{Snapshot}
use Rattle.snapshot_replay.specs.Table.{Commit as LogCommit, paths_of as said_paths}
use Rattle.call_phases.specs.Phases.{Entries}
use Rattle.statement_calls.specs.Texts.{read_commit}
use Rattle.statement_calls.specs.Answered.{rows_of_files}
use Rattle.actor_core.specs.Entries.{own}
use Rattle.table_changes.specs.Rows.{Row}
use Rattle.table_changes.specs.Table.{File, MetaData, FileLine, Commit, newer, is_blind, reconciled, times, rows_in}
use Rattle.table_changes.specs.Conflicts.{first_clash}
use Rattle.table_changes.specs.Operations.{Operation, IsSound, got_files, taken_files, reads_of}
use Rattle.table_changes.specs.Laws.{AllHold, Landed, Appends}
use Rattle.table_changes.proofs.Files.{live_once}
use Rattle.table_changes.proofs.Winners.{each_version_is_serial}
use Rattle.table_laws.specs.Commits.{IsWholeFile, schema_of, files_in, meta_in}
use Rattle.table_laws.specs.Operations.{Scope, passes, may, operation_of}
use Rattle.table_laws.specs.History.{Put, put_under, body_of, commit_at, live_at, meta_at, schema_at, level_for, rows_of, view_of, rows_at, IsCommitted}
use Rattle.table_laws.specs.Runs.{listed_by, version_read}
use Rattle.table_laws.specs.Laws.{schema_read, operation_by, operation_at, inserted_by, appended, Step, versions_from, IsWonBefore, Lands, HasRead, ReadsAt, AllAre, FileReads, AllFilesRead, added_files, HasFilesBefore}
use Rattle.table_laws.proofs.CommitEffects.{plan_of, effect_of, Says, IsWhole, judge_of}
use Rattle.table_laws.proofs.Sound.{each_operation_is_sound, says_truly, sets_none}
use Rattle.table_laws.proofs.Lawful.{Known, AllGot, Knows, ClaimsRows}
use Rattle.table_laws.proofs.Known.{loaded_more, knows_more, scanned_more}
use Rattle.table_laws.proofs.Tries.{put_in_order, put_under-front, in_front}
use Rattle.table_laws.proofs.Names.{same_file}
use Rattle.table_laws.proofs.Shown.{InPut, Sure, backwards, given_is, own_got, put_of_body, some_same}
use Rattle.table_laws.proofs.Standing.{Stands, Committed}
use Rattle.table_laws.proofs.Effects.{commit_is, said_is, loaded_columns, loaded_files, loaded_meta, same_written, same_effect, same_judge}
use Rattle.table_laws.proofs.Parts.{parts_rows, parts_read, parts_apart, parts_whole, parts_new}
use Rattle.table_laws.proofs.Readings.{some_put, some_of_body, is_some, files_added, none_more, empty_first, scanned_rows, scanned_long, length-paths, length-files, first_loaded, lines_all, picked_are, times-picked}

module _ (K : Tag → List ℕ → List ℕ → Type 0) (script : Tag → Option Statement) (replies : Tag → Option Reply) (tags : (tag : Tag) (statement : Statement) → script tag ≡ Some statement → IsTag tag)
    (past : Entries) (os : Objects) (ps : List Put) (clock : ℕ) (s : Stands K script replies tags past os ps clock) (known : (t : Tag) (n b : List ℕ) → K t n b → InPut ps n b) where
  sure : (t : Tag) (n b : List ℕ) → Sure K t ps n b → InPut ps n b
  sure t n b (inl before) = known t n b before
  sure t n b (inr put) = put

  pub shown : (t : Tag) (n b : List ℕ) → Known (K t) (own t past) n b → InPut ps n b
  shown t n b (inl before) = known t n b before
  shown t n b (inr got) = s.got n b (own_got t past n b got)

  pub knows : (v : ℕ) (p : Put) (k : Committed K script replies tags past ps v p) → Knows p.tag k.op k.start k.read k.s k.view k.added (InPut ps) (InPut ps) v
  knows v p k = knows_more p.tag k.op k.start k.read k.s k.view k.added (Sure K p.tag ps) (InPut k.earlier) (InPut ps) (InPut ps) v (sure p.tag)
      (λ n b h. subst (λ (qs : List Put). InPut qs n b) (sym k.order) (in_front k.earlier (p ∷ k.later) n b h)) k.knows

  pub one_below : (n : ℕ) → suc n < 2 ^ 64 → IsCommitted ps (suc n) → IsCommitted ps n
  one_below n small is =
      let two = some_put (put_under ps (commit_text (suc n))) is in
      let k = s.commits n two.0 small two.1 in
      some_of_body (put_under ps (commit_text n)) (knows n two.0 k).previous.0 (knows n two.0 k).previous.1

  last_or : (k n : ℕ) → k ≤ suc n → (k ≡ suc n) ⊎ (k ≤ n)
  last_or k n le = grind arith

  pub below : (n : ℕ) → n < 2 ^ 64 → IsCommitted ps n → (k : ℕ) → k ≤ n → IsCommitted ps k
  below zero small is k le = subst (λ (m : ℕ). IsCommitted ps m) (let e : 0 ≡ k = omega arith in e) is
  below (suc n) small is k le = elim (last_or k n le) [
    | inl same ↦ subst (λ (m : ℕ). IsCommitted ps m) (sym same) is
    | inr less ↦ below n (omega arith) (one_below n small is) k less
  ]

  module _ (v : ℕ) (p : Put) (small : suc v < 2 ^ 64) (is : put_under ps (commit_text (suc v)) ≡ Some p) where
    abbrev k : Committed K script replies tags past ps v p
    k = s.commits v p small is

    abbrev known_of : Knows p.tag k.op k.start k.read k.s k.view k.added (InPut ps) (InPut ps) v
    known_of = knows v p k

    -- the version that it read is the one that it loaded
    base_is : files_in k.s ≡ live_at ps k.read
    base_is = loaded_files ps k.read k.s known_of.loaded

    meta_is : meta_in k.s ≡ meta_at ps k.read
    meta_is = loaded_meta ps k.read k.s known_of.loaded

    is_op : operation_of (schema_at ps k.read) k.statement ≡ Some k.op
    is_op = ap (λ (m : Option MetaData). operation_of (schema_of m) k.statement) (sym meta_is) ∙ k.is_op

    sound : IsSound passes may k.op
    sound = each_operation_is_sound (schema_at ps k.read) k.statement k.op is_op

    files : AllGot (InPut ps) k.view (got_files k.op (live_at ps k.read))
    files = subst (λ (fs : List File). AllGot (InPut ps) k.view (got_files k.op fs)) base_is known_of.files

    abbrev rows : File → List Row
    rows = rows_of ps (meta_at ps k.read)

    -- what the commit says, where its text says its plan
    says_if : Says (suc v) p.body (effect_of k.op k.view (files_in k.s) k.added) → commit_at ps (suc v) ≡ effect_of k.op rows (live_at ps k.read) k.added
    says_if reads =
        said_is ps (suc v) p.body (effect_of k.op k.view (files_in k.s) k.added) (ap body_of is) reads
        ∙ ap (λ (fs : List File). effect_of k.op k.view fs k.added) base_is
        ∙ same_effect ps (meta_at ps k.read) k.op sound k.view (live_at ps k.read) files k.added

    -- the new rows, which its new files hold
    written : k.op.writes rows (live_at ps k.read) ≡ Some known_of.new
    written =
        sym (same_written ps (meta_at ps k.read) k.op sound k.view (live_at ps k.read) files)
        ∙ ap (λ (fs : List File). k.op.writes k.view fs) (sym base_is) ∙ known_of.written

    filled : (at : Option MetaData) → SameRows (rows_in (rows_of ps at) k.added) known_of.new
    filled at x = ap (λ (l : List Row). count_of x l) (parts_rows ps at p.tag k.start 0 k.added known_of.new known_of.parts)

    right : IsTag p.tag
    right = tags p.tag k.statement k.is_statement

  -- the text of version v + 1's commit says its plan
  abbrev pub SaysPlan : ℕ → Type 0
  SaysPlan v = (p : Put) (small : suc v < 2 ^ 64) (is : put_under ps (commit_text (suc v)) ≡ Some p) → (let k = s.commits v p small is in Says (suc v) p.body (effect_of k.op k.view (files_in k.s) k.added))

  abbrev pub AllSay : ℕ → Type 0
  AllSay n = (w : ℕ) → w < n → SaysPlan w

  -- a statement has committed none of the versions 1 to n
  abbrev pub HasNone : ℕ → Tag → Type 0
  HasNone n tag = (w : ℕ) (q : Put) → w < n → put_under ps (commit_text (suc w)) ≡ Some q → q.tag ≡ tag → ⊥

  -- a file isn't there before its statement's commit, over commits that say their plans
  pub fresh : (n : ℕ) → AllSay n → n < 2 ^ 64 → IsCommitted ps n → (tag : Tag) (start part : ℕ) → IsTag tag → part < 2 ^ 32 → HasNone n tag → times (data_text tag start part) (live_at ps n) ≡ 0
  fresh zero all small is tag start part right_tag least none = subst (λ (ls : List FileLine). times (data_text tag start part) (reconciled [] ls) ≡ 0) (sym (empty_first ps)) refl
  fresh (suc n) all small is tag start part right_tag least none =
      let two = some_put (put_under ps (commit_text (suc n))) is in
      let k = s.commits n two.0 small two.1 in
      let rest = fresh n (λ w lt. all w (omega (arith, lt))) (omega arith) (one_below n small is) tag start part right_tag least (λ w q lt. none w q (omega arith)) in
      let whose = right n two.0 small two.1 in
      subst (λ (t : Commit). times (data_text tag start part) (reconciled (live_at ps n) t.lines) ≡ 0) (sym (says_if n two.0 small two.1 (all n (omega arith) two.0 small two.1)))
      (none_more (data_text tag start part) 0 (not k.op.moves) (taken_files (rows_of ps (meta_at ps k.read)) k.op (live_at ps k.read)) k.added (live_at ps n) rest
      (parts_apart (InPut ps) two.0.tag k.start whose 0 k.added (knows n two.0 k).new (knows n two.0 k).parts (data_text tag start part)
      (λ i le small_part same. none n two.0 (omega arith) two.1 (same_file two.0.tag tag k.start start i part whose right_tag small_part least same))))

  -- each file that is there is whole: it was a part of its statement
  live_whole : (n : ℕ) → AllSay n → n < 2 ^ 64 → IsCommitted ps n → AllAre IsWholeFile (live_at ps n)
  live_whole zero all small is = subst (λ (ls : List FileLine). AllAre IsWholeFile (reconciled [] ls)) (sym (empty_first ps)) tt
  live_whole (suc n) all small is =
      let two = some_put (put_under ps (commit_text (suc n))) is in
      let k = s.commits n two.0 small two.1 in
      let rest = live_whole n (λ w lt. all w (omega (arith, lt))) (omega arith) (one_below n small is) in
      subst (λ (t : Commit). AllAre IsWholeFile (reconciled (live_at ps n) t.lines)) (sym (says_if n two.0 small two.1 (all n (omega arith) two.0 small two.1)))
      (lines_all IsWholeFile 0 (not k.op.moves) (taken_files (rows_of ps (meta_at ps k.read)) k.op (live_at ps k.read)) k.added (live_at ps n) rest
      (parts_whole (InPut ps) two.0.tag k.start (right n two.0 small two.1) 0 k.added (knows n two.0 k).new (knows n two.0 k).parts))

  -- so a plan over them is whole, if its statement has committed none of them: what it takes out was live, and what it adds wasn't
  pub plan_whole : (v : ℕ) → AllSay v → v < 2 ^ 64 → IsCommitted ps v → (tag : Tag) → IsTag tag → (start read : ℕ) (op : Operation Scope) (loaded : Snapshot) (view : File → List Row) (added : List File)
      → Knows tag op start read loaded view added (InPut ps) (InPut ps) v → HasNone v tag → IsWhole (plan_of tag start read op view (files_in loaded) added)
  plan_whole v all small is tag whose start read op loaded view added k none =
      let le = k.below in
      let live = live_at ps read in
      let least : read < 2 ^ 64 = omega (arith, le, small) in
      let there = below v small is read le in
      let upto : AllSay read = λ w lt. all w (omega (arith, lt, le)) in
      subst (λ (fs : List File). IsWhole (plan_of tag start read op view fs added)) (sym (loaded_files ps read loaded k.loaded)) (record {
        removed = picked_are IsWholeFile (op.takes view live) live (live_whole read upto least there);
        added = parts_whole (InPut ps) tag start whose 0 added k.new k.parts;
        once = λ p. let most = live_once (commit_at ps) read p in let fewer = times-picked p (op.takes view live) live in omega (arith, most, fewer);
        new = parts_new (InPut ps) tag start whose 0 added k.new k.parts (taken_files view op live) (λ i from small_part.
            let none_live = fresh read upto least there tag start i whose small_part (λ w q lt. none w q (omega (arith, lt, le))) in
            let fewer = times-picked (data_text tag start i) (op.takes view live) live in
            omega (arith, none_live, fewer));
      })

  -- each commit says its plan, by those below it
  says_plan : (v : ℕ) → AllSay v → SaysPlan v
  says_plan v all p small is =
      let k = s.commits v p small is in
      k.writes.back (plan_whole v all (omega (arith, small)) (one_below v small (is_some (put_under ps (commit_text (suc v))) p is)) p.tag (right v p small is) k.start k.read k.op k.s k.view k.added (knows v p k)
      (λ w q lt there same. let e = s.single w v q p (omega (arith, lt, small)) small there is same in absurd (omega (arith, e, lt))))

  here_or : (n v : ℕ) → v < suc n → (n ≡ v) ⊎ (v < n)
  here_or n v lt = grind arith

  pub all_say : (n : ℕ) → AllSay n
  all_say zero v lt = absurd (omega (arith, lt))
  all_say (suc n) v lt = elim (here_or n v lt) [ inl same ↦ subst SaysPlan same (says_plan n (all_say n)) | inr less ↦ all_say n v less ]

  pub reads : (v : ℕ) → SaysPlan v
  reads v = all_say (suc v) v (omega arith)

  -- what the commit says
  says : (v : ℕ) (p : Put) (small : suc v < 2 ^ 64) (is : put_under ps (commit_text (suc v)) ≡ Some p)
      → (let k = s.commits v p small is in commit_at ps (suc v) ≡ effect_of k.op (rows_of ps (meta_at ps k.read)) (live_at ps k.read) k.added)
  says v p small is = says_if v p small is (reads v p small is)

  -- no version between clashes
  cleared : (v : ℕ) (p : Put) (small : suc v < 2 ^ 64) (is : put_under ps (commit_text (suc v)) ≡ Some p) (n : ℕ) → (s.commits v p small is).read ≤ n → n < v
      → (let k = s.commits v p small is in first_clash (reads_of passes may (level_for ps k.op k.read) None (rows_of ps (meta_at ps k.read)) k.op (live_at ps k.read)) (commit_at ps (suc n)) ≡ None)
  cleared v p small is n from to =
      let k = s.commits v p small is in
      let q = (knows v p k).clear n from to in
      let there = some_put (put_under ps (commit_text (suc n))) (some_of_body (put_under ps (commit_text (suc n))) q.0 q.1) in
      let said = reads n there.0 (omega arith) there.1 in
      let same : there.0.body ≡ q.0 = some_same there.0.body q.0 (sym (ap body_of there.1) ∙ q.1) in
      let t : LogCommit = said.0 in
      let reads : read_commit (suc n) q.0 ≡ Some t = ap (read_commit (suc n)) (sym same) ∙ said.1 in
      let seen = meta_at ps k.read in
      ap (λ (said : Commit). first_clash (reads_of passes may (level_for ps k.op k.read) None (rows_of ps seen) k.op (live_at ps k.read)) said) (commit_is ps (suc n) q.0 t q.1 reads)
      ∙ sym (same_judge ps seen k.op (sound v p small is) k.view (live_at ps k.read) (files v p small is) (meta_at ps k.read) t)
      ∙ ap (λ (m : Option MetaData). judge_of m k.op k.view (live_at ps k.read) t) (sym (meta_is v p small is))
      ∙ ap (λ (fs : List File). judge_of (meta_in k.s) k.op k.view fs t) (sym (base_is v p small is))
      ∙ q.2 t reads

  -- what files say of their rows is true
  all_hold : (v : ℕ) (fs : List File) → AllHold passes may (commit_at ps) (view_of ps) (suc v) fs
  all_hold v [] = tt
  all_hold v (f ∷ fs) = (λ o out x has. says_truly f (rows_of ps (meta_at ps (suc v)) f) o out x has, all_hold v fs)

  -- no statement of today sets metadata
  meta_kept : (v : ℕ) (p : Put) (small : suc v < 2 ^ 64) → put_under ps (commit_text (suc v)) ≡ Some p → meta_at ps (suc v) ≡ meta_at ps v
  meta_kept v p small is = ap (λ (t : Commit). newer (meta_at ps v) t.meta) (says v p small is)

  landed : (v : ℕ) (p : Put) (small : suc v < 2 ^ 64) → put_under ps (commit_text (suc v)) ≡ Some p → Landed passes may (commit_at ps) (view_of ps) v
  landed v p small is = record {
    op = (s.commits v p small is).op;
    sound = sound v p small is;
    read = (s.commits v p small is).read;
    below = (knows v p (s.commits v p small is)).below;
    new = (knows v p (s.commits v p small is)).new;
    written = written v p small is;
    added = (s.commits v p small is).added;
    filled = filled v p small is (meta_at ps (suc v));
    sets =
        let k = s.commits v p small is in
        let columns = loaded_columns (InPut ps) k.read k.s (knows v p k).loaded in
        meta_kept v p small is ∙ sym (sets_none k.s columns.0 columns.1 k.statement k.op k.is_op (meta_at ps v));
    widens = inl (record { schema = ap schema_of (meta_kept v p small is); same = ap (rows_of ps) (meta_kept v p small is) });
    stamp = 0;
    lines = ap (λ (t : Commit). t.lines) (says v p small is);
    blind = ap (λ (t : Commit). is_blind t) (says v p small is);
    fresh = parts_new (InPut ps) p.tag (s.commits v p small is).start (right v p small is) 0 (s.commits v p small is).added (knows v p (s.commits v p small is)).new (knows v p (s.commits v p small is)).parts (live_at ps v)
        (λ i le least. fresh v (all_say v) (omega arith) (one_below v small (is_some (put_under ps (commit_text (suc v))) p is)) p.tag (s.commits v p small is).start i (right v p small is) least
        (λ w q lt there same. let e = s.single w v q p (omega arith) small there is same in let lt' : w < v = lt in absurd (omega arith)));
    holds = all_hold v (s.commits v p small is).added;
    txn = None;
    txns = ap (λ (t : Commit). t.txns) (says v p small is);
    above = λ app n set. cc;
    clear = cleared v p small is;
  }

  -- the commits up to a version above 0 read
  pub commits_read : (v k : ℕ) → suc v < 2 ^ 64 → IsCommitted ps (suc v) → k ≤ suc v → ReadsAt ps k
  commits_read v zero small is le =
      let first = some_put (put_under ps (commit_text 0)) (below (suc v) small is 0 le) in
      let two = some_put (put_under ps (commit_text (suc v))) is in
      let c = s.commits v two.0 small two.1 in
      let loaded = first_loaded (InPut ps) c.read c.s (knows v two.0 c).loaded in
      let same : loaded.0 ≡ (first.0).body = some_same loaded.0 (first.0).body (sym loaded.1 ∙ ap body_of first.1) in
      (first.0, first.1, loaded.2, ap (read_commit 0) (sym same) ∙ loaded.3)
  commits_read v (suc k) small is le =
      let two = some_put (put_under ps (commit_text (suc k))) (below (suc v) small is (suc k) le) in
      let said = reads k two.0 (omega (arith, small, le)) two.1 in
      (two.0, two.1, said.0, said.1)

  -- the live files of a version read
  pub files_read : (v : ℕ) → v < 2 ^ 64 → IsCommitted ps v → AllFilesRead ps (live_at ps v)
  files_read zero small is = subst (λ (ls : List FileLine). AllFilesRead ps (reconciled [] ls)) (sym (empty_first ps)) tt
  files_read (suc v) small is =
      let two = some_put (put_under ps (commit_text (suc v))) is in
      let c = s.commits v two.0 small two.1 in
      let reads = parts_read ps two.0.tag c.start 0 c.added (knows v two.0 c).new (knows v two.0 c).parts in
      subst (λ (t : Commit). AllFilesRead ps (reconciled (live_at ps v) t.lines)) (sym (says v two.0 small two.1))
      (lines_all (λ a. FileReads ps a.name) 0 (not c.op.moves) (taken_files (rows_of ps (meta_at ps c.read)) c.op (live_at ps c.read)) c.added (live_at ps v) (files_read v (omega (arith, small)) (one_below v small is)) reads)

  -- the files that a commit adds were put before it
  pub files_first : (v : ℕ) (p : Put) → suc v < 2 ^ 64 → put_under ps (commit_text (suc v)) ≡ Some p → HasFilesBefore ps p (suc v)
  files_first v p small is =
      let k = s.commits v p small is in
      let added = files_added 0 (not k.op.moves) (taken_files (rows_of ps (meta_at ps k.read)) k.op (live_at ps k.read)) k.added in
      record {
        earlier = k.earlier;
        later = k.later;
        order = k.order;
        there = subst (AllFilesRead k.earlier) (sym (ap (λ (t : Commit). added_files t.lines) (says v p small is) ∙ added)) (parts_read k.earlier p.tag k.start 0 k.added (k.knows).new (k.knows).parts);
      }

  commit_put : (n : ℕ) → n < 2 ^ 64 → IsCommitted ps n → (k : ℕ) → k < n → (p : Put) × (put_under ps (commit_text (suc k)) ≡ Some p)
  commit_put n small is k lt = some_put (put_under ps (commit_text (suc k))) (below n small is (suc k) (omega arith))

  within : (n k : ℕ) → n < 2 ^ 64 → k < n → suc k < 2 ^ 64
  within n k small lt = omega arith

  pub facts : (n : ℕ) → n < 2 ^ 64 → IsCommitted ps n → (k : ℕ) → k < n → Landed passes may (commit_at ps) (view_of ps) k
  facts n small is k lt = let two = commit_put n small is k lt in landed k two.0 (within n k small lt) two.1

  module _ (journal : Entries) (is_past : past ≡ backwards [] journal) where
    -- the operation of a version
    operation_is : (v : ℕ) (p : Put) (small : suc v < 2 ^ 64) (is : put_under ps (commit_text (suc v)) ≡ Some p) → operation_at script journal ps (suc v) ≡ Some (s.commits v p small is).op
    operation_is v p small is =
        let k = s.commits v p small is in
        let read : version_read (own p.tag journal) ≡ Some k.read = sym (given_is listed_by p.tag past journal is_past) ∙ k.listed in
        ap (operation_by script journal ps) is ∙ ap (λ (o : Option ℕ). option_and_then (operation_of (schema_read ps o)) (script p.tag)) read
        ∙ ap (λ (o : Option Statement). option_and_then (operation_of (schema_at ps k.read)) o) k.is_statement ∙ is_op v p small is

    pub is_appended : (n : ℕ) (small : n < 2 ^ 64) (is : IsCommitted ps n) → Appends passes may (commit_at ps) (view_of ps) n (facts n small is) (appended script journal ps)
    unfolding facts landed
    is_appended n small is k lt = let p = commit_put n small is k lt in ap inserted_by (operation_is k p.0 (within n k small lt) p.1)

    -- what is known of a version below another, by the journal
    pub op_is : (n : ℕ) (small : n < 2 ^ 64) (is : IsCommitted ps n) (k : ℕ) (lt : k < n) → operation_at script journal ps (suc k) ≡ Some (facts n small is k lt).op
    unfolding facts landed
    op_is n small is k lt = let p = commit_put n small is k lt in operation_is k p.0 (within n k small lt) p.1

    pub read_is : (n : ℕ) (small : n < 2 ^ 64) (is : IsCommitted ps n) (k : ℕ) (lt : k < n) → (by : Put) × (put_under ps (commit_text (suc k)) ≡ Some by) × (version_read (own by.tag journal) ≡ Some (facts n small is k lt).read)
    unfolding facts landed
    read_is n small is k lt =
        let p = commit_put n small is k lt in
        (p.0, p.1, sym (given_is listed_by (p.0).tag past journal is_past) ∙ (s.commits k p.0 (within n k small lt) p.1).listed)

    pub meta_is_kept : (n : ℕ) → n < 2 ^ 64 → IsCommitted ps n → (k : ℕ) → k < n → meta_at ps (suc k) ≡ meta_at ps k
    meta_is_kept n small is k lt = let p = commit_put n small is k lt in meta_kept k p.0 (within n k small lt) p.1

    pub step : (v : ℕ) → suc v < 2 ^ 64 → IsCommitted ps (suc v) → Step script journal ps v
    unfolding facts landed
    step v small is =
        let lt : v < suc v = omega arith in
        let two = commit_put (suc v) small is v lt in
        let k = s.commits v two.0 (within (suc v) v small lt) two.1 in
        let said = reads v two.0 (within (suc v) v small lt) two.1 in
        record {
          previous = one_below v small is;
          by = two.0;
          is_by = two.1;
          statement = k.statement;
          is_statement = k.is_statement;
          read = k.read;
          is_read = sym (given_is listed_by two.0.tag past journal is_past) ∙ k.listed;
          op = k.op;
          is_op = is_op v two.0 (within (suc v) v small lt) two.1;
          commit = said.0;
          reads = said.1;
          kept = meta_kept v two.0 (within (suc v) v small lt) two.1;
          serial = each_version_is_serial Scope passes may (commit_at ps) (view_of ps) (suc v) (facts (suc v) small is) (appended script journal ps) (empty_first ps) (is_appended (suc v) small is) v lt;
        }

    -- a version between was committed before, and not by the same statement
    won_at : (v : ℕ) (p : Put) → suc v < 2 ^ 64 → put_under ps (commit_text (suc v)) ≡ Some p → (k : Committed K script replies tags past ps v p) → (n : ℕ) → k.read < n → n < suc v → IsWonBefore ps p n
    won_at v p small is k zero from to = absurd (omega (arith, from))
    won_at v p small is k (suc n) from to =
        let below : n < v = omega (arith, to) in
        let q = k.won n (omega (arith, from)) below in
        let there : put_under ps (commit_text (suc n)) ≡ Some q.0 = ap (λ (l : List Put). put_under l (commit_text (suc n))) k.order ∙ put_under-front k.earlier (p ∷ k.later) (commit_text (suc n)) q.0 q.1 in
        record {
          winner = q.0;
          earlier = k.earlier;
          later = k.later;
          order = k.order;
          there = q.1;
          other = λ same. let e = s.single n v q.0 p (omega (arith, below, small)) small there is same in absurd (omega (arith, e, below));
        }

    -- the statement of a commit put it at each version above the one that it read
    pub lands : (v : ℕ) (p : Put) → suc v < 2 ^ 64 → put_under ps (commit_text (suc v)) ≡ Some p → Lands journal ps (suc v) p
    lands v p small is =
        let k = s.commits v p small is in
        let le = (knows v p k).below in
        let sum = k.sum in
        let count : k.tries ≡ suc v - k.read = omega (arith, sum) in
        record {
          read = k.read;
          is_read = sym (given_is listed_by p.tag past journal is_past) ∙ k.listed;
          below = omega (arith, le);
          puts = put_in_order p.tag past journal k.read k.tries is_past k.puts ∙ ap (λ (n : ℕ). versions_from (k.read + 1) n) count;
          lost = won_at v p small is k;
        }

    -- what the reply of rows claims
    pub has_read : (t : Tag) (st : Statement) (version : ℕ) (given : List Row) (read live_files : ℕ) → ClaimsRows (K t) st (own t past) version given read live_files → HasRead journal ps t version given read live_files
    has_read t st version given read live_files c =
        let more : (n b : List ℕ) → Known (K t) (own t past) n b → InPut ps n b = shown t in
        let loaded = loaded_more (Known (K t) (own t past)) (InPut ps) more (suc version) c.s c.loaded in
        let scanned = scanned_more (Known (K t) (own t past)) (InPut ps) more (said_paths (c.s).files) c.got c.scanned in
        let base : files_in c.s ≡ live_at ps version = loaded_files ps version c.s loaded in
        let seen = meta_at ps version in
        let rows : rows_of_files c.got ≡ rows_at ps version = scanned_rows ps seen (c.s).files c.got scanned ∙ ap (λ (fs : List File). rows_in (rows_of ps seen) fs) base in
        let q = put_of_body (put_under ps (commit_text version)) loaded.1 loaded.4 in
        let same : (q.0).body ≡ loaded.1 = some_same (q.0).body loaded.1 (sym (ap body_of q.1) ∙ loaded.4) in
        let long : length c.got ≡ length (live_at ps version) = scanned_long (InPut ps) (said_paths (c.s).files) c.got scanned ∙ length-paths (c.s).files ∙ ap (λ (fs : List File). length fs) base in
        record {
          is_read = sym (given_is listed_by t past journal is_past) ∙ c.listed;
          committed = some_of_body (put_under ps (commit_text version)) loaded.1 loaded.4;
          reads = (q.0, q.1, loaded.2, ap (read_commit version) same ∙ loaded.5);
          rows = subst (λ (l : List Row). Sorts l given) rows c.sorts;
          files_read = c.files_read ∙ long;
          files_live = c.files_live ∙ length-files (c.s).files ∙ ap (λ (fs : List File). length fs) base;
        }
