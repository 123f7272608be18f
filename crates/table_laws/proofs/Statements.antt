-- An answered statement's entries are lawful.
use Rattle.std.proofs.Common.{◌≡◌, inl, inr, ℕ, suc, ◌+◌, ◌≤◌, ◌<◌, ◌^◌, Bool, true, false, List, [], ◌∷◌, ◌++◌, length, refl, sym, ◌∙◌, ap, subst, arith}
use Rattle.std.specs.Prelude.{MatchBool, MatchOption, Option, Some, None, Ok, nat_lt, if◌then◌else◌}
use Rattle.std.specs.List.{filter}
use Rattle.std.proofs.lemmas.List.{append-nil, append_assoc}
use Rattle.std.proofs.lemmas.Slice.Eq.{bytes_eq-Decides}
use Rattle.std.proofs.lemmas.Bool.Decides.{nat_tests}
use Rattle.edge_api.specs.declared.call.Tag.{Tag}
use Rattle.edge_api.specs.declared.call.Call.{Call}
use Rattle.edge_api.specs.declared.call.Call.TheVariants.{Get, PutNew, List as ListNames, Now}
use Rattle.edge_api.specs.declared.call.Answer.{Answer}
use Rattle.edge_api.specs.declared.call.Answer.TheVariants.{Body}
use Rattle.edge_api.specs.declared.call.Listed.{Listed}
use Rattle.edge_api.specs.declared.call.JournalEntry.{JournalEntry}
use Rattle.op_types.specs.declared.statement.Statement.{Statement}
use Rattle.op_types.specs.declared.statement.Statement.TheVariants.{Table, Insert, Select}
use Rattle.op_types.specs.declared.statement.TableSpec.{TableSpec}
use Rattle.op_types.specs.declared.refusal.Refusal.TheVariants as refusal
use Rattle.op_types.specs.fault.Feature.TheVariants.{Versions}
use Rattle.op_types.specs.declared.reply.Reply.TheVariants.{Created, Rows}
use Rattle.table_rules.specs.Names.{log_prefix, commit_text, data_text}
use Rattle.table_rules.proofs.Names.{data_is_no_commit}
use Rattle.line_texts.specs.Texts.{text_of_columns, text_of_add, text_of_rows, rows_of_text}
use Rattle.snapshot_replay.specs.Table.{Commit, Snapshot, paths_of}
use Rattle.call_phases.specs.Phases.{Entries}
use Rattle.committer.specs.declared.judge.Verdict.TheVariants as verdict
use Rattle.statement_calls.specs.declared.finish.Kept.{Kept}
use Rattle.statement_calls.specs.declared.finish.Finish.{Finish}
use Rattle.statement_calls.specs.declared.statement.TableStatement.{TableStatement}
use Rattle.statement_calls.specs.declared.statement.TableStatement.TheVariants as over
use Rattle.statement_calls.specs.Bounds.{version_limit}
use Rattle.statement_calls.specs.Judging.{CommitPlan, verdict_of}
use Rattle.statement_calls.specs.Listing.{newest, missing}
use Rattle.statement_calls.specs.Objects.{next_commit, apply_next, commits_left, Files, next_file, scan_next, first_of, scan_first, with_rows}
use Rattle.statement_calls.specs.Outcome.{Ends, refusal_of_load, refusal_of_scan}
use Rattle.statement_calls.specs.Texts.{read_commit, read_file, file_fault}
use Rattle.statement_calls.specs.Answered.{retention, names_of, Base, base_of, kept_after, committed, AtCommit, Appends, AfterScan, Selects, AfterLoad, AtLoad, LoadsFrom, Loads, Makes, AfterList, Answered}
use Rattle.table_changes.specs.Rows.{Row}
use Rattle.table_changes.specs.Table.{File}
use Rattle.table_changes.specs.Operations.{Operation}
use Rattle.table_changes.specs.Statements.{insert_of}
use Rattle.table_laws.specs.Commits.{files_in, meta_in, schema_in}
use Rattle.table_laws.specs.Operations.{Scope, NoRow, operation_of}
use Rattle.table_laws.proofs.CommitEffects.{new_file, plan_of, Writes, judge_of}
use Rattle.table_laws.proofs.Sound.{inserts_rows}
use Rattle.table_laws.proofs.Effects.{loaded_columns}
use Rattle.table_laws.specs.Runs.{reply_in, or_first, listed_by, told_by, versions_put}
use Rattle.table_laws.proofs.Sessions.{GotIn, StoredIn, LoadedTo, KnownKept}
use Rattle.table_laws.proofs.Lawful.{Known, NoPut, AllLost, first_past, AllGot, AllScanned, Cleared, Knows, versions_down, AllWon, IsOwn, IsFile, IsTable, IsCommit, AllLawful}
use Rattle.table_laws.proofs.Known.{loaded_more, knows_more, scanned_more, scanned_push}
use Rattle.table_laws.proofs.Phases.{lost_below, still_below, same_put, now_no_put, list_no_put, none_put, no_commit_put, lost_other, lost_to, given_more, known_more, Fresh, fresh_get, none_lost, replied, ended_lost, at_now, at_list, at_gets, at_put_new, at_attempt}
use Rattle.table_laws.proofs.Loads.{Loading, loading_more, loading_on, all_loaded, base_known}
use Rattle.table_laws.proofs.Texts.{append_writes, append_clears}
use Rattle.table_laws.proofs.Versions.{data_put, other_put, one_put, no_versions}

still_won : (e : JournalEntry) (past : Entries) (read v : ℕ) → AllWon past read v → AllWon (e ∷ past) read v
still_won e past read v won k from to = let w = won k from to in (w.0, inr w.1)

-- one more winner
one_won : (e f : JournalEntry) (past : Entries) (read v : ℕ) (body : List ℕ) → f.call ≡ Get (commit_text (suc v)) → f.answer ≡ Body body → AllWon past read v → AllWon (f ∷ e ∷ past) read (suc v)
one_won e f past read v body got answer won k from to = by (nat_lt k v) refl
  where
    by : (b : Bool) → nat_lt k v ≡ b → (text : List ℕ) × GotIn (f ∷ e ∷ past) (commit_text (suc k)) text
    by true less = let w = won k from (grind (arith, nat_tests)) in (w.0, inr (inr w.1))
    by false more = let same : v ≡ k = grind (arith, nat_tests) in (body, inl (got ∙ ap (λ (n : ℕ). Get (commit_text (suc n))) same, answer))

-- what a statement knows before an attempt, after so many lost ones
pub record Attempts (K : List ℕ → List ℕ → Type 0) (tag : Tag) (op : Operation Scope) (start read : ℕ) (s : Snapshot) (view : File → List Row) (added : List File) (lost : ℕ) (past : Entries) : Type 0 where
  pub before : ℕ
  pub next : suc read + lost ≡ suc before
  pub started : first_past told_by past ≡ Some start
  pub listed : first_past listed_by past ≡ Some read
  pub knows : Knows tag op start read s view added (Known K past) (StoredIn past) before
  pub all_lost : AllLost past
  pub puts : versions_put past ≡ versions_down read lost
  pub won : AllWon past read before

module _ (K : List ℕ → List ℕ → Type 0) (tag : Tag) (op : Operation Scope) (start read : ℕ) (s : Snapshot) (view : File → List Row) (added : List File) where
  grown : (v : ℕ) (past : Entries) (e : JournalEntry) → Knows tag op start read s view added (Known K past) (StoredIn past) v → Knows tag op start read s view added (Known K (e ∷ past)) (StoredIn (e ∷ past)) v
  grown v past e k = knows_more tag op start read s view added (Known K past) (StoredIn past) (Known K (e ∷ past)) (StoredIn (e ∷ past)) v (known_more K past e) (λ n b h. inr h) k

  -- a winner without a clash: the next version may be tried
  won_over : (v : ℕ) (G S : List ℕ → List ℕ → Type 0) (body : List ℕ) → G (commit_text (suc v)) body → ((t : Commit) → read_commit (suc v) body ≡ Some t → judge_of (meta_in s) op view (files_in s) t ≡ None)
      → Knows tag op start read s view added G S v → Knows tag op start read s view added G S (suc v)
  won_over v G S body got clear k = record {
    below = let b = k.below in omega arith;
    loaded = k.loaded;
    files = k.files;
    new = k.new;
    written = k.written;
    parts = k.parts;
    previous = (body, got);
    clear = λ n from to. by n from to (nat_lt n v) refl;
  }
    where
      by : (n : ℕ) → read ≤ n → n < suc v → (b : Bool) → nat_lt n v ≡ b → Cleared G (judge_of (meta_in s) op view (files_in s)) n
      by n from to true e = k.clear n from (grind (arith, nat_tests))
      by n from to false e = let same : v ≡ n = grind (arith, nat_tests) in subst (λ (m : ℕ). Cleared G (judge_of (meta_in s) op view (files_in s)) m) same (body, got, clear)

  module _ (statement : Statement) (is_op : operation_of (schema_in s) statement ≡ Some op) (plan : CommitPlan)
      (writes : (v : ℕ) → Writes (suc v) plan.text (plan_of tag start read op view (files_in s) added)) (own : IsOwn tag start added) (is_insert : (rows : List Row) × (statement ≡ Insert rows))
      (clears : (k : ℕ) (body winner : List ℕ) → verdict_of plan body ≡ verdict.Clear winner → (t : Commit) → read_commit (suc k) body ≡ Some t → judge_of (meta_in s) op view (files_in s) t ≡ None) where
    abbrev P : ℕ → Entries → Type 0
    P lost past = Attempts K tag op start read s view added lost past

    written : (v version : ℕ) → suc v ≡ version → Writes version plan.text (plan_of tag start read op view (files_in s) added)
    written v version is = subst (λ (n : ℕ). Writes n plan.text (plan_of tag start read op view (files_in s) added)) is (writes v)

    pub attempts : (limit : ℕ) (out : Option Finish) (kept : Option Kept) (past es : Entries) → suc read + (0 + limit) < 2 ^ 60 → P 0 past → AtCommit tag limit out kept start (suc read) plan (committed read) es
        → AllLawful K tag statement (reply_in out) past es
    attempts limit out kept past es small p h =
        at_attempt K tag statement out kept plan (record { start = start; retention = retention; first = suc read }) (committed read) P
        (λ lost past p. p.all_lost)
        (λ lost past e is p. record {
          before = p.before;
          next = p.next;
          started = given_more told_by past e start p.started;
          listed = given_more listed_by past e read p.listed;
          knows = grown p.before past e p.knows;
          all_lost = lost_other e past (no_commit_put e Now is now_no_put) p.all_lost;
          puts = other_put e past Now is refl ∙ p.puts;
          won = still_won e past read p.before p.won;
        })
        (λ lost past small p. IsCommit (record {
          version = p.before;
          is = ap commit_text p.next;
          small = let n = p.next in omega arith;
          op = op;
          is_op = is_op;
          start = start;
          read = read;
          s = s;
          view = view;
          added = added;
          writes = writes p.before;
          started = p.started;
          listed = p.listed;
          knows = p.knows;
          lost = p.all_lost;
          tries = lost;
          sum = let n = p.next in omega arith;
          puts = p.puts;
          won = p.won;
        }))
        (λ lost past e f body winner put got answer why clear small p. record {
          before = suc p.before;
          next = let n = p.next in omega arith;
          started = given_more told_by (e ∷ past) f start (given_more told_by past e start p.started);
          listed = given_more listed_by (e ∷ past) f read (given_more listed_by past e read p.listed);
          knows = won_over p.before (Known K (f ∷ e ∷ past)) (StoredIn (f ∷ e ∷ past)) body (inr (inl (got ∙ ap (λ (n : ℕ). Get (commit_text n)) p.next, answer))) (clears p.before body winner clear)
              (grown p.before (e ∷ past) f (grown p.before past e p.knows));
          all_lost = lost_to e f past (commit_text (suc read + lost)) plan.text body put got answer why p.all_lost;
          puts = other_put f (e ∷ past) (Get (commit_text (suc read + lost))) got refl ∙ one_put e past (suc read + lost) plan.text (omega (arith, small)) put ∙ ap (λ (n : ℕ). n ∷ versions_put past) (let n : suc read + lost ≡ read + suc lost = omega arith in n)
              ∙ ap (λ (l : List ℕ). (read + suc lost) ∷ l) p.puts;
          won = one_won e f past read p.before body (got ∙ ap (λ (n : ℕ). Get (commit_text n)) p.next) answer p.won;
        })
        (λ lost past e l put answer version attempts small p. record {
          is_insert = is_insert;
          sum = omega arith;
          above = omega arith;
          small = omega arith;
          listed = given_more listed_by past e read p.listed;
          op = op;
          start = start;
          s = s;
          view = view;
          added = added;
          own = own;
          body = plan.text;
          before = p.before;
          next = let n = p.next in omega arith;
          writes = written p.before l.version (let n = p.next in omega arith);
          knows = grown p.before past e p.knows;
          lost = lost_below e past (suc read + lost) plan.text l.version version (omega (arith, small)) put p.all_lost;
          there = inl (inl (put ∙ ap (λ (v : ℕ). PutNew (commit_text v) plan.text) (sym version), answer));
        })
        (λ lost past e f l put fault got answer version attempts small p. record {
          is_insert = is_insert;
          sum = omega arith;
          above = omega arith;
          small = omega arith;
          listed = given_more listed_by (e ∷ past) f read (given_more listed_by past e read p.listed);
          op = op;
          start = start;
          s = s;
          view = view;
          added = added;
          own = own;
          body = plan.text;
          before = p.before;
          next = let n = p.next in omega arith;
          writes = written p.before l.version (let n = p.next in omega arith);
          knows = grown p.before (e ∷ past) f (grown p.before past e p.knows);
          lost = still_below f (e ∷ past) (commit_text (suc read + lost)) got l.version (lost_below e past (suc read + lost) plan.text l.version version (omega (arith, small)) put p.all_lost);
          there = inr (inl (got ∙ ap (λ (v : ℕ). Get (commit_text v)) (sym version), answer));
        })
        limit 0 [] past es small p h

module _ (K : List ℕ → List ℕ → Type 0) (tag : Tag) (limit : ℕ) (limited : limit < 2 ^ 32) where
  -- an append: its data file, then its commit
  appends : (rows : List Row) → rows_of_text (text_of_rows rows) ≡ Some rows → (out : Option Finish) (kept : Option Kept) (start read : ℕ) (s : Snapshot) (past es : Entries) → read < version_limit → LoadedTo (Known K past) (suc read) s → Fresh start read past
      → Appends tag limit out rows kept start read es → AllLawful K tag (Insert rows) (reply_in out) past es
  appends rows faithful out kept start read s past es small loaded fresh h =
      at_put_new K tag (Insert rows) out kept (data_text tag start 0) (text_of_rows rows) _ _ _ past es (none_lost past fresh.none) (IsFile start 0 fresh.started (omega arith) refl (fresh.none (data_text tag start 0))) h
      (λ e rest put is on. ended_lost K tag (Insert rows) out kept _ (e ∷ past) rest (still e put) on)
      (λ e rest put is on.
      attempts K tag (insert_of NoRow rows) start read s (λ a. []) (new_file tag start 0 ∷ []) (Insert rows) (inserts_rows s columns.0 columns.1 rows) (record { text = text_of_add (data_text tag start 0); makes_table = false })
      (append_writes tag start read rows (λ a. []) (files_in s)) (record { part = 0; small = omega arith; more = []; is = refl }) (rows, refl) (λ k body winner clear t reads. append_clears (meta_in s) rows (λ a. []) (files_in s) k body t reads)
      limit out kept (e ∷ past) rest (omega arith)
      (record {
        before = read;
        next = omega arith;
        started = given_more told_by past e start fresh.started;
        listed = given_more listed_by past e read fresh.listed;
        knows = record {
          below = omega arith;
          loaded = loaded_more (Known K past) (Known K (e ∷ past)) (known_more K past e) (suc read) s loaded;
          files = none_got (Known K (e ∷ past)) (files_in s);
          new = rows;
          written = refl;
          parts = (rows, [], sym (append-nil rows), record { small = omega arith; is = refl; body = text_of_rows rows; known = inl (put, is); reads = faithful }, refl);
          previous = (loaded.1, known_more K past e (commit_text read) loaded.1 loaded.4);
          clear = λ k from to. absurd (let a : read ≤ k = from in let b : k < read = to in omega arith);
        };
        all_lost = still e put;
        puts = other_put e past (PutNew (data_text tag start 0) (text_of_rows rows)) put (data_put tag start 0 (text_of_rows rows)) ∙ no_versions past fresh.none;
        won = λ k from to. absurd (let a : read ≤ k = from in let b : k < read = to in omega arith);
      }) on)
      (λ e rest put is on. ended_lost K tag (Insert rows) out kept _ (e ∷ past) rest (still e put) on)
    where
      columns : (columns : List (List ℕ)) × (s.columns ≡ Some columns)
      columns = loaded_columns (Known K past) read s loaded

      -- it gets no files
      none_got : (G : List ℕ → List ℕ → Type 0) (fs : List File) → AllGot G (λ a. []) (filter (λ a. false) fs)
      none_got G [] = tt
      none_got G (a ∷ fs) = none_got G fs

      still : (e : JournalEntry) → e.call ≡ PutNew (data_text tag start 0) (text_of_rows rows) → AllLost (e ∷ past)
      still e put = lost_other e past (λ v b other. data_is_no_commit tag start 0 v (let two = same_put _ _ _ _ (sym put ∙ other) in two.0)) (none_lost past fresh.none)

  -- a select that has got these of its files
  record Scans (start read : ℕ) (s : Snapshot) (f : Files) (past : Entries) : Type 0 where
    done : List (List ℕ)
    all : done ++ f.paths ≡ paths_of s.files
    scanned : AllScanned (Known K past) done f.got
    loaded : LoadedTo (Known K past) (suc read) s
    fresh : Fresh start read past

  -- one file more
  scans_on : (start read : ℕ) (s : Snapshot) (f new : Files) (name body : List ℕ) (e : JournalEntry) (past : Entries) → next_file f ≡ Some name → e.call ≡ Get name → e.answer ≡ Body body → scan_next f body ≡ Ok new → Scans start read s f past → Scans start read s new (e ∷ past)
  scans_on start read s f new name body e past wanted call answer read_it x = by f.paths x.all wanted read_it
    where
      with_file : (path : List ℕ) (paths : List (List ℕ)) (rows : List Row) → x.done ++ path ∷ paths ≡ paths_of s.files → path ≡ name → read_file body ≡ Some rows → record { paths = paths; got = f.got ++ record { path = path; rows = rows } ∷ [] } ≡ new
          → Scans start read s new (e ∷ past)
      with_file path paths rows all same reads is =
          subst (λ (n : Files). Scans start read s n (e ∷ past)) is
          (record {
            done = x.done ++ path ∷ [];
            all = append_assoc x.done (path ∷ []) paths ∙ all;
            scanned = scanned_push (Known K (e ∷ past)) x.done f.got path (record { path = path; rows = rows }) (scanned_more (Known K past) (Known K (e ∷ past)) (known_more K past e) x.done f.got x.scanned)
                (body, inr (inl (call ∙ ap (λ (n : List ℕ). Get n) (sym same), answer)), reads);
            loaded = loaded_more (Known K past) (Known K (e ∷ past)) (known_more K past e) (suc read) s x.loaded;
            fresh = fresh_get start read past e name call x.fresh;
          })

      by_rows : (path : List ℕ) (paths : List (List ℕ)) (o : Option (List Row)) → read_file body ≡ o → x.done ++ path ∷ paths ≡ paths_of s.files → path ≡ name → with_rows path paths f.got (file_fault body) o ≡ Ok new → Scans start read s new (e ∷ past)
      by_rows path paths None reads all same is = cc
      by_rows path paths (Some rows) reads all same is = with_file path paths rows all same reads (cc)

      by : (paths : List (List ℕ)) → x.done ++ paths ≡ paths_of s.files → first_of paths ≡ Some name → scan_first paths f.got body ≡ Ok new → Scans start read s new (e ∷ past)
      by [] all first is = cc
      by (path ∷ paths) all first is = by_rows path paths (read_file body) refl all (cc) is

  -- a select: its files, then their rows
  selects : (out : Option Finish) (kept : Option Kept) (start read : ℕ) (s : Snapshot) (past es : Entries) → LoadedTo (Known K past) (suc read) s → Fresh start read past → Selects tag limit out s kept read es → AllLawful K tag Select (reply_in out) past es
  selects out kept start read s past es loaded fresh h =
      at_gets K tag Select out kept next_file scan_next refusal_of_scan (λ f rest. AfterScan tag limit out kept read (length s.files) f rest) (Scans start read s)
      (λ f past x. none_lost past (x.fresh).none) (scans_on start read s)
      (record { paths = paths_of s.files; got = [] }) past es (record { done = []; all = refl; scanned = tt; loaded = loaded; fresh = fresh }) h
      (λ f past rest none x on. by f past rest x (none_left f.paths none) on)
    where
      none_left : (paths : List (List ℕ)) → first_of paths ≡ None → paths ≡ []
      none_left [] none = refl
      none_left (path ∷ paths) none = cc

      by : (f : Files) (past rest : Entries) → Scans start read s f past → f.paths ≡ [] → AfterScan tag limit out kept read (length s.files) f rest → AllLawful K tag Select (reply_in out) past rest
      by f past rest x none (inl short) = ended_lost K tag Select out kept refusal.NoMemory past rest (none_lost past (x.fresh).none) short
      by f past rest x none (inr on) =
          let all : x.done ≡ paths_of s.files = sym (append-nil x.done) ∙ ap (λ (ps : List (List ℕ)). x.done ++ ps) (sym none) ∙ x.all in
          replied K tag Select out kept (Rows read on.0 (length f.got) (length s.files)) past rest
          (record {
            is_select = refl;
            listed = (x.fresh).listed;
            s = s;
            loaded = x.loaded;
            got = f.got;
            scanned = subst (λ (ps : List (List ℕ)). AllScanned (Known K past) ps f.got) all x.scanned;
            sorts = on.1;
            files_read = refl;
            files_live = refl;
          }) on.2

  -- the statement whose work over a loaded table it is
  abbrev whole : TableStatement → Statement
  whole (over.Insert rows) = Insert rows
  whole over.Select = Select

  loaded_then : (statement : TableStatement) → ((rows : List Row) → whole statement ≡ Insert rows → rows_of_text (text_of_rows rows) ≡ Some rows) → (out : Option Finish) (kept : Option Kept) (start read : ℕ) (s : Snapshot) (past es : Entries) → read < version_limit
      → LoadedTo (Known K past) (suc read) s → Fresh start read past → AfterLoad tag limit out statement start read kept s es → AllLawful K tag (whole statement) (reply_in out) past es
  loaded_then (over.Insert rows) faithful out kept start read s past es small loaded fresh h = appends rows (faithful rows refl) out kept start read s past es small loaded fresh h
  loaded_then over.Select faithful out kept start read s past es small loaded fresh h = selects out kept start read s past es loaded fresh h

  -- the newest version is loaded from a base on
  at_base : (statement : TableStatement) → ((rows : List Row) → whole statement ≡ Insert rows → rows_of_text (text_of_rows rows) ≡ Some rows) → (out : Option Finish) (start v : ℕ) (base : Base) (past es : Entries) → v < version_limit
      → Loading K (suc v) base.commits → Fresh start v past → AtLoad tag limit out statement start v base es → AllLawful K tag (whole statement) (reply_in out) past es
  at_base statement faithful out start v base past es small known fresh h =
      at_gets K tag (whole statement) out base.spare next_commit apply_next refusal_of_load
      (λ c rest. AfterLoad tag limit out statement start v (Some (kept_after base.spare (record { versions = suc v; state = c.table }))) c.table rest) (λ c past. Loading (Known K past) (suc v) c × Fresh start v past)
      (λ c past x. none_lost past (x.1).none)
      (λ c new name body e past wanted call answer is x. (
        loading_on (Known K (e ∷ past)) (suc v) c new name body wanted (inr (inl (call, answer))) is (loading_more (Known K past) (Known K (e ∷ past)) (known_more K past e) (suc v) c x.0),
        fresh_get start v past e name call x.1,
      ))
      base.commits past es
      (loading_more K (Known K past) (λ n b k. inl k) (suc v) base.commits known, fresh) h
      (λ c past' rest done x on. loaded_then statement faithful out _ start v c.table past' rest small (all_loaded (Known K past') (suc v) c done x.0) x.1 on)

  loads : (kept : Option Kept) → KnownKept K kept → (statement : TableStatement) → ((rows : List Row) → whole statement ≡ Insert rows → rows_of_text (text_of_rows rows) ≡ Some rows)
      → (out : Option Finish) (start : ℕ) (l : List Listed) (o : Option ℕ) (past es : Entries) → NoPut past → first_past told_by past ≡ Some start → ((v : ℕ) → o ≡ Some v → first_past listed_by past ≡ Some v)
      → Loads tag limit out statement start l kept o es → AllLawful K tag (whole statement) (reply_in out) past es
  loads kept held statement faithful out start l None past es none started seen h = ended_lost K tag (whole statement) out kept refusal.NoTable past es (none_lost past none) h
  loads kept held statement faithful out start l (Some v) past es none started seen h = by (nat_lt v version_limit) refl h
    where
      from : v < version_limit → (o : Option ℕ) → MatchOption o (AtLoad tag limit out statement start v (base_of kept v) es) (λ k. Ends out kept (refusal.LogGone (commit_text k)) es) → AllLawful K tag (whole statement) (reply_in out) past es
      from small (Some k) on = ended_lost K tag (whole statement) out kept (refusal.LogGone (commit_text k)) past es (none_lost past none) on
      from small None on = at_base statement faithful out start v (base_of kept v) past es small (base_known K kept v held).0 (record { none = none; started = started; listed = seen v refl }) on

      cut_or : v < version_limit → LoadsFrom tag limit out statement start l kept v (base_of kept v) es → AllLawful K tag (whole statement) (reply_in out) past es
      cut_or small (inl short) = ended_lost K tag (whole statement) out kept refusal.NoMemory past es (none_lost past none) short
      cut_or small (inr on) = from small (missing l (base_of kept v).commits.at (commits_left (base_of kept v).commits)) on

      by : (b : Bool) → nat_lt v version_limit ≡ b → MatchBool b (LoadsFrom tag limit out statement start l kept v (base_of kept v) es) (Ends out kept (refusal.Unsupported Versions) es)
          → AllLawful K tag (whole statement) (reply_in out) past es
      by true e on = cut_or (grind (arith, nat_tests)) on
      by false e on = ended_lost K tag (whole statement) out kept (refusal.Unsupported Versions) past es (none_lost past none) on

  -- the making of a table
  makes : (spec : TableSpec) (start : ℕ) (out : Option Finish) (kept : Option Kept) (o : Option ℕ) (past es : Entries) → NoPut past → first_past told_by past ≡ Some start → Makes tag limit out spec.columns start kept o es → AllLawful K tag (Table spec) (reply_in out) past es
  makes spec start out kept (Some v) past es none started h = ended_lost K tag (Table spec) out kept refusal.TableThere past es (none_lost past none) h
  makes spec start out kept None past es none started h =
      at_attempt K tag (Table spec) out kept (record { text = text_of_columns (names_of spec.columns); makes_table = true }) (record { start = start; retention = retention; first = 0 }) (λ l. Created) (λ lost past. (lost ≡ 0) × NoPut past × (first_past told_by past ≡ Some start))
      (λ lost past p. none_lost past p.1)
      (λ lost past e is p. (p.0, none_put e past Now is now_no_put p.1, given_more told_by past e start p.2))
      (λ lost past small p. IsTable spec (start, p.2) refl (ap commit_text (first lost p.0)) refl p.1)
      (λ lost past e f body winner put got answer why clear small p. cc)
      (λ lost past e l put answer version attempts small p.
      let here = put_first e lost p.0 put in
      record { spec = spec; is_table = refl; puts = put_once e past p.1 here; there = inl (inl (here, answer)) })
      (λ lost past e f l put fault got answer version attempts small p.
      let here = put_first e lost p.0 put in
      let there : f.call ≡ Get (commit_text 0) = got ∙ ap (λ (n : ℕ). Get (commit_text n)) (first lost p.0) in
      record { spec = spec; is_table = refl; puts = other_put f (e ∷ past) (Get (commit_text 0)) there refl ∙ put_once e past p.1 here; there = inr (inl (there, answer), inr (inl (here, fault))) })
      limit 0 [] past es (omega arith) (refl, none, started) h
    where
      first : (lost : ℕ) → lost ≡ 0 → 0 + lost ≡ 0
      first lost is = omega arith

      put_first : (e : JournalEntry) (lost : ℕ) → lost ≡ 0 → e.call ≡ PutNew (commit_text (0 + lost)) (text_of_columns (names_of spec.columns)) → e.call ≡ PutNew (commit_text 0) (text_of_columns (names_of spec.columns))
      put_first e lost is put = put ∙ ap (λ (n : ℕ). PutNew (commit_text n) (text_of_columns (names_of spec.columns))) (first lost is)

      put_once : (e : JournalEntry) (past : Entries) → NoPut past → e.call ≡ PutNew (commit_text 0) (text_of_columns (names_of spec.columns)) → versions_put (e ∷ past) ≡ 0 ∷ []
      put_once e past none put = one_put e past 0 (text_of_columns (names_of spec.columns)) (omega arith) put ∙ ap (λ (vs : List ℕ). 0 ∷ vs) (no_versions past none)

  after_list : (kept : Option Kept) → KnownKept K kept → (statement : Statement) → ((rows : List Row) → statement ≡ Insert rows → rows_of_text (text_of_rows rows) ≡ Some rows)
      → (out : Option Finish) (start : ℕ) (l : List Listed) (past es : Entries) → NoPut past → first_past told_by past ≡ Some start → ((v : ℕ) → newest l ≡ Some v → first_past listed_by past ≡ Some v)
      → AfterList tag limit out statement kept start l es → AllLawful K tag statement (reply_in out) past es
  after_list kept held (Table spec) faithful out start l past es none started seen h = makes spec start out kept (newest l) past es none started h
  after_list kept held (Insert rows) faithful out start l past es none started seen h = loads kept held (over.Insert rows) faithful out start l (newest l) past es none started seen h
  after_list kept held Select faithful out start l past es none started seen h = loads kept held over.Select faithful out start l (newest l) past es none started seen h

  -- an answered statement's entries are lawful
  pub answered_lawful : (kept : Option Kept) → KnownKept K kept → (statement : Statement) → ((rows : List Row) → statement ≡ Insert rows → rows_of_text (text_of_rows rows) ≡ Some rows)
      → (es : Entries) (out : Option Finish) → Answered tag limit kept statement es out → AllLawful K tag statement (reply_in out) [] es
  answered_lawful kept held statement faithful es out h =
      at_now K tag statement out kept _ _ [] es (none_lost [] (λ n b a k. absurd k)) h (λ start e rest now time on.
      let quiet = none_put e [] Now now now_no_put (λ n b a k. absurd k) in
      let started : first_past told_by (e ∷ []) ≡ Some start = ap (λ (x : Call). told_by x e.answer) now ∙ ap (λ (a : Answer). told_by Now a) time in
      at_list K tag statement out kept _ log_prefix _ (e ∷ []) rest (start, started) (none_lost (e ∷ []) quiet) on (λ l f rest' call names on'.
      after_list kept held statement faithful out start l (f ∷ e ∷ []) rest'
      (none_put f (e ∷ []) (ListNames log_prefix) call (list_no_put log_prefix) quiet)
      (given_more told_by (e ∷ []) f start started)
      (λ v is.
      ap (λ (x : Call). or_first (listed_by x e.answer) (listed_by f.call f.answer)) now
      ∙ ap (λ (x : Call). listed_by x f.answer) call ∙ ap (λ (a : Answer). listed_by (ListNames log_prefix) a) names
      ∙ ap (λ (b : Bool). if b then newest l else None) ((bytes_eq-Decides log_prefix log_prefix).1 refl) ∙ is) on'))
